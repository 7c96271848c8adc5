-- Returns without a value.
use Rattle.std.proofs.Common.{◌≡◌, refl}
use Rattle.std.specs.Prelude.{None}
use Rattle.c_syntax_written.specs.declared.place.Pos.{Pos}
use Rattle.c_syntax.specs.declared.op.Op.TheVariants as ops
use Rattle.c_syntax.specs.Types.{CTypeTree, Void, Int, Pointer, Array, Struct, Function}
use Rattle.c_typing.specs.World.{World, Refused, no_rule}
use Rattle.c_typing.specs.Stmts.{returned_bare}

-- a function that gives something has none
pub bare_refused : (w : World) (at : Pos) (ty : CTypeTree) → (ty ≡ Void → ⊥) → Refused (no_rule w at ops.Return ty None) ≡ returned_bare w at ty
bare_refused w at Void h = absurd (h refl)
bare_refused w at (Int t) h = refl
bare_refused w at (Pointer to c) h = refl
bare_refused w at (Array of c n) h = refl
bare_refused w at (Struct n) h = refl
bare_refused w at (Function n) h = refl
