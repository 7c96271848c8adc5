-- Parameters that are no struct.
use Rattle.std.proofs.Common.{◌≡◌, refl, ℕ, Bool}
use Rattle.std.specs.Prelude.{Option}
use Rattle.c_syntax_written.specs.declared.place.Pos.{Pos}
use Rattle.c_syntax.specs.Types.{CTypeTree, Void, Int, Pointer, Array, Struct, Function}
use Rattle.c_typing.specs.World.{World, Parameter, Typed}
use Rattle.c_typing.specs.Declarators.{DeclaredName}
use Rattle.c_typing.specs.Typing.{unless_named_before, parameter_tree, with_parameter, parameter_sized}

pub scalar_sized : (w : World) (at : Pos) (named : Option DeclaredName) (k : ℕ) (ty : CTypeTree) (is_const : Bool) → ((n : ℕ) → ty ≡ Struct n → ⊥)
    → unless_named_before w named (Typed (parameter_tree at named ty is_const) (with_parameter w named (Parameter k ty is_const))) ≡ parameter_sized w at named k ty is_const
scalar_sized w at named k Void c h = refl
scalar_sized w at named k (Int t) c h = refl
scalar_sized w at named k (Pointer to b) c h = refl
scalar_sized w at named k (Array of b n) c h = refl
scalar_sized w at named k (Struct n) c h = absurd (h n refl)
scalar_sized w at named k (Function n) c h = refl
