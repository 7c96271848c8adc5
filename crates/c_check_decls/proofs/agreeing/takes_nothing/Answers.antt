use Rattle.std.proofs.Common.{◌≡◌, ◌≤◌, refl, arith, false, List, [], ◌∷◌, length, map}
use Rattle.c_syntax.specs.declared.types.CType.{CType}
use Rattle.c_syntax.specs.Types.{ctype_tree}
use Rattle.c_typing.specs.SameTypes.{are_same}
use Rattle.c_check_decls.proofs.agreeing.takes_nothing.Goals as goal

takes_some : (params : List CType) → 1 ≤ length params → false ≡ are_same (map ctype_tree params) []
takes_some [] h = absurd (omega (arith, h))
takes_some (ty ∷ rest) h = refl

pub returns-in-len1-up : goal.returns-in-len1-up
returns-in-len1-up c = takes_some c.args.params.now (omega (arith, c.in-len1-up.len_at_least))
