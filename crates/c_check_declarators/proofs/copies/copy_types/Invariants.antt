use Rattle.std.proofs.Common.{◌≡◌, map, take}
use Rattle.c_syntax.specs.Types.{ctype_tree}
use Rattle.c_check_declarators.proofs.copies.copy_types.Given as goal

abbrev pub invariant-loop-ty : goal.invariant-loop-ty
invariant-loop-ty l = map ctype_tree l.copies.items ≡ map ctype_tree (take l.ty-index l.types)
