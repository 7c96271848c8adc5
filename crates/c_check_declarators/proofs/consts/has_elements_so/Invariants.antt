use Rattle.std.proofs.Common.{◌≡◌}
use Rattle.c_syntax.specs.Types.{ctype_tree}
use Rattle.c_typing.specs.Specifiers.{with_const_elements}
use Rattle.c_check_declarators.proofs.consts.has_elements_so.Given as goal

-- what is left decides for all
abbrev pub invariant-inward : goal.invariant-inward
invariant-inward l = with_const_elements (ctype_tree l.part) l.is_const ≡ ctype_tree l.part → with_const_elements (ctype_tree l.ty) l.is_const ≡ ctype_tree l.ty
