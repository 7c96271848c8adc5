use Rattle.std.proofs.Common.{rules, sym, ap, ◌∙◌}
use Rattle.c_syntax.specs.Types.{ctype_tree}
use Rattle.c_syntax.proofs.TypeTrees.{ctype_pointer, ctype_array, not_pointer, not_array}
use Rattle.c_syntax.proofs.types.same_type.Goals as goal

pub returns-in_default : goal.returns-in_default
returns-in_default c =
    (search rules, λ e. absurd (not_pointer _ c.in_default.not-Pointer _ _ (sym (c.loop-a.invariant.1 e) ∙ ap ctype_tree c.in-Pointer.is ∙ ctype_pointer _)))

pub returns-in_default-b : goal.returns-in_default-b
returns-in_default-b c =
    (search rules, λ e. absurd (not_array _ c.in_default-b.not-Array _ _ _ (sym (c.loop-a.invariant.1 e) ∙ ap ctype_tree c.in-Array.is ∙ ctype_array _ _)))
