use Rattle.std.proofs.Common.{rules, sym, ap, ◌∙◌}
use Rattle.c_syntax.specs.Types.{ctype_tree}
use Rattle.c_syntax.proofs.TypeTrees.{ctype_pointer, ctype_array}
use Rattle.c_layout.specs.RowTypes.{unqualified}
use Rattle.c_layout.proofs.Unqualified.{no_pointer, no_array}
use Rattle.c_layout.proofs.qualified.same_but_const.Goals as goal

pub returns-in_default : goal.returns-in_default
returns-in_default c =
    (search rules, λ e. absurd (no_pointer _ c.in_default.not-Pointer _ (sym (ap unqualified (ap ctype_tree c.in-Pointer.is ∙ ctype_pointer _)) ∙ c.loop-a.invariant.1 e)))

pub returns-in_default-b : goal.returns-in_default-b
returns-in_default-b c =
    (search rules, λ e. absurd (no_array _ c.in_default-b.not-Array _ _ (sym (ap unqualified (ap ctype_tree c.in-Array.is ∙ ctype_array _ _)) ∙ c.loop-a.invariant.1 e)))
