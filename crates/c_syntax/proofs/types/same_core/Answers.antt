use Rattle.std.proofs.Common.{rules, sym, ap, ◌∙◌}
use Rattle.c_syntax.specs.Types.{ctype_tree}
use Rattle.c_syntax.proofs.TypeTrees.{ctype_void, ctype_int, ctype_struct, ctype_function, not_void, not_int, not_struct, not_function}
use Rattle.c_syntax.proofs.types.same_core.Goals as goal

pub returns-in_default : goal.returns-in_default
returns-in_default c =
    (search rules, λ e. absurd (not_void _ c.in_default.not-Void (sym e ∙ ap ctype_tree c.in-Void.is ∙ ctype_void)))

pub returns-in_default-b : goal.returns-in_default-b
returns-in_default-b c =
    (search rules, λ e. absurd (not_int _ c.in_default-b.not-Int _ (sym e ∙ ap ctype_tree c.in-Int.is ∙ ctype_int _)))

pub returns-in_default-b-2 : goal.returns-in_default-b-2
returns-in_default-b-2 c =
    (search rules, λ e. absurd (not_struct _ c.in_default-b-2.not-Struct _ (sym e ∙ ap ctype_tree c.in-Struct.is ∙ ctype_struct _)))

pub returns-in_default-b-3 : goal.returns-in_default-b-3
returns-in_default-b-3 c =
    (search rules, λ e. absurd (not_function _ c.in_default-b-3.not-Function _ (sym e ∙ ap ctype_tree c.in-Function.is ∙ ctype_function _)))
