use Rattle.std.proofs.Common.{sym, ap, ◌∙◌}
use Rattle.c_grammar.specs.Made.{has_typedef}
use Rattle.c_parser.proofs.NewTypes.{declares_no_type, function_names_no_type, nothing_added}
use Rattle.c_parser.proofs.outer.types_after.Goals as goal

pub returns-then-not-has_typedef : goal.returns-then-not-has_typedef
returns-then-not-has_typedef c = nothing_added _ _ _ c.in-Declared.is (declares_no_type _ (ap has_typedef (sym c.as_slice.ensures) ∙ sym c.has_typedef.ensures ∙ c.if-not-has_typedef.true))

pub returns-in-Function : goal.returns-in-Function
returns-in-Function c = nothing_added _ _ _ c.in-Function.is (function_names_no_type _ _ _ _ _)
