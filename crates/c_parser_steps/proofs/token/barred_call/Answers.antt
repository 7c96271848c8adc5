use Rattle.std.proofs.Common.{refl, sym, ◌+◌, true, false, arith}
use Rattle.std.proofs.lemmas.Bool.{lt-ltb}
use Rattle.c_grammar.specs.Refused.{nesting_limit}
use Rattle.c_parser_steps.specs.Answers.{unsupported, too_deep}
use Rattle.c_parser_steps.proofs.Bars.{bar_call, not_above}
use Rattle.c_parser_steps.proofs.token.barred_call.Goals as goal

pub returns-then-count : goal.returns-then-count
returns-then-count c = λ base e. too_deep (bar_call _ _ base _ {b = true} e (sym (lt-ltb nesting_limit (c.args.count + 2) (omega arith))), refl)

pub returns-else-count : goal.returns-else-count
returns-else-count c = λ base e. unsupported (bar_call _ _ base _ {b = false} e (sym (not_above _ (omega arith))), refl)
