use Rattle.std.proofs.Common.{refl}
use Rattle.c_grammar.specs.Grammar.{expr_rule}
use Rattle.c_grammar.specs.ExprRules as rule
use Rattle.c_grammar.specs.Descent.{goes_on, is_done, stops}
use Rattle.c_parser_steps.specs.Answers.{stepped, Steps, stalled, no_memory}
use Rattle.c_parser_steps.proofs.Steps.{by, halts, refuse, take, passed_on}
use Rattle.c_parser_leaves.proofs.ExprSteps.{member_at}
use Rattle.c_parser_leaves.proofs.suffix.member.Goals as goal

pub returns-in-Err-clause-goes : goal.returns-in-Err-clause-goes
returns-in-Err-clause-goes c = λ p k. stalled (halts (refuse c.in-Err.ensures.goes) (λ why rest g. g _ _))

pub returns-in-Err-taken-clause-goes : goal.returns-in-Err-taken-clause-goes
returns-in-Err-taken-clause-goes c = λ p k. stalled (halts (refuse c.in-Err-taken.ensures.goes) (λ why rest g. take c.in-Ok.ensures.goes (stops (by (expr_rule rule.member_name) refl refl (g _ _)))))

pub returns-in_err-name-clause-goes : goal.returns-in_err-name-clause-goes
returns-in_err-name-clause-goes c = λ p k. passed_on (Steps _ _) c.from_residual.ensures.1 (stalled no_memory)

pub returns-clause-goes : goal.returns-clause-goes
returns-clause-goes c = λ p k. stepped (λ o h. take c.in-Ok.ensures.goes (goes_on (by (expr_rule rule.member_name) refl refl (take c.in-Ok-taken.ensures.goes is_done)) (member_at k c.in_ok-name.ensures h)))
