use Rattle.std.proofs.Common.{arith, refl}
use Rattle.c_grammar.specs.Grammar.{expr_rule}
use Rattle.c_grammar.specs.ExprRules as rule
use Rattle.c_parser_steps.specs.Answers.{Gives, halted, no_memory}
use Rattle.c_parser_steps.proofs.Steps.{carried, halts, refuse, take, by, passed_on}
use Rattle.c_parser_steps.proofs.TextSteps.{texts_at}
use Rattle.c_parser_steps.proofs.Choices.{primary_is}
use Rattle.c_parser_leaves.proofs.Shorter.{shorter_by}
use Rattle.c_parser_steps.proofs.Last.{same, last_part}
use Rattle.c_parser_leaves.proofs.leaf.strings.Goals as goal

pub returns-in-Err-clause-goes : goal.returns-in-Err-clause-goes
returns-in-Err-clause-goes c = halted (halts (refuse c.in-Err.ensures.goes) (λ why rest g. by (expr_rule rule.a_text) refl (primary_is _ _ c.requires) (g _ _)))

pub returns-in_err-bytes-clause-goes : goal.returns-in_err-bytes-clause-goes
returns-in_err-bytes-clause-goes c = passed_on (Gives _ _) c.from_residual.ensures.1 (halted no_memory)

pub returns-clause-goes : goal.returns-clause-goes
returns-clause-goes c = carried c.more_strings.ensures.goes (λ o g. by (expr_rule rule.a_text) refl (primary_is _ _ c.requires) (take c.in-Ok.ensures.goes (last_part same o (texts_at c.in_ok-bytes.ensures g))))

pub returns-clause-shorter : goal.returns-clause-shorter
returns-clause-shorter c = shorter_by c.more_strings.result c.more_strings.ensures.shorter (omega (arith, c.in-Ok.ensures.shorter))
