use Rattle.std.proofs.Common.{arith}
use Rattle.c_parser_steps.specs.Answers.{Steps, stalled, no_memory}
use Rattle.c_parser_steps.proofs.Steps.{halts, refuse, take, passed_on}
use Rattle.c_parser_leaves.proofs.Boxes.{named_so}
use Rattle.c_parser_leaves.proofs.Shorter.{shorter_by}
use Rattle.c_parser_leaves.proofs.tail.declared_name.Goals as goal

pub returns-in-Err-clause-goes : goal.returns-in-Err-clause-goes
returns-in-Err-clause-goes c = λ p k. stalled (halts (refuse c.in-Err.ensures.goes) (λ why rest g. g _ _))

pub returns-in_err-name-clause-goes : goal.returns-in_err-name-clause-goes
returns-in_err-name-clause-goes c = λ p k. passed_on (Steps _ _) c.from_residual.ensures.1 (stalled no_memory)

pub returns-clause-goes : goal.returns-clause-goes
returns-clause-goes c = λ p k. named_so k (λ o h. take c.in-Ok.ensures.goes h) c.boxed.ensures c.in_ok-name.ensures c.handed.ensures.goes

pub returns-clause-shorter : goal.returns-clause-shorter
returns-clause-shorter c = shorter_by c.handed.result c.handed.ensures.shorter (omega (arith, c.in-Ok.ensures.shorter))
