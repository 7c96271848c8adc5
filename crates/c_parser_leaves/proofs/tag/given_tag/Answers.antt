use Rattle.c_parser_steps.specs.Answers.{stepped, Steps, stalled, no_memory}
use Rattle.c_parser_steps.proofs.Steps.{halts, refuse, take, passed_on}
use Rattle.c_parser_leaves.proofs.TagSteps.{tag_comes, tagged_at}
use Rattle.c_parser_steps.proofs.Last.{same, last_part}
use Rattle.c_parser_leaves.proofs.tag.given_tag.Goals as goal

pub returns-in-Err-clause-goes : goal.returns-in-Err-clause-goes
returns-in-Err-clause-goes c = λ owner at. stalled (halts (refuse c.in-Err.ensures.goes) (λ why rest g. tag_comes owner at c.requires (g _ _)))

pub returns-in_err-name-clause-goes : goal.returns-in_err-name-clause-goes
returns-in_err-name-clause-goes c = λ owner at. passed_on (Steps _ _) c.from_residual.ensures.1 (stalled no_memory)

pub returns-clause-goes : goal.returns-clause-goes
returns-clause-goes c = λ owner at. stepped (λ o h. tag_comes owner at c.requires (take c.in-Ok.ensures.goes (last_part same o (tagged_at owner at _ c.in_ok-name.ensures h))))
