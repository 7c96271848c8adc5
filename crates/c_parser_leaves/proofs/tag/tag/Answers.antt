use Rattle.std.proofs.Common.{sym}
use Rattle.c_parser_steps.specs.Answers.{stepped, stalled}
use Rattle.c_parser_steps.proofs.Steps.{stopped}
use Rattle.c_parser_leaves.proofs.TagSteps.{no_tag}
use Rattle.c_parser_leaves.proofs.tag.tag.Goals as goal

pub returns-in-Body-clause-goes : goal.returns-in-Body-clause-goes
returns-in-Body-clause-goes c = λ owner at. stepped (λ o h. h)

pub returns-in-Neither-clause-goes : goal.returns-in-Neither-clause-goes
returns-in-Neither-clause-goes c = λ owner at. stalled (stopped c.refused.ensures (no_tag owner at (sym c.in-Neither.ensures)))
