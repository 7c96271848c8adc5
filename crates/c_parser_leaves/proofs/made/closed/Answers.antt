use Rattle.c_parser_leaves.specs.Ends.{closed, unclosed}
use Rattle.c_parser_leaves.proofs.made.closed.Goals as goal

pub returns-in-Ok-clause-goes : goal.returns-in-Ok-clause-goes
returns-in-Ok-clause-goes g c = closed c.in-Ok.ensures.goes c.handed.ensures.goes

pub returns-in-Err-clause-goes : goal.returns-in-Err-clause-goes
returns-in-Err-clause-goes g c = unclosed c.in-Err.ensures.goes
