use Rattle.mem_intervals.proofs.Examples.{goes_on, undefine_given}
use Rattle.mem_intervals.proofs.tests.undefine.Goals as goal

pub undefine-requires : goal.undefine-requires
undefine-requires c = (c.requires.program, c.requires.is_for, undefine_given c.requires.program c.requires.small)

pub returns : goal.returns
returns c = goes_on c.requires c.undefine.ensures.is_for
