use Rattle.std.proofs.Common.{refl}
use Rattle.mem_intervals.proofs.Examples.{goes_on, scope_given}
use Rattle.mem_intervals.proofs.tests.enter.Goals as goal

pub enter-requires : goal.enter-requires
enter-requires c = (c.requires.program, c.requires.is_for, scope_given c.requires.program _ c.requires.small refl)

pub returns : goal.returns
returns c = goes_on c.requires c.enter.ensures.is_for
