use Rattle.std.proofs.Common.{refl}
use Rattle.mem_intervals.proofs.Examples.{scope_given}
use Rattle.mem_intervals.proofs.tests.knows_seven.Goals as goal

pub leave-requires : goal.leave-requires
leave-requires c =
    let s = c.may_be_zero.ensures in
    (s.program, s.is_for, scope_given s.program _ s.small refl)
