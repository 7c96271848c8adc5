use Rattle.mem_temps.proofs.Checking.{truths}
use Rattle.mem_temps.proofs.checks.truth_range.Goals as goal

pub returns : goal.returns
returns c = truths c.args.r _ c.may_be.result c.may_be-2.result c.bit.ensures c.bit-2.ensures c.may_be.ensures.holds c.may_be-2.ensures.holds c.may_be.ensures.point
    c.may_be-2.ensures.point c.may_be.ensures.plain
