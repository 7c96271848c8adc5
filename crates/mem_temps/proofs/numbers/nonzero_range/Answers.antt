use Rattle.mem_temps.proofs.Kept.{nonzero_by}
use Rattle.mem_temps.proofs.numbers.nonzero_range.Goals as goal

pub returns : goal.returns
returns c = nonzero_by c.args.r c.point.result c.cut_range.result c.meet.result c.point.ensures c.cut_range.ensures.holds c.cut_range.ensures.plain
    c.meet.ensures.holds c.meet.ensures.first c.meet.ensures.second
