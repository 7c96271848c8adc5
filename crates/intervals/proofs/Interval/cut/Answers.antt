use Rattle.std.proofs.Common.{to_z, of_z}
use Rattle.std.proofs.lemmas.Int.{to_z-of_z}
use mir.Syntax.{w128}
use Rattle.intervals.proofs.Parts.{cut_some}
use Rattle.intervals.proofs.Interval.cut.Goals as goal

pub returns-clause-some : goal.returns-clause-some
returns-clause-some c =
    cut_some c.part.result c.args.self.now (to_z w128 (of_z w128 c.args.lo)) (to_z w128 (of_z w128 c.args.hi)) c.args.lo c.args.hi
    (to_z-of_z w128 c.args.lo c.ranges.lo) (to_z-of_z w128 c.args.hi c.ranges.hi) c.part.ensures.some
