use Rattle.intervals.proofs.TwosComplement.{both-is}
use Rattle.intervals.proofs.bits.both.Goals as goal

pub returns : goal.returns
returns c = both-is c.args.x c.args.y c.ranges.x c.ranges.y
