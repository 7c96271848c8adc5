use Rattle.intervals.proofs.TwosComplement.{one-is}
use Rattle.intervals.proofs.bits.one.Goals as goal

pub returns : goal.returns
returns c = one-is c.args.x c.args.y c.ranges.x c.ranges.y
