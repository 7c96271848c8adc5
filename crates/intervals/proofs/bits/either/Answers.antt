use Rattle.intervals.proofs.TwosComplement.{either-is}
use Rattle.intervals.proofs.bits.either.Goals as goal

pub returns : goal.returns
returns c = either-is c.args.x c.args.y c.ranges.x c.ranges.y
