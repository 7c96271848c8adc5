use Rattle.pointsets.proofs.Weights.{joined-less, joined-falls}
use Rattle.pointsets.proofs.joins_weigh_less.Goals as goal

pub returns-clause-never_more : goal.returns-clause-never_more
returns-clause-never_more c = joined-less

pub returns-clause-falls : goal.returns-clause-falls
returns-clause-falls c = joined-falls
