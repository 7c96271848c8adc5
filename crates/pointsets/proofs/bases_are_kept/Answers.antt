use Rattle.pointsets.proofs.Bases.{joined-left, joined-right, covers-has, killed-other, killed-here, killed-dead, killed-null}
use Rattle.pointsets.proofs.bases_are_kept.Goals as goal

pub returns-clause-left : goal.returns-clause-left
returns-clause-left c = joined-left

pub returns-clause-right : goal.returns-clause-right
returns-clause-right c = joined-right

pub returns-clause-covered : goal.returns-clause-covered
returns-clause-covered c = covers-has

pub returns-clause-others : goal.returns-clause-others
returns-clause-others c = killed-other

pub returns-clause-ended : goal.returns-clause-ended
returns-clause-ended c = killed-here

pub returns-clause-dead : goal.returns-clause-dead
returns-clause-dead c = killed-dead

pub returns-clause-null : goal.returns-clause-null
returns-clause-null c = killed-null
