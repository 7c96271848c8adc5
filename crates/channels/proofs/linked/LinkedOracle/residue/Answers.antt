use Rattle.channels.proofs.Inside.{fold_inside}
use Rattle.channels.proofs.linked.LinkedOracle.residue.Goals as goal

pub returns-clause-holds : goal.returns-clause-holds
returns-clause-holds g c = λ v n a e. c.in_both_classes.ensures.meets.holds n (c.residue.ensures.holds v n a.0 e) (c.residue-2.ensures.holds v n a.1 e)

pub returns-clause-fold : goal.returns-clause-fold
returns-clause-fold g c = λ k x a f. fold_inside k _ _ c.in_both_classes.ensures.meets.first (c.residue.ensures.fold k x a f)
