use Rattle.channels.proofs.both.BothOracle.residue.Goals as goal

pub returns-clause-holds : goal.returns-clause-holds
returns-clause-holds g c = λ v n a e. c.in_both_classes.ensures.meets.holds n (c.residue.ensures.holds v n a.0 e) (c.residue-2.ensures.holds v n a.1 e)
