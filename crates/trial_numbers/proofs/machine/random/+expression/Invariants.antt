use Rattle.trial_numbers.proofs.machine.random.+expression.Given as goal

abbrev pub decreases-expression : goal.decreases-expression
decreases-expression l = l.levels
