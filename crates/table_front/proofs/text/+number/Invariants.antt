use Rattle.table_front.proofs.text.+number.Given as goal

abbrev pub decreases-number : goal.decreases-number
decreases-number l = l.n
