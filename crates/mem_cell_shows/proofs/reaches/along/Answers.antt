use Rattle.mem_cell_shows.proofs.reaches.along.Goals as goal

pub loop-n-preserved : goal.loop-n-preserved
loop-n-preserved c = λ from h. c.go_on-r.ensures from (c.loop-n.invariant from h)
