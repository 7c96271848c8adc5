use Rattle.bound_matrix.specs.Cells.{cell}
use Rattle.bound_matrix.proofs.Whole.{ready}
use Rattle.bound_matrix.proofs.table.close_cells.Goals as goal

pub returns-clause-sound : goal.returns-clause-sound
returns-clause-sound c v k p = c.close_halves.ensures.sound v k (c.close_paths.ensures.sound v p)

pub returns-clause-dead : goal.returns-clause-dead
returns-clause-dead c e v k p = c.close_halves.ensures.dead e v k (c.close_paths.ensures.sound v p)

pub returns-clause-tight : goal.returns-clause-tight
returns-clause-tight c e small mirrored = let o = c.if-not-close_paths.false in let p = c.close_paths.ensures in
    c.close_halves.ensures.tight e (ready c.args.n (cell c.args.n c.args.cells.now) (cell c.args.n c.close_paths.new.cells) c.requires.even mirrored p.lower (p.closed o small) (p.least o small) (p.near o small) (p.live o))
