use Rattle.bound_matrix.specs.Cells.{cell}
use Rattle.bound_matrix.proofs.Whole.{ready}
use Rattle.bound_matrix.proofs.Pivots.{composes-but}
use Rattle.bound_matrix.proofs.table.close_lowered.Goals as goal

pub returns-clause-tight : goal.returns-clause-tight
returns-clause-tight c e small mirrored was = let o = c.if-not-close_through.false in let p = c.close_through.ensures in
    c.close_halves.ensures.tight e (ready c.args.n (cell c.args.n c.args.cells.now) (cell c.args.n c.close_through.new.cells) c.requires.even mirrored p.lower
    (p.closed o small (composes-but c.args.n c.args.i c.args.j c.partner.result c.partner-2.result c.partner.ensures c.partner-2.ensures (cell c.args.n c.args.cells.now) was))
    (p.least o small) (p.near o small) (p.live o))
