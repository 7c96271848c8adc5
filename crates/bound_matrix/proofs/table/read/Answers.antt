use Rattle.std.proofs.Common.{sym}
use Rattle.bound_matrix.proofs.Tables.{cell-in}
use Rattle.bound_matrix.proofs.table.read.Goals as goal

pub returns : goal.returns
returns c = sym (cell-in c.args.n c.args.cells.now c.args.i c.args.j c.requires.row c.requires.column)
