use Rattle.bound_matrix.proofs.Tables.{write-here, write-others}
use Rattle.bound_matrix.proofs.table.write.Goals as goal

pub returns-clause-here : goal.returns-clause-here
returns-clause-here c = write-here c.args.n c.args.cells.now c.args.i c.args.j c.args.e c.requires.table.size c.requires.table.few c.requires.row c.requires.column

pub returns-clause-others : goal.returns-clause-others
returns-clause-others c = write-others c.args.n c.args.cells.now c.args.i c.args.j c.args.e c.requires.table.few c.requires.row c.requires.column
