use Rattle.block_mem.specs.Bytes.{size_of}
use Rattle.mem_cell_loads.specs.Found.{bytes_from}
use Rattle.mem_cell_loads.proofs.Marked.{all-marked}
use Rattle.mem_cell_loads.proofs.reading.marks_of.Goals as goal

pub returns-in-Cell : goal.returns-in-Cell
returns-in-Cell g c = rw c.in-Cell.is c.cell_marks.ensures

pub returns-in-Fill : goal.returns-in-Fill
returns-in-Fill g c = rw c.in-Fill.is c.fill_marks.ensures

pub returns-in-Nothing : goal.returns-in-Nothing
returns-in-Nothing g c = λ there objects s st b here. all-marked c.args.ty (bytes_from s.memory b c.args.at (size_of c.args.ty))
