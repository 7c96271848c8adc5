use Rattle.mem_cell_loads.proofs.Marked.{fill-marked}
use Rattle.mem_cell_loads.proofs.reading.fill_marks.Goals as goal

pub returns : goal.returns
returns g c =
    λ there. fill-marked g.D.Oracle.admits c.args.known.now c.args.object c.args.at c.marks_of_fill.result c.args.ty c.args.x c.proper.result
    c.proper.ensures.same c.proper.ensures.bits c.marks_of_fill.ensures.undef c.marks_of_fill.ensures.value c.marks_of_fill.ensures.broken there
