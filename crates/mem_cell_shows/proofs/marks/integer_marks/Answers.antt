use Rattle.std.proofs.Common.{sym}
use Rattle.machine_nums.specs.MExprs.{mexpr_tree}
use Rattle.mem_cell_shows.proofs.Marking.{object-marked}
use Rattle.mem_cell_shows.proofs.marks.integer_marks.Goals as goal

pub returns : goal.returns
returns g c =
    object-marked g.D.Oracle.admits c.args.known.now c.args.object c.in-Some.held.now (mexpr_tree c.args.place) c.args.ty c.in_ok-ends.ends c.size_in.result c.marks_at.result
    c.in-Some.ensures c.in_ok-ends.ensures (sym c.size_in.ensures.value) c.marks_at.ensures
