use Rattle.std.proofs.Common.{refl}
use Rattle.machine_nums.specs.MExprs.{mexpr_tree}
use Rattle.mem_cell_shows.proofs.Marking.{pointer-marked}
use Rattle.mem_cell_shows.proofs.marks.pointer_marks.Goals as goal

pub returns : goal.returns
returns g c =
    pointer-marked g.D.Oracle.admits c.args.known.now c.args.object c.in-Some.at (mexpr_tree c.args.place) c.in_ok-ends.ends c.in_ok-read.read _
    c.in_ok-ends.ensures c.in-Some.ensures c.in_ok-read.ensures refl
