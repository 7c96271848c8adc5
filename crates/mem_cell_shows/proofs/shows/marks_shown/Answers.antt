use Rattle.std.proofs.Common.{ap, map, subst, sym}
use Rattle.std.specs.Prelude.{IfOk}
use Rattle.csharp.specs.Trees.{csexpr_tree}
use Rattle.c_values.specs.Accesses.{mark}
use Rattle.csharp.specs.States.{of_value}
use Rattle.mem_cell_shows.specs.Checks.{ShowsMarks}
use Rattle.mem_cell_shows.proofs.shows.marks_shown.Goals as goal

pub returns-in-Some : goal.returns-in-Some
returns-in-Some g c =
    subst (λ es. IfOk c.load_marks.result (λ w. ShowsMarks g.D.Oracle.admits c.args.known.now (λ s. of_value es s (mark s.memory c.args.ty)) w)) (sym (ap (map csexpr_tree) c.in-Some.ensures)) c.load_marks.ensures
