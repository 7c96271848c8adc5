use Rattle.std.proofs.Common.{subst, sym}
use Rattle.std.specs.Prelude.{IfOk, option_and_then}
use Rattle.c_values.specs.Accesses.{mark}
use Rattle.csharp.specs.Trees.{csexpr_tree}
use Rattle.csharp.specs.States.{value_of}
use Rattle.mem_cell_shows.specs.Checks.{ShowsMarks}
use Rattle.mem_cell_shows.proofs.Marking.{any-marked, marks-looked}
use Rattle.mem_cell_shows.proofs.marks.load_marks.Goals as goal

pub returns-in-None : goal.returns-in-None
returns-in-None g c = any-marked g.D.Oracle.admits c.args.known.now _ c.all.result (marks-looked c.args.ty (csexpr_tree c.args.e.now)) c.all.ensures

pub returns-in-Some : goal.returns-in-Some
returns-in-Some g c =
    subst (λ ty. IfOk c.scalar_marks.result (λ w. ShowsMarks g.D.Oracle.admits c.args.known.now (λ s. option_and_then (mark s.memory ty) (value_of (csexpr_tree c.args.e.now) s)) w))
    (sym c.in-Some.is) c.scalar_marks.ensures
