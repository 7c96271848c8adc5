use Rattle.std.proofs.Common.{ap, map, subst, sym}
use Rattle.std.specs.Prelude.{IfOk}
use Rattle.std.proofs.lemmas.Result.{IfOk-weaker}
use Rattle.csharp.specs.Trees.{csexpr_tree}
use Rattle.mem_cell_shows.specs.Checks.{ShowsSet}
use Rattle.mem_cell_shows.proofs.ByKind.{set-of-one}
use Rattle.mem_cell_shows.proofs.shows.set_shown.Goals as goal

pub returns-in-Some : goal.returns-in-Some
returns-in-Some g c =
    subst (λ es. IfOk c.shown_pointer.result (λ shown. ShowsSet g.D.Oracle.admits c.args.known.now c.args.count es shown)) (sym (ap (map csexpr_tree) c.in-Some.ensures))
    (IfOk-weaker c.shown_pointer.result _ _ (λ shown h. set-of-one g.D.Oracle.admits c.args.known.now c.args.count (csexpr_tree c.in-Some.e.now) shown h) c.shown_pointer.ensures)
