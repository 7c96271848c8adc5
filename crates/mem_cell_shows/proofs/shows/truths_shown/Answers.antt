use Rattle.std.proofs.Common.{◌∙◌, ap, map, subst, sym}
use Rattle.std.proofs.lemmas.Result.{IfOk-weaker}
use Rattle.csharp.specs.Trees.{csexpr_tree}
use Rattle.mem_cell_shows.specs.Checks.{HasTruths}
use Rattle.mem_cell_shows.proofs.Looks.{first-same}
use Rattle.mem_cell_shows.proofs.shows.truths_shown.Goals as goal

pub returns-in-Some : goal.returns-in-Some
returns-in-Some g c =
    IfOk-weaker c.known_truths.result _ _
    (λ found h e is. subst (λ x. HasTruths g.D.Oracle.admits c.args.known.now x found) (first-same (csexpr_tree c.in-Some.e.now) e (sym (ap (map csexpr_tree) c.in-Some.ensures) ∙ is)) h)
    c.known_truths.ensures
