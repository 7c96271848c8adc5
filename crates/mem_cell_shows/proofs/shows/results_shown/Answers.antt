use Rattle.std.proofs.Common.{ap, map, subst, sym}
use Rattle.std.specs.Prelude.{IfOk}
use Rattle.csharp.specs.Trees.{csexpr_tree}
use Rattle.csharp.specs.States.{exact_of, of_one}
use Rattle.mem_cell_shows.specs.Checks.{ShowsNumber}
use Rattle.mem_cell_shows.proofs.ByKind.{no-result}
use Rattle.mem_cell_shows.proofs.shows.results_shown.Goals as goal

pub returns-in-Some : goal.returns-in-Some
returns-in-Some g c =
    subst (λ es. IfOk c.result_ends.result (λ w. ShowsNumber g.D.Oracle.admits c.args.known.now (λ s. of_one es (λ e. exact_of e s)) w)) (sym (ap (map csexpr_tree) c.in-Some.ensures)) c.result_ends.ensures

pub returns-in-None : goal.returns-in-None
returns-in-None g c = no-result g.D.Oracle.admits c.args.known.now 0 c.args.operands.now c.all.result c.in-None.ensures c.all.ensures.proper
