use Rattle.std.proofs.Common.{ap, map, subst, sym}
use Rattle.std.specs.Prelude.{IfOk}
use Rattle.csharp.specs.Trees.{csexpr_tree}
use Rattle.c_values.specs.Operators.{number}
use Rattle.csharp.specs.States.{of_value}
use Rattle.mem_cell_shows.specs.Checks.{ShowsNumber}
use Rattle.mem_cell_shows.proofs.shows.numbers_shown.Goals as goal

pub returns-in-Some : goal.returns-in-Some
returns-in-Some g c =
    subst (λ es. IfOk c.number_ends.result (λ w. ShowsNumber g.D.Oracle.admits c.args.known.now (λ s. of_value es s number) w)) (sym (ap (map csexpr_tree) c.in-Some.ensures)) c.number_ends.ensures
