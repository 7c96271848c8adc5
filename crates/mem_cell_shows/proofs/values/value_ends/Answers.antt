use Rattle.std.proofs.Common.{subst}
use Rattle.std.proofs.lemmas.Result.{IfOk-weaker}
use Rattle.machine_nums.specs.Machine.{exact_value}
use Rattle.machine_nums.specs.Machines.{Admits}
use Rattle.mem_cell_shows.specs.Ends.{HoldsNumbers}
use Rattle.mem_cell_shows.proofs.values.value_ends.Goals as goal

pub returns : goal.returns
returns g c = IfOk-weaker c.exact_ends.result _ _
    (λ w h. subst (λ t. HoldsNumbers (Admits g.D.Oracle.admits c.args.nums.now) (λ v. exact_value v t) w) c.in_ok-whole.ensures h) c.exact_ends.ensures
