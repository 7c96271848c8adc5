use Rattle.std.proofs.Common.{refl, subst, sym}
use Rattle.machine_nums.specs.Machines.{Admits}
use Rattle.csharp.specs.Actions as acts
use Rattle.mem_cell_bytes.specs.Stands.{Stands, claims}
use Rattle.mem_cell_domain.proofs.Ended.{ended-behind}
use Rattle.mem_cell_domain.proofs.lives.leave.Goals as goal

pub returns : goal.returns
returns g c =
    let known = c.args.known.now in
    let A = Admits g.D.Oracle.admits known.nums in
    record {
      types = refl;
      stands = λ objects s st. subst (λ p. Stands objects known.types A (claims p c.in_ok-grid.grid) (acts.leave c.args.names.now s)) (sym c.in_ok-pointers.ensures)
          (ended-behind objects known.types A c.args.names.now known.pointers known.grid c.in_ok-grid.grid s c.in_ok-grid.ensures st);
    }
