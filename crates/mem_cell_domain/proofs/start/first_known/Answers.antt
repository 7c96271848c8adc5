use Rattle.std.proofs.Common.{[], length, subst, sym, ◌∙◌}
use Rattle.machine_nums.specs.Machines.{Admits}
use Rattle.csharp.specs.States.{first}
use Rattle.mem_cell_bytes.specs.Stands.{Stands, claims}
use Rattle.mem_cell_domain.proofs.Typed.{first-stands}
use Rattle.mem_cell_domain.proofs.start.first_known.Goals as goal

pub returns : goal.returns
returns g c =
    let A = Admits g.D.Oracle.admits c.top.result in
    let n = length c.args.types.now in
    let grid = c.args.grid in
    record {
      types = c.in_ok-of.ensures;
      stands = λ q inputs same typed known.
          subst (λ ts. Stands q.objects ts A (claims c.in_ok-unknown.field-0 grid) (first q inputs)) (sym (c.in_ok-of.ensures ∙ same))
          (subst (λ p. Stands q.objects q.temps A (claims p grid) (first q inputs)) (sym c.in_ok-unknown.ensures)
          (first-stands q inputs A n grid typed (c.top.ensures []) known));
    }
