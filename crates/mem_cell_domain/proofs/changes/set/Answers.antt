use Rattle.std.proofs.Common.{refl, subst, sym}
use Rattle.num_api.specs.Valuation.{SetTo}
use Rattle.machine_nums.specs.Machines.{Admits}
use Rattle.csharp.specs.Trees.{csexpr_tree}
use Rattle.mem_cell_bytes.specs.Stands.{Stands, claims}
use Rattle.mem_cell_grid.proofs.Lists.{get-below}
use Rattle.mem_cell_domain.proofs.Puts.{set-behind}
use Rattle.mem_cell_domain.proofs.changes.set.Goals as goal

pub temp_variable-x-requires : goal.temp_variable-x-requires
temp_variable-x-requires g c = rw c.as_slice.ensures (get-below c.args.known.now.types c.args.temp c.args.ty c.requires)

pub returns : goal.returns
returns g c =
    let known = c.args.known.now in let A = Admits g.D.Oracle.admits c.put_number.new.nums in
    record {
      types = refl;
      stands = λ objects s t st typed step. subst (λ p. Stands objects known.types A (claims p known.grid) t) (sym c.put.ensures)
          (set-behind g.D.Oracle.admits known A c.args.temp c.args.ty (csexpr_tree c.args.value.now) c.in_ok-content.content c.requires
          (λ v w n a is inside value set. c.in_ok-put_number.ensures v w n a is inside value (subst (λ x. SetTo x n v w) (sym c.temp_variable-x.ensures) set))
          c.in_ok-content.ensures objects s t st typed step);
    }
