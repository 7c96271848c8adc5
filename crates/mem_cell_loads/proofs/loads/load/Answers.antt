use Rattle.std.proofs.Common.{refl, subst, sym}
use Rattle.num_api.specs.Valuation.{SetTo}
use Rattle.machine_nums.specs.Machines.{Admits}
use Rattle.csharp.specs.Trees.{csexpr_tree}
use Rattle.mem_cell_bytes.specs.Stands.{Stands, claims}
use Rattle.mem_cell_grid.proofs.Lists.{get-below}
use Rattle.mem_cell_loads.proofs.Behind.{load-stands}
use Rattle.mem_cell_loads.proofs.loads.load.Goals as goal

pub temp_variable-x-requires : goal.temp_variable-x-requires
temp_variable-x-requires g c = rw c.as_slice.ensures (get-below c.args.known.now.types c.args.temp c.args.ty c.requires)

pub returns : goal.returns
returns g c =
    let known = c.args.known.now in let A = Admits g.D.Oracle.admits c.put_number.new.nums in
    record {
      types = refl;
      grid = refl;
      stands = λ objects s t st step. subst (λ p. Stands objects known.types A (claims p known.grid) t) (sym c.put.ensures)
          (load-stands g.D.Oracle.admits known A c.args.temp c.args.ty (csexpr_tree c.args.address.now) c.in_ok-loaded.loaded c.set_for.result c.requires c.set_for.ensures
          (λ v w n a typed inside value set. c.in_ok-put_number.ensures v w n a typed inside value (subst (λ x. SetTo x n v w) (sym c.temp_variable-x.ensures) set))
          c.in_ok-loaded.ensures objects s t st step);
    }
