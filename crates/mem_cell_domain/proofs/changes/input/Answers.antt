use Rattle.std.proofs.Common.{refl, subst, sym}
use Rattle.num_api.specs.Valuation.{SetTo}
use Rattle.block_mem.specs.declared.types.Scalar.TheVariants as scalars
use Rattle.machine_nums.specs.Machines.{Admits}
use Rattle.mem_cell_bytes.specs.Stands.{Stands, claims}
use Rattle.mem_cell_grid.proofs.Lists.{get-below}
use Rattle.mem_cell_domain.proofs.Puts.{input-behind}
use Rattle.mem_cell_domain.proofs.changes.input.Goals as goal

pub temp_variable-x-requires : goal.temp_variable-x-requires
temp_variable-x-requires g c = rw c.as_slice.ensures (get-below c.args.known.now.types c.args.temp (scalars.Int c.args.ty) c.requires)

pub returns : goal.returns
returns g c =
    let known = c.args.known.now in let A = Admits g.D.Oracle.admits c.havoc.new.self in
    record {
      types = refl;
      stands = λ objects s r st step. subst (λ p. Stands objects known.types A (claims p known.grid) r) (sym c.put.ensures)
          (input-behind g.D.Oracle.admits known A c.args.temp c.args.ty c.requires
          (λ v w n a has set. c.in_ok-havoc.ensures.after v w n a has (subst (λ x. SetTo x n v w) (sym c.temp_variable-x.ensures) set))
          objects s r st step);
    }
