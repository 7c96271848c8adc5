use Rattle.std.proofs.Common.{◌∷◌, [], refl, subst}
use Rattle.std.proofs.lemmas.Result.{on_ok_weaker}
use Rattle.block_mem.specs.Bytes.{size_of}
use Rattle.machine_nums.specs.Machines.{Admits}
use Rattle.mem_cell_stores.specs.Changes.{AreForgotten}
use Rattle.mem_cell_stores.proofs.Behind.{forgot-behind}
use Rattle.mem_cell_stores.proofs.Reached.{spot-among}
use Rattle.mem_cell_stores.proofs.forgotten.forget_spot.Goals as goal

pub returns : goal.returns
returns g c =
    let admits = g.D.Oracle.admits in let known = c.args.known.now in let spot = c.args.spot in let ty = c.args.ty in
    let os = spot.object ∷ [] in let grid = c.forget_in.new.grid in
    record {
      types = refl;
      stands = on_ok_weaker c.forget_in.result (λ forgot e f leads.
          forgot-behind admits known ty e f (Admits admits known.nums) grid os spot.at (size_of ty)
          (subst (λ n. AreForgotten os spot.at n known.grid grid) c.scalar_size.ensures.value forgot) (λ v a. a)
          (spot-among admits known e (size_of ty) spot os (0, refl) leads)) c.forget_in.ensures;
    }
