use Rattle.std.proofs.Common.{refl, subst}
use Rattle.std.proofs.lemmas.Result.{on_ok_weaker}
use Rattle.machine_nums.specs.Machines.{Admits}
use Rattle.mem_cell_stores.specs.Changes.{AreForgotten}
use Rattle.mem_cell_stores.proofs.Copied.{forgot-copied, one-passes}
use Rattle.mem_cell_stores.proofs.Reached.{reach-among}
use Rattle.mem_cell_stores.proofs.copies.forget_reach.Goals as goal

pub returns-in_default : goal.returns-in_default
returns-in_default g c =
    let size = c.args.size in
    record { types = c.forget_all.ensures.types; stands = on_ok_weaker c.forget_all.result (λ law to from some leads. law to from size) c.forget_all.ensures.stands }

pub returns : goal.returns
returns g c =
    let admits = g.D.Oracle.admits in let known = c.args.known.now in let reach = c.args.reach.now in let size = c.args.size in
    let first = c.place_at-from.result in let count = c.in-Some.count in let grid = c.forget_in.new.grid in
    record {
      types = refl;
      stands = on_ok_weaker c.forget_in.result (λ forgot to from some leads.
          forgot-copied admits known size to from (Admits admits known.nums) grid reach.objects.items first count
          (subst (λ os. AreForgotten os first count known.grid grid) c.as_slice.ensures.value forgot) (λ v a. a)
          (reach-among admits known to reach 1 size first count c.place_at-from.ensures c.in-Some.ensures (one-passes size some) leads)) c.forget_in.ensures;
    }
