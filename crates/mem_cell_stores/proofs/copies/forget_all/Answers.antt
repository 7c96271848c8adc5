use Rattle.std.proofs.Common.{refl}
use Rattle.machine_nums.specs.Machines.{Admits}
use Rattle.mem_cell_stores.proofs.Copied.{cleared-copied}
use Rattle.mem_cell_stores.proofs.copies.forget_all.Goals as goal

pub returns : goal.returns
returns g c =
    let admits = g.D.Oracle.admits in let known = c.args.known.now in
    record {
      types = refl;
      stands = λ to from size. cleared-copied admits known size to from (Admits admits known.nums) c.in_ok-known.field-0 c.in_ok-known.ensures (λ v a. a);
    }
