use Rattle.std.proofs.Common.{subst, sym}
use Rattle.num_api.specs.Ranges.{InRange}
use Rattle.machine_nums.specs.Machines.{Admits}
use Rattle.mem_cell_loads.specs.Reads.{IsNumberOfType}
use Rattle.mem_cell_loads.proofs.content.put_range.Goals as goal
use Rattle.mem_cell_loads.proofs.content.put_range.Goals.{in-Int+in_ok-havoc-in-Int, in-Pointer+in_ok-forget-in-Pointer}

pub returns : goal.returns
returns g c =
    λ v w n a typed inside set.
    let admitted : Admits g.D.Oracle.admits c.match-ty.nums w = elim c.match-ty.branch [
      | in-Int+in_ok-havoc-in-Int b ↦ subst (λ m. Admits g.D.Oracle.admits m w) (sym b.nums-is)
          (b.in_ok-havoc-in-Int.ensures.after v w n a (subst (λ t. IsNumberOfType t n) b.in-Int.is typed) set)
      | in-Pointer+in_ok-forget-in-Pointer b ↦ subst (λ m. Admits g.D.Oracle.admits m w) (sym b.nums-is) (b.in_ok-forget-in-Pointer.ensures.after v w n a set)
    ] in
    (c.in_ok-_live.ensures.after w admitted (subst (InRange c.args.range) (sym set.here) inside)).1
