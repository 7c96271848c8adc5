use Rattle.std.proofs.Common.{ap, inl, inr, subst, sym}
use Rattle.c_syntax_written.specs.declared.int_type.IntType.TheVariants.{Long}
use Rattle.ext_int.specs.Valuation.{value_at}
use Rattle.num_api.specs.Ranges.{InRange}
use Rattle.machine_nums.specs.Machine.{exact_value}
use Rattle.machine_nums.proofs.Trees.{mexpr_read}
use Rattle.mem_cell_stores.proofs.weakened.weaken.Goals as goal

pub returns : goal.returns
returns g c =
    let x = c.args.x in let old = c.in_ok-old.old in
    λ v w n a choice set.
    let was = (c.in_ok-old.ensures.holds v (value_at v x.0) a (ap (exact_value v) (mexpr_read x Long))).0 in
    let inside : InRange c.hull.result n = elim choice [
      | inl in_range ↦ c.hull.ensures.first n in_range
      | inr same ↦ c.hull.ensures.second n (subst (InRange old) (sym same) was)
    ] in
    (c.in_ok-_live.ensures.after w (c.in_ok-forget.ensures.after v w n a set) (subst (InRange c.hull.result) (sym set.here) inside)).1
