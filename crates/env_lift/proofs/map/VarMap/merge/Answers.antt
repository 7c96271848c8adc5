use Rattle.std.proofs.Common.{sym, subst}
use Rattle.env_lift.specs.Entries.{IsRising}
use Rattle.env_lift.proofs.MapMerges.{rising_merged}
use Rattle.env_lift.proofs.map.VarMap.merge.Goals as goal

pub invariant_of-result : goal.invariant_of-result
invariant_of-result g c =
    rising_merged (goal.F-post g c.args.f) c.deref.result.now c.deref-2.result.now c.in_ok-merged.field-0.items (subst IsRising (sym c.deref.ensures.value) c.self.invariant) c.in_ok-merged.ensures
