use Rattle.std.proofs.Common.{◌≡◌, Bool, true, drop}
use Rattle.env_lift.specs.Entries.{IsRising}
use Rattle.env_lift.specs.Passes.{AllMet, all_met, Computes}
use Rattle.env_lift.proofs.MapMerges.{AreSame}
use Rattle.env_lift.proofs.entries.all_pass.Given as goal

abbrev pub invariant-loop-entry : goal.invariant-loop-entry
invariant-loop-entry g l =
    let left = drop l.entry-index l.entries in
    record {
      rest_rises : IsRising l.rest;
      left_rises : IsRising left;
      same : AreSame l.rest l.others left;
      value : (t : g.row.T.Denot → g.row.T.Denot → Bool) → Computes (goal.F-post g l.test) t → all_met t l.entries l.others ≡ all_met t left l.others;
      met : AllMet (λ a b. goal.F-post g l.test a b true) left l.others → AllMet (λ a b. goal.F-post g l.test a b true) l.entries l.others;
    }
