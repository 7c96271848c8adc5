use Rattle.std.proofs.Common.{List, ◌++◌, drop}
use Rattle.env_lift.specs.declared.entries.Entry.{Entry}
use Rattle.env_lift.specs.Entries.{IsRising}
use Rattle.env_lift.specs.Passes.{IsMerged}
use Rattle.env_lift.proofs.MapMerges.{AreSame}
use Rattle.env_lift.proofs.entries.merged.Given as goal

abbrev pub invariant-loop-entry : goal.invariant-loop-entry
invariant-loop-entry g l =
    let left = drop l.entry-index l.entries in
    record {
      rest_rises : IsRising l.rest;
      left_rises : IsRising left;
      same : AreSame l.rest l.others left;
      so_far : (put : List (Entry g.row.T.Denot)) → IsMerged (goal.F-post g l.f) left l.others put → IsMerged (goal.F-post g l.f) l.entries l.others (l.out.items ++ put);
    }
