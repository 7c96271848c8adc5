use Rattle.std.proofs.Common.{◌≡◌, map, drop}
use Rattle.c_syntax.specs.Types.{object_tree}
use Rattle.c_objects.specs.Statics.{FitInitials, opened_statics}
use Rattle.csharp_exec.specs.Beginning.{all_fit}
use Rattle.csharp_exec.proofs.first.fit.Given as goal

-- the initial values that are left decide for all
abbrev pub invariant-loop-initial : goal.invariant-loop-initial
invariant-loop-initial l = record {
  test : all_fit (map object_tree l.objects) (drop l.initial-index l.initials) ≡ all_fit (map object_tree l.objects) l.initials;
  fit : FitInitials (opened_statics (map object_tree l.objects)) (drop l.initial-index l.initials)
      → FitInitials (opened_statics (map object_tree l.objects)) l.initials;
}
