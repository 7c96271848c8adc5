use Rattle.std.proofs.Common.{◌≡◌, ◌≤◌, length}
use Rattle.std.specs.Prelude.{map, drop}
use Rattle.csharp.specs.Trees.{csstmt_tree}
use Rattle.lower_trees.specs.Checking.{checks}
use Rattle.lower_nodes.specs.Looks.{check_at}
use Rattle.lower_nodes.proofs.looked.checks.Given as goal

abbrev pub invariant-loop-left : goal.invariant-loop-left
invariant-loop-left l = record {
  inside : l.left ≤ length l.list;
  behind : csstmt_tree l.behind ≡ checks (map (check_at l.pos l.looked) (drop l.left l.list));
}

abbrev pub decreases-loop-left : goal.decreases-loop-left
decreases-loop-left l = l.left
