use Rattle.std.proofs.Common.{◌≤◌, length, sym, ap, ◌∙◌, arith}
use Rattle.std.specs.Prelude.{map}
use Rattle.std.proofs.Math.ListN.{drop_of_length-le}
use Rattle.csharp.proofs.CodeTrees.{csstmt_checked, csstmt_nothing}
use Rattle.lower_trees.specs.Checking.{checks}
use Rattle.lower_nodes.specs.Looks.{check_at}
use Rattle.lower_nodes.proofs.Gathering.{check_in_front}
use Rattle.lower_nodes.proofs.looked.checks.Goals as goal

pub loop-left-init : goal.loop-left-init
loop-left-init c =
    let le : length c.args.list.now ≤ length c.args.list.now = omega arith in
    record {
      inside = le;
      behind = csstmt_nothing ∙ ap (λ xs. checks (map (check_at c.args.pos c.args.looked) xs)) (sym (drop_of_length-le c.args.list.now le));
    }

pub loop-left-preserved : goal.loop-left-preserved
loop-left-preserved c = record {
  inside = omega arith;
  behind =
      check_in_front (check_at c.args.pos c.args.looked) c.args.list.now c.loop-left.left _ _ _ _ _ c.loop-left-test.true c.loop-left.invariant.inside
      c.loop-left.invariant.behind c.in_ok-check.ensures c.in_ok-behind.ensures (csstmt_checked c.in_ok-check.check);
}
