use Rattle.std.proofs.Common.{◌≡◌, ◌<◌, ◌≤◌, ◌/◌, ◌%◌, length, take, ap, subst, ◌∙◌, arith}
use Rattle.std.specs.Prelude.{Some, slice_get}
use Rattle.lower_trees.specs.Temps.{row}
use Rattle.lower_expr.specs.Rows.{with_rows}
use Rattle.lower_expr.proofs.Rowed.{filled_all, filled_more, front_stays}
use Rattle.lower_expr.proofs.rows.fill.Goals as goal

pub loop-items-preserved : goal.loop-items-preserved
loop-items-preserved c =
    let items = c.loop-items.items.items in
    let many : c.len.result ≡ length items = omega arith in
    let again : c.len-in-loop-items.result ≡ length items = omega arith in
    let fewer : length items / 12 < c.args.count = subst (λ n. n / 12 < c.args.count) many c.loop-items-test.true in
    let typed : slice_get row (length items % 12) ≡ Some c.in_row.result = subst (λ n. slice_get row (n % 12) ≡ Some c.in_row.result) again c.in_row.ensures in
    record {
      same =
          ap (λ xs. with_rows xs c.args.count) c.in_ok-push.ensures.items
          ∙ filled_more items c.args.count c.in_row.result fewer typed
          ∙ c.loop-items.invariant.same;
      front =
          ap (take (length c.args.items.now.items)) c.in_ok-push.ensures.items
          ∙ front_stays c.args.items.now.items items c.in_row.result c.loop-items.invariant.front;
    }

pub returns-clause-ok : goal.returns-clause-ok
returns-clause-ok c =
    let many : c.len.result ≡ length c.loop-items.items.items = omega arith in
    let enough : c.args.count ≤ length c.loop-items.items.items / 12 = subst (λ n. c.args.count ≤ n / 12) many c.loop-items-test.false in
    filled_all c.loop-items.items.items c.args.count enough ∙ c.loop-items.invariant.same
