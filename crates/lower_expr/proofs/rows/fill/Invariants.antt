use Rattle.std.proofs.Common.{◌≡◌, ◌*◌, ◌-◌, length, take}
use Rattle.lower_expr.specs.Rows.{with_rows}
use Rattle.lower_expr.proofs.rows.fill.Given as goal

abbrev pub invariant-loop-items : goal.invariant-loop-items
invariant-loop-items l = record {
  same : with_rows l.items.items l.count ≡ with_rows l.initial.items.items l.count;
  front : take (length l.initial.items.items) l.items.items ≡ l.initial.items.items;
}

abbrev pub decreases-loop-items : goal.decreases-loop-items
decreases-loop-items l = 12 * l.count - length l.items.items
