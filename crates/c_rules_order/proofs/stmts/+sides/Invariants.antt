use Rattle.std.proofs.Common.{◌≡◌, ◌+◌, ◌*◌, take}
use Rattle.c_syntax.specs.TypedStmt.{tstmt_tree, tstmts_from, tstmts_tree}
use Rattle.c_syntax.specs.Sizes.{tstmt_size, tstmts_size}
use Rattle.c_rules_order.specs.Firsts.{or_first}
use Rattle.c_rules_order.specs.Sides.{compared_in_items}
use Rattle.c_rules_order.proofs.stmts.+sides.Given as goal

abbrev pub decreases-walk_stmt : goal.decreases-walk_stmt
decreases-walk_stmt l = 5 * tstmt_size (tstmt_tree l.stmt.now)

abbrev pub decreases-walk_items : goal.decreases-walk_items
decreases-walk_items l = 5 * tstmts_size (tstmts_tree l.items.now)

abbrev pub decreases-walk_switch : goal.decreases-walk_switch
decreases-walk_switch l = 5 * tstmts_size (tstmts_tree l.items.now) + 3

abbrev pub decreases-walk_if : goal.decreases-walk_if
decreases-walk_if l = 5 * (tstmt_size (tstmt_tree l.then.now) + tstmt_size (tstmt_tree l.otherwise.now)) + 4

abbrev pub decreases-walk_while : goal.decreases-walk_while
decreases-walk_while l = 5 * tstmt_size (tstmt_tree l.body.now) + 3

abbrev pub decreases-walk_do : goal.decreases-walk_do
decreases-walk_do l = 5 * tstmt_size (tstmt_tree l.body.now) + 3

abbrev pub decreases-walk_for : goal.decreases-walk_for
decreases-walk_for l = 5 * (tstmts_size (tstmts_tree l.head.now) + tstmt_size (tstmt_tree l.body.now)) + 3

abbrev pub invariant-walk_items-loop-item : goal.invariant-walk_items-loop-item
invariant-walk_items-loop-item l = l.found ≡ or_first l.known l.initial.found (compared_in_items (tstmts_from (take l.item-index l.item-items)))
