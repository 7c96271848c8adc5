use Rattle.std.proofs.Common.{◌≡◌, ◌+◌, ◌*◌, ◌++◌, take}
use Rattle.c_syntax.specs.TypedStmt.{tstmt_tree, tstmts_from, tstmts_tree}
use Rattle.c_syntax.specs.Sizes.{tstmt_size, tstmts_size}
use Rattle.ramp_constants.specs.Constants.{constants_in_items}
use Rattle.ramp_constants.proofs.stmts.+constants.Given as goal

abbrev pub decreases-add_stmt : goal.decreases-add_stmt
decreases-add_stmt l = 5 * tstmt_size (tstmt_tree l.stmt.now)

abbrev pub decreases-add_items : goal.decreases-add_items
decreases-add_items l = 5 * tstmts_size (tstmts_tree l.items.now)

abbrev pub decreases-add_switch : goal.decreases-add_switch
decreases-add_switch l = 5 * tstmts_size (tstmts_tree l.items.now) + 3

abbrev pub decreases-add_if : goal.decreases-add_if
decreases-add_if l = 5 * (tstmt_size (tstmt_tree l.then.now) + tstmt_size (tstmt_tree l.otherwise.now)) + 4

abbrev pub decreases-add_while : goal.decreases-add_while
decreases-add_while l = 5 * tstmt_size (tstmt_tree l.body.now) + 3

abbrev pub decreases-add_do : goal.decreases-add_do
decreases-add_do l = 5 * tstmt_size (tstmt_tree l.body.now) + 3

abbrev pub decreases-add_for : goal.decreases-add_for
decreases-add_for l = 5 * (tstmts_size (tstmts_tree l.head.now) + tstmt_size (tstmt_tree l.body.now)) + 3

abbrev pub invariant-add_items-loop-item : goal.invariant-add_items-loop-item
invariant-add_items-loop-item l = l.constants.items ≡ l.initial.constants.items ++ constants_in_items (tstmts_from (take l.item-index l.item-items))
