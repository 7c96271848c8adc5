use Rattle.std.proofs.Common.{◌≡◌, ◌+◌, ◌*◌, take}
use Rattle.c_syntax.specs.TypedStmt.{tstmt_tree, tstmts_from, tstmts_tree}
use Rattle.c_machine_trees.specs.Statements.{stmts_from}
use Rattle.c_syntax.specs.Sizes.{tstmt_size, tstmts_size}
use Rattle.c_machine_trees.proofs.of_stmts.+shares.Given as goal

abbrev pub invariant-share_stmts-loop-item : goal.invariant-share_stmts-loop-item
invariant-share_stmts-loop-item l = stmts_from l.items.items ≡ tstmts_from (take l.item-index l.item-items)

abbrev pub decreases-share_stmt : goal.decreases-share_stmt
decreases-share_stmt l = 4 * tstmt_size (tstmt_tree l.stmt.now) + 1

abbrev pub decreases-share_guarded : goal.decreases-share_guarded
decreases-share_guarded l = 4 * tstmt_size (tstmt_tree l.stmt.now)

abbrev pub decreases-share_stmts : goal.decreases-share_stmts
decreases-share_stmts l = 4 * tstmts_size (tstmts_tree l.stmts.now)

abbrev pub decreases-shared_stmt : goal.decreases-shared_stmt
decreases-shared_stmt l = 4 * tstmt_size (tstmt_tree l.stmt.now) + 2

abbrev pub decreases-share_block : goal.decreases-share_block
decreases-share_block l = 4 * tstmts_size (tstmts_tree l.items.now) + 3

abbrev pub decreases-share_if : goal.decreases-share_if
decreases-share_if l = 4 * (tstmt_size (tstmt_tree l.then.now) + tstmt_size (tstmt_tree l.otherwise.now)) + 3

abbrev pub decreases-share_while : goal.decreases-share_while
decreases-share_while l = 4 * tstmt_size (tstmt_tree l.body.now) + 3

abbrev pub decreases-share_do_while : goal.decreases-share_do_while
decreases-share_do_while l = 4 * tstmt_size (tstmt_tree l.body.now) + 3

abbrev pub decreases-share_for : goal.decreases-share_for
decreases-share_for l = 4 * (tstmts_size (tstmts_tree l.head.now) + tstmt_size (tstmt_tree l.body.now)) + 3

abbrev pub decreases-share_switch : goal.decreases-share_switch
decreases-share_switch l = 4 * tstmts_size (tstmts_tree l.items.now) + 3

abbrev pub decreases-shared_stmts : goal.decreases-shared_stmts
decreases-shared_stmts l = 4 * tstmts_size (tstmts_tree l.stmts.now) + 1
