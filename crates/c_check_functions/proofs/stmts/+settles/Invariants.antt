use Rattle.std.proofs.Common.{◌≡◌, ◌+◌, ◌*◌, map}
use Rattle.c_syntax.specs.Types.{object_tree}
use Rattle.c_syntax.specs.TypedStmt.{tstmt_tree, tstmts_tree}
use Rattle.c_syntax.specs.Sizes.{tstmt_size, tstmts_size}
use Rattle.c_typing.specs.Settled.{settled_stmt}
use Rattle.c_check_functions.proofs.SettledLists.{settled_to}
use Rattle.c_check_functions.proofs.stmts.+settles.Given as goal

abbrev pub invariant-settle_stmts-loop-item : goal.invariant-settle_stmts-loop-item
invariant-settle_stmts-loop-item l = map tstmt_tree l.item-items ≡ settled_to (settled_stmt (map object_tree l.objects)) l.item-index (map tstmt_tree l.initial.item-items)

abbrev pub decreases-settle_stmt : goal.decreases-settle_stmt
decreases-settle_stmt l = 3 * tstmt_size (tstmt_tree l.stmt.now) + 1

abbrev pub decreases-settle_stmts : goal.decreases-settle_stmts
decreases-settle_stmts l = 3 * tstmts_size (tstmts_tree l.list.now)

abbrev pub decreases-settle_loop : goal.decreases-settle_loop
decreases-settle_loop l = 3 * tstmt_size (tstmt_tree l.body.now) + 2
