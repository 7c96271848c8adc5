use Rattle.std.proofs.Common.{◌+◌, ◌*◌}
use Rattle.c_syntax_written.specs.WrittenFile.{blockitem_tree, blockitems_tree, stmt_tree}
use Rattle.c_syntax_written.specs.Sizes.{blockitem_size, blockitems_size, stmt_size}
use Rattle.table_front.proofs.stmts.+statements.Given as goal

abbrev pub decreases-block : goal.decreases-block
decreases-block l = 3 * blockitems_size (blockitems_tree l.items.now)

abbrev pub decreases-block_item : goal.decreases-block_item
decreases-block_item l = 3 * blockitem_size (blockitem_tree l.item.now)

abbrev pub decreases-stmt : goal.decreases-stmt
decreases-stmt l = 3 * stmt_size (stmt_tree l.s.now)

abbrev pub decreases-label : goal.decreases-label
decreases-label l = 3 * stmt_size (stmt_tree l.body.now) + 2

abbrev pub decreases-case : goal.decreases-case
decreases-case l = 3 * stmt_size (stmt_tree l.body.now) + 2

abbrev pub decreases-behind : goal.decreases-behind
decreases-behind l = 3 * stmt_size (stmt_tree l.body.now) + 1

abbrev pub decreases-headed : goal.decreases-headed
decreases-headed l = 3 * stmt_size (stmt_tree l.body.now) + 2

abbrev pub decreases-if_else : goal.decreases-if_else
decreases-if_else l = 3 * (stmt_size (stmt_tree l.then.now) + stmt_size (stmt_tree l.otherwise.now)) + 2

abbrev pub decreases-for_loop : goal.decreases-for_loop
decreases-for_loop l = 3 * stmt_size (stmt_tree l.body.now) + 2
