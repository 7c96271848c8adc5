use Rattle.std.proofs.Common.{◌≡◌, ◌+◌, ◌*◌}
use Rattle.std.specs.Prelude.{drop}
use Rattle.c_syntax.specs.Program.{tprogram_tree}
use Rattle.c_syntax.specs.TypedStmt.{tstmt_tree, tstmts_from, tstmts_tree}
use Rattle.c_syntax.specs.Sizes.{tstmt_size, tstmts_size}
use Rattle.lower_trees.specs.LowerStmt.{lower_items}
use Rattle.lower_stmt.specs.Views.{context_tree, listed_before}
use Rattle.lower_stmt.proofs.stmts.+lowers.Given as goal

-- what was lowered and what is left make the whole
abbrev pub invariant-lower_items-loop-item : goal.invariant-lower_items-loop-item
invariant-lower_items-loop-item l =
    listed_before l.listed (lower_items (tprogram_tree l.program) l.d (context_tree l.context) (tstmts_from (drop l.item-index l.item-items)))
    ≡ lower_items (tprogram_tree l.program) l.d (context_tree l.context) (tstmts_from l.item-items)

abbrev pub decreases-lower_stmt : goal.decreases-lower_stmt
decreases-lower_stmt l = 8 * tstmt_size (tstmt_tree l.s.now) + 1

abbrev pub decreases-lower_items : goal.decreases-lower_items
decreases-lower_items l = 8 * tstmts_size (tstmts_tree l.items.now) + 1

abbrev pub decreases-block : goal.decreases-block
decreases-block l = 8 * tstmts_size (tstmts_tree l.items.now) + 2

abbrev pub decreases-choice : goal.decreases-choice
decreases-choice l = 8 * (tstmt_size (tstmt_tree l.then.now) + tstmt_size (tstmt_tree l.otherwise.now)) + 2

abbrev pub decreases-turns : goal.decreases-turns
decreases-turns l = 8 * tstmt_size (tstmt_tree l.body.now) + 2

abbrev pub decreases-for_loop : goal.decreases-for_loop
decreases-for_loop l = 8 * tstmts_size (tstmts_tree l.head.now) + 2

abbrev pub decreases-switch : goal.decreases-switch
decreases-switch l = 8 * tstmts_size (tstmts_tree l.items.now) + 2

abbrev pub decreases-for_stmt : goal.decreases-for_stmt
decreases-for_stmt l = 8 * (tstmts_size (tstmts_tree l.head.now) + tstmt_size (tstmt_tree l.body.now)) + 3
