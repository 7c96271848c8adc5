use Rattle.std.proofs.Common.{◌≡◌, ◌+◌, ◌*◌, take}
use Rattle.c_syntax.specs.TypedStmt.{tstmt_tree, tstmts_from, tstmts_tree}
use Rattle.c_syntax.specs.Sizes.{tstmt_size, tstmts_size}
use Rattle.c_rules_calls.specs.Inlined.{ended, statements_among}
use Rattle.c_rules_calls.proofs.size.+sizes.Given as goal

abbrev pub invariant-size_among-loop-item : goal.invariant-size_among-loop-item
invariant-size_among-loop-item l = l.size ≡ ended (statements_among (tstmts_from (take l.item-index l.item-items)))

abbrev pub decreases-size_in : goal.decreases-size_in
decreases-size_in l = 5 * tstmt_size (tstmt_tree l.stmt.now)

abbrev pub decreases-block_size : goal.decreases-block_size
decreases-block_size l = 5 * tstmts_size (tstmts_tree l.items.now) + 3

abbrev pub decreases-for_size : goal.decreases-for_size
decreases-for_size l = 5 * (tstmts_size (tstmts_tree l.head.now) + tstmt_size (tstmt_tree l.body.now)) + 3

abbrev pub decreases-size_among : goal.decreases-size_among
decreases-size_among l = 5 * tstmts_size (tstmts_tree l.items.now)
