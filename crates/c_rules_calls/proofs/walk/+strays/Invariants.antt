use Rattle.std.proofs.Common.{◌≡◌, ◌+◌, ◌*◌, [], take}
use Rattle.c_syntax.specs.TypedStmt.{tstmt_tree, tstmts_from, tstmts_tree}
use Rattle.c_syntax.specs.Sizes.{tstmt_size, tstmts_size}
use Rattle.c_rules_calls.specs.Gotos.{around_of, strays_among}
use Rattle.c_rules_calls.proofs.walk.+strays.Given as goal

abbrev pub invariant-stray_among-loop-item : goal.invariant-stray_among-loop-item
invariant-stray_among-loop-item l =
    (l.blocks.items ≡ l.initial.blocks.items) × (strays_among (around_of l.initial.blocks.items) (tstmts_from (take l.item-index l.item-items)) ≡ [])

abbrev pub decreases-stray_in : goal.decreases-stray_in
decreases-stray_in l = 5 * tstmt_size (tstmt_tree l.stmt.now)

abbrev pub decreases-stray_in_either : goal.decreases-stray_in_either
decreases-stray_in_either l = 5 * (tstmt_size (tstmt_tree l.then.now) + tstmt_size (tstmt_tree l.otherwise.now)) + 3

abbrev pub decreases-stray_in_block : goal.decreases-stray_in_block
decreases-stray_in_block l = 5 * tstmts_size (tstmts_tree l.items.now) + 4

abbrev pub decreases-stray_among : goal.decreases-stray_among
decreases-stray_among l = 5 * tstmts_size (tstmts_tree l.items.now) + 2
