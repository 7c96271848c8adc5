use Rattle.std.proofs.Common.{◌≡◌, ◌+◌, ◌*◌, take}
use Rattle.csharp.specs.Trees.{csstmt_tree, csstmts_from, csstmts_tree}
use Rattle.csharp.specs.Sizes.{csstmt_size, csstmts_size}
use Rattle.csharp.proofs.copied_stmts.+copies.Given as goal

abbrev pub invariant-copy_stmts-loop-item : goal.invariant-copy_stmts-loop-item
invariant-copy_stmts-loop-item l = csstmts_from l.items.items ≡ csstmts_from (take l.item-index l.item-items)

abbrev pub decreases-copy_stmt : goal.decreases-copy_stmt
decreases-copy_stmt l = 4 * csstmt_size (csstmt_tree l.stmt.now) + 1

abbrev pub decreases-copy_stmts : goal.decreases-copy_stmts
decreases-copy_stmts l = 4 * csstmts_size (csstmts_tree l.stmts.now)

abbrev pub decreases-boxed : goal.decreases-boxed
decreases-boxed l = 4 * csstmt_size (csstmt_tree l.stmt.now) + 2

abbrev pub decreases-copy_sequence : goal.decreases-copy_sequence
decreases-copy_sequence l = 4 * (csstmt_size (csstmt_tree l.first.now) + csstmt_size (csstmt_tree l.second.now)) + 3

abbrev pub decreases-copy_if : goal.decreases-copy_if
decreases-copy_if l = 4 * (csstmt_size (csstmt_tree l.then.now) + csstmt_size (csstmt_tree l.otherwise.now)) + 3

abbrev pub decreases-copy_scope : goal.decreases-copy_scope
decreases-copy_scope l = 4 * csstmts_size (csstmts_tree l.items.now) + 3

abbrev pub decreases-copy_switch : goal.decreases-copy_switch
decreases-copy_switch l = 4 * csstmts_size (csstmts_tree l.items.now) + 3
