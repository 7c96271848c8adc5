use Rattle.std.proofs.Common.{◌≡◌, ◌++◌, drop}
use Rattle.c_syntax_written.specs.WrittenFile.{blockitem_tree, blockitems_from, blockitems_tree, stmt_tree}
use Rattle.c_syntax_written.specs.Sizes.{stmt_size, blockitem_size, blockitems_size}
use Rattle.c_typing.specs.Context.{written_labels_in}
use Rattle.c_check_jumps.proofs.context_labels.+labels.Given as goal

abbrev pub invariant-add_labels_in-each : goal.invariant-add_labels_in-each
invariant-add_labels_in-each l = l.labels ++ written_labels_in (blockitems_from (drop l.item-index l.items)) ≡ l.fn.labels ++ written_labels_in (blockitems_tree l.fn.body)

abbrev pub decreases-add_labels_in : goal.decreases-add_labels_in
decreases-add_labels_in l = blockitems_size (blockitems_tree l.body.now)

abbrev pub decreases-add_labels_at : goal.decreases-add_labels_at
decreases-add_labels_at l = blockitem_size (blockitem_tree l.item.now)

abbrev pub decreases-add_labels : goal.decreases-add_labels
decreases-add_labels l = stmt_size (stmt_tree l.statement.now)
