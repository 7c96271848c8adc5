use Rattle.std.proofs.Common.{ap, sym, ◌+◌, ◌++◌, ◌∙◌, append_assoc, arith, drop}
use Rattle.std.proofs.lemmas.List.{append-nil}
use Rattle.c_syntax_written.specs.WrittenFile as files
use Rattle.c_syntax_written.specs.WrittenFile.{blockitem_tree, blockitems_from, stmt_tree}
use Rattle.c_syntax_written.proofs.WrittenFileTrees.{blockitem_statement, blockitems_cons}
use Rattle.c_typing.specs.Context.{written_labels, written_labels_in}
use Rattle.c_check_jumps.proofs.Finding.{from_place, none_left}
use Rattle.c_check_jumps.proofs.LabelForms.{labels_statement, none_labels}
use Rattle.c_check_jumps.proofs.context_labels.+labels.Goals as goal

pub add_labels_in-each-preserved : goal.add_labels_in-each-preserved
add_labels_in-each-preserved t c =
    let items = c.as_slice-items.result.now in
    let i = c.each.item-index in
    let rest = drop (i + 1) items in
    c.in_ok-add_labels_at.ensures (blockitems_from rest)
    ∙ ap (λ left. c.each.labels ++ written_labels_in left) (sym (blockitems_cons c.item-item.result rest) ∙ ap blockitems_from (from_place items i c.item-item.result (omega arith) c.item-item.is))
    ∙ c.each.invariant

pub add_labels_in-returns : goal.add_labels_in-returns
add_labels_in-returns t c =
    let labels = c.each.labels in
    sym (append-nil labels) ∙ ap (λ rest. labels ++ rest) none_labels
    ∙ ap (λ rest. labels ++ written_labels_in (blockitems_from rest)) (sym (none_left c.as_slice-items.result.now c.each.item-index (omega (arith, c.each-test.false))))
    ∙ c.each.invariant

pub add_labels_at-returns-in_ok-add_labels-in-Statement : goal.add_labels_at-returns-in_ok-add_labels-in-Statement
add_labels_at-returns-in_ok-add_labels-in-Statement t c rest =
    let labels = c.args.labels.now in
    let s = stmt_tree c.in-Statement.statement in
    ap (λ all. all ++ written_labels_in rest) c.in_ok-add_labels-in-Statement.ensures ∙ append_assoc labels (written_labels s) (written_labels_in rest)
    ∙ ap (λ all. labels ++ all) (sym (labels_statement s rest) ∙ ap (λ item. written_labels_in (files.more item rest)) (sym (ap blockitem_tree c.in-Statement.is ∙ blockitem_statement c.in-Statement.statement)))
