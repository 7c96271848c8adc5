use Rattle.std.proofs.Common.{◌+◌, ◌*◌, drop}
use Rattle.c_syntax_written.specs.WrittenFile.{blockitem_tree, blockitems_from, blockitems_tree, stmt_tree}
use Rattle.c_syntax_written.specs.Sizes.{blockitem_size, blockitems_size, stmt_size}
use Rattle.c_typing.specs.Decls.{Made, nothing_made}
use Rattle.c_typing.specs.Stmts.{TypesItems}
use Rattle.c_typing.specs.World.{Outcome}
use Rattle.c_check_jumps.specs.ContextViews.{context_tree}
use Rattle.c_check_decls.specs.MadeViews.{made_tree}
use Rattle.c_check_names.specs.Worlds.{world_of}
use Rattle.c_check_stmts.proofs.+walk.Given as goal

abbrev pub decreases-items::block_items : goal.decreases-items::block_items
decreases-items::block_items l = 8 * blockitems_size (blockitems_tree l.items.now) + 1

abbrev pub decreases-items::item_behind : goal.decreases-items::item_behind
decreases-items::item_behind l = 8 * blockitem_size (blockitem_tree l.item.now)

abbrev pub decreases-items::statement : goal.decreases-items::statement
decreases-items::statement l = 8 * stmt_size (stmt_tree l.s.now)

abbrev pub decreases-prefixes::label_form : goal.decreases-prefixes::label_form
decreases-prefixes::label_form l = 8 * stmt_size (stmt_tree l.body.now) + 2

abbrev pub decreases-prefixes::case_form : goal.decreases-prefixes::case_form
decreases-prefixes::case_form l = 8 * stmt_size (stmt_tree l.body.now) + 2

abbrev pub decreases-prefixes::default_form : goal.decreases-prefixes::default_form
decreases-prefixes::default_form l = 8 * stmt_size (stmt_tree l.body.now) + 2

abbrev pub decreases-prefixes::behind_prefix : goal.decreases-prefixes::behind_prefix
decreases-prefixes::behind_prefix l = 8 * stmt_size (stmt_tree l.body.now) + 1

abbrev pub decreases-forms::block_form : goal.decreases-forms::block_form
decreases-forms::block_form l = 8 * blockitems_size (blockitems_tree l.items.now) + 2

abbrev pub decreases-forms::substatement : goal.decreases-forms::substatement
decreases-forms::substatement l = 8 * stmt_size (stmt_tree l.s.now) + 1

abbrev pub decreases-forms::if_form : goal.decreases-forms::if_form
decreases-forms::if_form l = 8 * stmt_size (stmt_tree l.first.now) + 2

abbrev pub decreases-forms::if_else_form : goal.decreases-forms::if_else_form
decreases-forms::if_else_form l = 8 * (stmt_size (stmt_tree l.first.now) + stmt_size (stmt_tree l.second.now)) + 2

abbrev pub decreases-forms::while_form : goal.decreases-forms::while_form
decreases-forms::while_form l = 8 * stmt_size (stmt_tree l.body.now) + 2

abbrev pub decreases-forms::do_while_form : goal.decreases-forms::do_while_form
decreases-forms::do_while_form l = 8 * stmt_size (stmt_tree l.body.now) + 2

abbrev pub decreases-forms::for_form : goal.decreases-forms::for_form
decreases-forms::for_form l = 8 * stmt_size (stmt_tree l.body.now) + 2

abbrev pub decreases-switches::switch_form : goal.decreases-switches::switch_form
decreases-switches::switch_form l = 8 * stmt_size (stmt_tree l.body.now) + 4

abbrev pub decreases-switches::switch_body : goal.decreases-switches::switch_body
decreases-switches::switch_body l = 8 * stmt_size (stmt_tree l.body.now) + 3

abbrev pub decreases-switches::written_body : goal.decreases-switches::written_body
decreases-switches::written_body l = 8 * blockitems_size (blockitems_tree l.items.now) + 2

abbrev pub decreases-switches::added_body : goal.decreases-switches::added_body
decreases-switches::added_body l = 8 * stmt_size (stmt_tree l.body.now) + 1

-- what is left decides for all
abbrev pub invariant-items::block_items-each : goal.invariant-items::block_items-each
invariant-items::block_items-each l =
    (o : Outcome Made) → TypesItems (world_of l.world) (context_tree l.around) (made_tree l.done) (blockitems_from (drop l.item-index l.list)) o
    → TypesItems (world_of l.fn.world) (context_tree l.fn.around) nothing_made (blockitems_tree l.fn.items) o
