use Rattle.std.proofs.Common.{◌+◌, ◌*◌, drop}
use Rattle.c_syntax_written.specs.WrittenDecl.{init_tree, inits_from, inits_tree}
use Rattle.c_syntax_written.specs.Sizes.{init_size, inits_size}
use Rattle.c_syntax.specs.Types.{ctype_tree}
use Rattle.c_typing.specs.Inits.{Filled, TypesItems}
use Rattle.c_typing.specs.World.{Outcome}
use Rattle.c_check_names.specs.Worlds.{world_of}
use Rattle.c_check_inits.specs.Views.{filled_tree}
use Rattle.c_check_inits.proofs.items.+lists.Given as goal

abbrev pub decreases-list_items : goal.decreases-list_items
decreases-list_items l = 4 * inits_size (inits_tree l.list.now)

abbrev pub decreases-one_item : goal.decreases-one_item
decreases-one_item l = 4 * init_size (init_tree l.item.now)

abbrev pub decreases-list_item : goal.decreases-list_item
decreases-list_item l = 4 * inits_size (inits_tree l.list.now) + 2

abbrev pub decreases-list_in_part : goal.decreases-list_in_part
decreases-list_in_part l = 4 * inits_size (inits_tree l.list.now) + 1

-- what is left decides for all
abbrev pub invariant-list_items-each : goal.invariant-list_items-each
invariant-list_items-each l =
    (o : Outcome Filled) → TypesItems (world_of l.world) l.is_static (ctype_tree l.whole) (filled_tree l.done) (inits_from (drop l.item-index l.items)) o
    → TypesItems (world_of l.fn.world) l.is_static (ctype_tree l.fn.whole) (filled_tree l.fn.before) (inits_tree l.fn.list) o
