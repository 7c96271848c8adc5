-- What the items of a list fill, as typing speaks of it.
use Rattle.std.specs.Prelude.{map}
use Rattle.c_syntax.specs.TypedStmt.{tinit_tree}
use Rattle.c_typing.specs.Inits as inits
use Rattle.c_check_fills.specs.RoomViews.{aggregates_tree}
use Rattle.c_check_inits.specs.declared.filled.Filled.{Filled}

abbrev pub filled_tree : Filled → inits.Filled
filled_tree filled = record { items = map tinit_tree filled.items.items; aggregates = aggregates_tree filled.aggregates }
