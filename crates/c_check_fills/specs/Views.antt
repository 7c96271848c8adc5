-- Whole initialisers, as typing speaks of them.
use Rattle.std.specs.Prelude.{map}
use Rattle.c_syntax.specs.TypedStmt.{tinit_tree}
use Rattle.c_typing.specs.Inits as inits
use Rattle.c_check_fills.specs.declared.initialised.Initialised.{Initialised}

abbrev pub by_tree : Initialised → inits.Initialised
by_tree by = record { items = map tinit_tree by.items.items; zeroes_rest = by.zeroes_rest; count = by.count }
