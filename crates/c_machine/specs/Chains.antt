-- The call whose function's end an item is; main has none.
use Rattle.std.specs.Prelude.{Option, None}
use Rattle.c_syntax_written.specs.declared.place.Pos.{Pos}
use Rattle.c_steps.specs.Work.{Item, Reach}

abbrev pub call_in : Item → Option Pos
call_in (Reach at end) = at
call_in item = None
