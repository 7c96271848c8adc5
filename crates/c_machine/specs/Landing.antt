-- Where jumps land: work is dropped up to an item, and the objects end of the blocks whose ends are dropped (C11 6.8.6, 6.2.4p6).
use Rattle.std.specs.Prelude.{Bool, true, false, if◌then◌else◌, List, [], ◌∷◌}
use Rattle.c_values.specs.Places.{ObjectMemory}
use Rattle.c_objects.specs.Opening.{shut_all}
use Rattle.c_steps.specs.Marks.{AtLabel, has}
use Rattle.c_steps.specs.Work.{Item, Again, SwitchEnd, Reach, Close}
use Rattle.c_machine.specs.declared.jumps.Way.{Way}
use Rattle.c_machine.specs.declared.jumps.Way.TheVariants as ways

-- the item up to which a jump drops work
abbrev pub ends_at : Way → Item → Bool
ends_at way (Reach at end) = true
ends_at ways.Break (Again k loop) = true
ends_at ways.Break SwitchEnd = true
ends_at ways.Continue (Again k loop) = true
ends_at (ways.Goto label) (Close objects items) = has (AtLabel label) items
ends_at way item = false

abbrev pub rest_at : Way → List Item → List Item
rest_at way [] = []
rest_at way (item ∷ work) = if ends_at way item then item ∷ work else rest_at way work

-- the end of a block ends its objects
abbrev pub closed : ObjectMemory → Item → ObjectMemory
closed m (Close objects items) = shut_all m objects
closed m item = m

abbrev pub memory_at : Way → List Item → ObjectMemory → ObjectMemory
memory_at way [] m = m
memory_at way (item ∷ work) m = if ends_at way item then m else memory_at way work (closed m item)
