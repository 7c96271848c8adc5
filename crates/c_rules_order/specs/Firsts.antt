-- The first two sides of which one writes what the other touches, as tests.
use Rattle.std.specs.Prelude.{◌||◌, Option, None, Some, Bool, List, ◌++◌, slice_get}
use Rattle.std.specs.List.{filter, flat_map, list_any}
use Rattle.c_layout.specs.Calls.{PlacedCall}
use Rattle.c_rules_effects.specs.declared.touch.Touch.{Touch}
use Rattle.c_rules_effects.specs.declared.effects.Effects.{Effects}
use Rattle.c_rules_effects.specs.Effects.{called}
use Rattle.c_rules_effects.specs.Met.{met}
use Rattle.c_rules_order.specs.declared.known.Known.{Known}
use Rattle.c_rules_order.specs.declared.side.Side.{Side}
use Rattle.c_rules_order.specs.declared.side.Comparison.{Comparison}

-- what the functions that are called read and write, where this is known of each function
abbrev pub called_reads : List Effects → List PlacedCall → List Touch
called_reads known calls = flat_map (λ call. (called known call.callee).reads) calls

abbrev pub called_writes : List Effects → List PlacedCall → List Touch
called_writes known calls = flat_map (λ call. (called known call.callee).writes) calls

-- all that a side writes, and all that it reads or writes
abbrev pub all_writes : List Effects → Side → List Touch
all_writes known side = side.own.writes ++ called_writes known side.calls

abbrev pub all_reads : List Effects → Side → List Touch
all_reads known side = side.own.reads ++ called_reads known side.calls

abbrev pub all_touches : List Effects → Side → List Touch
all_touches known side = all_reads known side ++ all_writes known side

-- one side writes what the other touches
abbrev pub writes_into : Known → Side → Side → Bool
writes_into known a b = list_any (λ s. list_any (met known.taken.items s) (all_touches known.functions.items b)) (all_writes known.functions.items a)

-- the same of what two do, all calls included
abbrev pub all_effects : List Effects → Side → Effects
all_effects known side = record { reads = all_reads known side; writes = all_writes known side }

abbrev pub effects_write_into : Known → Effects → Effects → Bool
effects_write_into known a b = list_any (λ s. list_any (met known.taken.items s) (b.reads ++ b.writes)) a.writes

abbrev pub clashes : Known → Comparison → Bool
clashes known c = writes_into known c.left c.right || writes_into known c.right c.left

-- what was found first, or else the first of these that clash
unfoldable pub or_first : Known → Option Comparison → List Comparison → Option Comparison
or_first known None list = slice_get (filter (clashes known) list) 0
or_first known (Some found) list = Some found
