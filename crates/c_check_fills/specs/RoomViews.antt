-- Parts of objects and aggregates under way, as typing speaks of them.
use Rattle.std.specs.Prelude.{Bool, map, reverse}
use Rattle.c_syntax.specs.Types.{CTypeTree, ctype_tree}
use Rattle.c_typing.specs.CurrentObject as objects
use Rattle.c_check_fills.specs.declared.parts.Part.{Part}
use Rattle.c_check_fills.specs.declared.frames.Frame.{Frame}
use Rattle.c_check_fills.specs.declared.aggregates.Aggregates.{Aggregates}
use Rattle.c_check_fills.specs.declared.items.Item.{Item}
use Rattle.c_check_fills.specs.declared.items.Item.TheVariants as items

abbrev pub part_tree : Part → objects.Part
part_tree part = record { ty = ctype_tree part.ty; offset = part.offset }

abbrev pub frame_tree : Frame → objects.Frame
frame_tree frame = record { ty = ctype_tree frame.ty; offset = frame.offset; count = frame.count; next = frame.next }

-- the code has the innermost of those around at the end
abbrev pub aggregates_tree : Aggregates → objects.Aggregates
aggregates_tree a = record { inner = frame_tree a.inner; outer = reverse (map frame_tree a.outer.items) }

-- which parts such an item fills whole
abbrev pub takes : Item → CTypeTree → Bool
takes (items.Value ty) = objects.takes_value (ctype_tree ty)
takes items.Text = objects.takes_text
