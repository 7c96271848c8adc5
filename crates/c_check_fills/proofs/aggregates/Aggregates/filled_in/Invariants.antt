use Rattle.std.proofs.Common.{map}
use Rattle.c_syntax.specs.Program.{structdef_tree}
use Rattle.c_typing.specs.CurrentObject as objects
use Rattle.c_check_fills.specs.RoomViews.{aggregates_tree, part_tree, takes}
use Rattle.c_check_fills.proofs.aggregates.Aggregates.filled_in.Given as goal

-- where the rest is filled, the whole is
abbrev pub invariant-inward : goal.invariant-inward
invariant-inward l = (part : objects.Part) (a : objects.Aggregates)
    → objects.Fills (map structdef_tree l.structs) (takes l.item) (part_tree l.part) (aggregates_tree l.self) part a
    → objects.Fills (map structdef_tree l.fn.structs) (takes l.fn.item) (part_tree l.fn.part) (aggregates_tree l.fn.self) part a
