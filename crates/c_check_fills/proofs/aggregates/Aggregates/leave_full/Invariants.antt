use Rattle.std.proofs.Common.{◌≡◌, vec_len}
use Rattle.c_typing.specs.CurrentObject.{current}
use Rattle.c_check_fills.specs.RoomViews.{aggregates_tree}
use Rattle.c_check_fills.proofs.aggregates.Aggregates.leave_full.Given as goal

abbrev pub invariant-full : goal.invariant-full
invariant-full l = current (aggregates_tree l.self) ≡ current (aggregates_tree l.fn.self)

abbrev pub decreases-full : goal.decreases-full
decreases-full l = vec_len l.self.outer
