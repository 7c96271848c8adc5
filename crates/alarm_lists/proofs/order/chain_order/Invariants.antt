use Rattle.std.proofs.Common.{◌≡◌, length}
use Rattle.std.specs.List.{flat_map}
use Rattle.std.specs.Ordering.{nat_cmp}
use Rattle.std.specs.Cmp.Lexicographic.{slice_cmp}
use Rattle.c_steps.specs.Order.{place_key}
use Rattle.alarm_lists.proofs.order.chain_order.Given as goal

abbrev pub invariant-loop-call : goal.invariant-loop-call
invariant-loop-call l =
    slice_cmp nat_cmp (flat_map place_key l.a) (flat_map place_key l.b) ≡ slice_cmp nat_cmp (flat_map place_key l.rest) (flat_map place_key l.others)

abbrev pub decreases-loop-call : goal.decreases-loop-call
decreases-loop-call l = length l.rest
