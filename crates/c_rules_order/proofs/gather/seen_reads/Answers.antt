use Rattle.std.proofs.Common.{map}
use Rattle.c_syntax.specs.Types.{object_tree}
use Rattle.c_rules_calls.specs.Placed.{placed}
use Rattle.c_rules_order.specs.Gathered.{HasCalledReads, IsSeenObject}
use Rattle.c_rules_order.proofs.Gathering.{gathered}
use Rattle.c_rules_order.proofs.gather.seen_reads.Goals as goal

pub returns : goal.returns
returns c =
    gathered (IsSeenObject (map object_tree c.args.objects.now)) (HasCalledReads c.args.known.now (map placed c.args.calls.now)) c.args.touches.now c.in_ok-seen.seen
    c.in_ok-list.list c.into_touches.result c.into_touches.ensures c.in_ok-seen.ensures c.in_ok-list.ensures
