use Rattle.std.proofs.Common.{map}
use Rattle.c_syntax.specs.Types.{object_tree}
use Rattle.c_rules_order.specs.Gathered.{IsSeenObject}
use Rattle.c_rules_order.proofs.Gathering.{with_one}
use Rattle.c_rules_order.proofs.gather.with_seen.Goals as goal

pub returns-then-is_seen : goal.returns-then-is_seen
returns-then-is_seen c =
    with_one (IsSeenObject (map object_tree c.args.objects.now)) c.args.list c.args.touch.now c.with.result c.if-is_seen.ensures c.with.ensures
