use Rattle.std.proofs.Common.{map}
use Rattle.c_syntax.specs.Types.{object_tree}
use Rattle.c_rules_calls.specs.Placed.{placed}
use Rattle.c_rules_order.specs.Gathered.{HasCalledReads, HasCalledWrites, IsSeenObject}
use Rattle.c_rules_order.proofs.Gathering.{seen_so}
use Rattle.c_rules_order.proofs.closed.seen_effects.Goals as goal

pub returns : goal.returns
returns c =
    let seen = IsSeenObject (map object_tree c.args.objects.now) in
    let calls = map placed c.args.calls.now in
    record {
      reads = seen_so seen (HasCalledReads c.args.known.now calls) c.in_ok-reads.reads c.as_slice.result.now c.args.own.now.reads c.as_slice.ensures
          c.in_ok-reads.ensures;
      writes = seen_so seen (HasCalledWrites c.args.known.now calls) c.in_ok-writes.writes c.as_slice-2.result.now c.args.own.now.writes c.as_slice-2.ensures
          c.in_ok-writes.ensures;
    }
