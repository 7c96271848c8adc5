use Rattle.std.proofs.Common.{map, subst}
use Rattle.std.specs.Prelude.{◌↔◌, Contains}
use Rattle.std.proofs.lemmas.List.{take_all}
use Rattle.c_syntax.specs.Types.{object_tree}
use Rattle.c_rules_order.specs.Gathered.{IsSeenObject}
use Rattle.c_rules_order.proofs.Gathering.{more_seen}
use Rattle.c_rules_order.proofs.gather.seen_among.Goals as goal

pub loop-touch-preserved : goal.loop-touch-preserved
loop-touch-preserved c =
    more_seen (IsSeenObject (map object_tree c.args.objects.now)) c.args.touches.now c.loop-touch.list c.in_ok-list.list c.loop-touch.touch-index c.touch-item.result
    c.loop-touch-test.true c.touch-item.is c.loop-touch.invariant c.in_ok-list.ensures

pub returns : goal.returns
returns c = λ t.
    subst (λ xs. Contains c.loop-touch.list t ↔ (Contains xs t × IsSeenObject (map object_tree c.args.objects.now) t))
    (take_all c.loop-touch.touch-index c.args.touches.now c.loop-touch-test.false) (c.loop-touch.invariant t)
