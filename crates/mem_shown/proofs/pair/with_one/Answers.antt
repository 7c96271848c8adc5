use Rattle.std.proofs.Common.{map}
use Rattle.c_syntax.specs.Types.{object_tree}
use Rattle.mem_shown.proofs.Together.{with_left, with_right, with_none}
use Rattle.mem_shown.proofs.pair.with_one.Goals as goal

pub returns-then-has : goal.returns-then-has
returns-then-has c =
    let trees = map object_tree c.args.objects.now in
    with_left trees c.args.left.now c.args.right.now c.args.bad c.in_ok-partner.partner ((c.has.ensures trees).0 c.if-has.true) c.in_ok-partner.ensures

pub returns-then-has-2 : goal.returns-then-has-2
returns-then-has-2 c =
    let trees = map object_tree c.args.objects.now in
    with_right trees c.args.left.now c.args.right.now c.args.bad c.in_ok-partner-2.partner c.in_ok-partner-2.ensures ((c.has-2.ensures trees).0 c.if-has-2.true)

pub returns-else-has-2 : goal.returns-else-has-2
returns-else-has-2 c =
    let trees = map object_tree c.args.objects.now in
    with_none trees c.args.left.now c.args.right.now c.args.bad (λ i. let t = (c.has.ensures trees).1 i in let f = c.if-has.false in cc)
    (λ i. let t = (c.has-2.ensures trees).1 i in let f = c.if-has-2.false in cc)
