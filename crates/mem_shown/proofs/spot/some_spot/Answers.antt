use Rattle.std.proofs.Common.{map}
use Rattle.c_syntax.specs.Types.{object_tree}
use Rattle.mem_shown.proofs.Together.{some_by}
use Rattle.mem_shown.proofs.spot.some_spot.Goals as goal

pub returns-then-has : goal.returns-then-has
returns-then-has c = (c.has.ensures (map object_tree c.args.objects.now)).0 c.if-has.true

pub returns-then-has-2 : goal.returns-then-has-2
returns-then-has-2 c = (c.has-else-has.ensures (map object_tree c.args.objects.now)).0 c.if-has-2.true

pub returns-else-has-2 : goal.returns-else-has-2
returns-else-has-2 c =
    let trees = map object_tree c.args.objects.now in
    some_by c.args.objects.now c.args.set.now c.at_object.result c.requires.names
    (λ i. let t = (c.has.ensures trees).1 i in let f = c.if-has.false in cc) (λ i. let t = (c.has-else-has.ensures trees).1 i in let f = c.if-has-2.false in cc) c.at_object.ensures
