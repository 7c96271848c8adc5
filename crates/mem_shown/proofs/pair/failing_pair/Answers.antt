use Rattle.std.proofs.Common.{map}
use Rattle.c_syntax.specs.declared.alarm.Spot.TheVariants as spots
use Rattle.c_syntax.specs.declared.alarm.WrongKind.TheVariants as kinds
use Rattle.c_syntax.specs.Types.{object_tree}
use Rattle.mem_shown.proofs.Together.{pair_with_one}
use Rattle.mem_shown.proofs.pair.failing_pair.Goals as goal

pub returns-in-NullUse : goal.returns-in-NullUse
returns-in-NullUse c =
    pair_with_one (map object_tree c.args.objects.now) c.args.check.now c.args.left.now c.args.right.now spots.Null kinds.NullUse c.with_one.result c.in-NullUse.is (λ s t f. f) (λ s t f. f)
    c.with_one.ensures

pub returns-in-Dangling : goal.returns-in-Dangling
returns-in-Dangling c =
    pair_with_one (map object_tree c.args.objects.now) c.args.check.now c.args.left.now c.args.right.now spots.Dead kinds.Dangling c.with_one-in-Dangling.result c.in-Dangling.is (λ s t f. f) (λ s t f. f)
    c.with_one-in-Dangling.ensures
