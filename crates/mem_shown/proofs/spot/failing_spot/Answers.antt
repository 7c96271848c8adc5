use Rattle.std.proofs.Common.{map}
use Rattle.c_syntax.specs.declared.alarm.Spot.TheVariants as spots
use Rattle.c_syntax.specs.declared.alarm.WrongKind.TheVariants as kinds
use Rattle.c_syntax.specs.Types.{object_tree}
use Rattle.mem_shown.specs.declared.wanted.Wanted.TheVariants as wanteds
use Rattle.mem_shown.proofs.Unfailing.{spot_by, spot_nowhere}
use Rattle.mem_shown.proofs.spot.failing_spot.Goals as goal

pub returns-in-NullUse : goal.returns-in-NullUse
returns-in-NullUse c =
    let trees = map object_tree c.args.objects.now in
    spot_nowhere trees c.args.check.now c.args.set.now spots.Null kinds.NullUse c.nowhere.result c.in-NullUse.is (λ s f. f) (λ s f. f) (c.nowhere.ensures trees)

pub returns-in-Dangling : goal.returns-in-Dangling
returns-in-Dangling c =
    let trees = map object_tree c.args.objects.now in
    spot_nowhere trees c.args.check.now c.args.set.now spots.Dead kinds.Dangling c.nowhere-in-Dangling.result c.in-Dangling.is (λ s f. f) (λ s f. f) (c.nowhere-in-Dangling.ensures trees)

pub returns-in-Bounds : goal.returns-in-Bounds
returns-in-Bounds c =
    spot_by (map object_tree c.args.objects.now) c.args.check.now c.args.set.now wanteds.Outside kinds.Bounds c.at_object.result c.in-Bounds.is (λ o d f. f) (λ o d f. f) (λ f. f) (λ f. f)
    c.at_object.ensures

pub returns-in-Access : goal.returns-in-Access
returns-in-Access c =
    spot_by (map object_tree c.args.objects.now) c.args.check.now c.args.set.now (wanteds.NoRoom c.args.check.now.size) kinds.Access c.at_object-in-Access.result c.in-Access.is (λ o d f. f) (λ o d f. f)
    (λ f. f) (λ f. f) c.at_object-in-Access.ensures

pub returns-in-Alignment : goal.returns-in-Alignment
returns-in-Alignment c =
    spot_by (map object_tree c.args.objects.now) c.args.check.now c.args.set.now (wanteds.Unaligned c.args.check.now.align) kinds.Alignment c.at_object-in-Alignment.result c.in-Alignment.is (λ o d f. f)
    (λ o d f. f) (λ f. f) (λ f. f) c.at_object-in-Alignment.ensures

pub returns-in-ReadOnly : goal.returns-in-ReadOnly
returns-in-ReadOnly c =
    spot_by (map object_tree c.args.objects.now) c.args.check.now c.args.set.now wanteds.ReadOnly kinds.ReadOnly c.at_object-in-ReadOnly.result c.in-ReadOnly.is (λ o d f. f) (λ o d f. f) (λ f. f) (λ f. f)
    c.at_object-in-ReadOnly.ensures
