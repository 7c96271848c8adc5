use Rattle.std.proofs.Common.{◌≡◌, ℤ, Some, refl, sym, subst}
use Rattle.std.proofs.lemmas.Int.{to_z-of_z}
use mir.Syntax.{w128}
use Rattle.num_api.specs.declared.message.Range.{Range}
use Rattle.num_api.specs.Ranges as ranges
use Rattle.num_api.specs.Value.{binary_value}
use Rattle.intervals.specs.Interval.{IsPoint}
use Rattle.residues.proofs.Inward.{if_some_map}
use Rattle.residues.proofs.Operators.{point_admits}
use Rattle.residues.proofs.Pointed.{only, if_none_map}
use Rattle.residues.proofs.class.operators.number_at.Goals as goal

pub returns-clause-some : goal.returns-clause-some
returns-clause-some c =
    let p : IsPoint c.point.result c.args.x = rw (to_z-of_z w128 c.args.x c.ranges.x) at c.point.ensures in
    let q : IsPoint c.point-2.result c.args.y = rw (to_z-of_z w128 c.args.y c.ranges.y) at c.point-2.ensures in
    if_some_map (λ n. ranges.IsPoint c.range.result n) (λ n. (m : ℤ) → binary_value c.args.op c.args.x c.args.y ≡ Some m → m ≡ n) c.number.result
    (λ n h m e. only c.range.result n m h (c.range.ensures.holds m (c.binary.ensures.holds c.args.x c.args.y m (point_admits c.point.result c.args.x p) (point_admits c.point-2.result c.args.y q) e)))
    c.number.ensures.some

pub returns-clause-none : goal.returns-clause-none
returns-clause-none c =
    let p : IsPoint c.point.result c.args.x = rw (to_z-of_z w128 c.args.x c.ranges.x) at c.point.ensures in
    let q : IsPoint c.point-2.result c.args.y = rw (to_z-of_z w128 c.args.y c.ranges.y) at c.point-2.ensures in
    if_none_map c.number.result
    (λ none m e fits. none m (subst (λ (r : Range). ranges.IsPoint r m) (sym c.range.ensures.value) (c.binary.ensures.point c.args.x c.args.y m refl (record { low = p.0; high = p.1 }) (record { low = q.0; high = q.1 }) e fits)))
    c.number.ensures.none
