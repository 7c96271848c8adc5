use Rattle.std.proofs.Common.{◌≡◌, ℤ, ◌≤ℤ◌, arith, sym, subst}
use Rattle.std.proofs.lemmas.Int.{ints, to_z-of_z}
use mir.Syntax.{w128}
use Rattle.num_api.specs.declared.message.Range.{Range}
use Rattle.num_api.specs.Ranges.{InRange}
use Rattle.num_api.specs.Spans.{point, range_of}
use Rattle.residues.proofs.Inward.{point_inside, no_wider_trans}
use Rattle.residues.proofs.Pointed.{at_point}
use Rattle.residues.proofs.pair.at_number.Goals as goal

in_point : (n : ℤ) → InRange (range_of (point n)) n
in_point n = let itself : n ≤ℤ n = omega (arith, ints) in record { low = itself; high = itself }

pub returns-in-None-clause-point : goal.returns-in-None-clause-point
returns-in-None-clause-point g c = λ t at.
    let n = c.args.n in
    let is : c.point.result ≡ range_of (point n) = rw (to_z-of_z w128 n c.ranges.n) at c.point.ensures in
    absurd (c.in-None.ensures.none n at (c.in-Some.ensures.some n (subst (λ (r : Range). InRange r n) (sym is) (in_point n))))

pub returns-in_default-clause-point : goal.returns-in_default-clause-point
returns-in_default-clause-point g c = λ t at.
    let n = c.args.n in
    let is : c.point.result ≡ range_of (point n) = rw (to_z-of_z w128 n c.ranges.n) at c.point.ensures in
    absurd (c.in_default.ensures.none n (subst (λ (r : Range). InRange r n) (sym is) (in_point n)))

pub returns-in-Some-meet-clause-point : goal.returns-in-Some-meet-clause-point
returns-in-Some-meet-clause-point g c = λ t at.
    let n = c.args.n in
    let both = c.in-Some-meet.both in
    let known = g.V.ValueDomain.known in
    let is : c.point.result ≡ range_of (point n) = rw (to_z-of_z w128 n c.ranges.n) at c.point.ensures in
    point_inside c.point.result (known both) n (at_point c.point.result n is)
    (no_wider_trans (known both) (known c.in-Some.point) c.point.result (c.in-Some-meet.ensures.plain t).1 (c.in-Some.ensures.plain t)) (g.V.ValueDomain.known_some both t)
