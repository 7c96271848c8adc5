use Rattle.std.proofs.Common.{◌≡◌, FitsSigned, rules, inr, subst}
use Rattle.std.proofs.lemmas.Int.{to_z-of_z}
use mir.Syntax.{w128}
use Rattle.num_api.specs.declared.message.Range.{Range}
use Rattle.num_api.specs.Ranges.{IsPoint}
use Rattle.num_api.specs.Spans.{point, range_of}
use Rattle.residues.proofs.Pointed.{at_point}
use Rattle.residues.proofs.Keeping.{point_keeps}
use Rattle.std.proofs.Common.{ℤ, ◌≤ℤ◌, arith, sym, ◌∙◌}
use Rattle.std.proofs.lemmas.Int.{ints}
use Rattle.num_api.specs.Ranges.{InRange}
use Rattle.residues.proofs.pair.Pair.pointed.Goals as goal

in_point : (n : ℤ) → InRange (range_of (point n)) n
in_point n = let itself : n ≤ℤ n = omega (arith, ints) in record { low = itself; high = itself }

pub returns-clause-class : goal.returns-clause-class
returns-clause-class g c =
    let n = c.in-Some.n in
    let f : FitsSigned w128 n = search rules in
    let is : c.point.result ≡ range_of (point n) = rw (to_z-of_z w128 n f) at c.point.ensures in
    inr (n, subst (λ (r : Range). IsPoint r n) c.ends.ensures.value c.in-Some.ensures.some, λ t. c.in-Some-within.ensures.fold n t (at_point c.point.result n is))

pub returns-clause-keeps : goal.returns-clause-keeps
returns-clause-keeps g c = λ same.
    let n = c.in-Some.n in
    let f : FitsSigned w128 n = search rules in
    let is : c.point.result ≡ range_of (point n) = rw (to_z-of_z w128 n f) at c.point.ensures in
    let class = c.in-Some-within.class in
    let member = g.W.ValueDomain.class_holds class n (c.in-Some-within.ensures.some n (subst (λ (r : Range). InRange r n) (sym is) (in_point n))) in
    point_keeps (g.W.ValueDomain.class class) (g.V.ValueDomain.known c.args.self.now.bounds) n (g.W.ValueDomain.class_proper class).not_negative
    (subst (λ (r : Range). IsPoint r n) (c.ends.ensures.value ∙ sym same) c.in-Some.ensures.some) member
