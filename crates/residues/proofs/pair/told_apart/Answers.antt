use Rattle.std.proofs.Common.{◌≡◌, ℤ, to_z, of_z, FitsSigned, rules, sym, subst, ◌∙◌}
use Rattle.std.proofs.lemmas.Int.{to_z-of_z}
use mir.Syntax.{w128}
use Rattle.num_api.specs.Ranges.{IsPoint}
use Rattle.num_api.specs.Residues.{InResidue}
use Rattle.residues.proofs.pair.told_apart.Goals as goal

pub returns-then-are_apart-clause-holds : goal.returns-then-are_apart-clause-holds
returns-then-are_apart-clause-holds g c = λ x y n p q e v.
    let f : FitsSigned w128 c.in-Some.n = search rules in
    let apart : x ≡ y → ⊥ = λ s. c.are_apart.ensures.apart c.if-are_apart.true x p (subst (λ (z : ℤ). InResidue c.args.b z) (sym s) q) in
    let is : n ≡ to_z w128 (of_z w128 c.in-Some.n) = c.in-Some.ensures.some x y n apart e ∙ sym (to_z-of_z w128 c.in-Some.n f) in
    subst (λ (z : ℤ). g.V.ValueDomain.admits c.at_number.result z) (sym is) (c.at_number.ensures.holds (subst (λ (z : ℤ). g.V.ValueDomain.admits c.args.values z) is v))

pub returns-then-are_apart-clause-apart : goal.returns-then-are_apart-clause-apart
returns-then-are_apart-clause-apart g c = λ x y n t equality none p q e v.
    let f : FitsSigned w128 c.in-Some.n = search rules in
    let apart : x ≡ y → ⊥ = λ s. none x p (subst (λ (z : ℤ). InResidue c.args.b z) (sym s) q) in
    let is : n ≡ to_z w128 (of_z w128 c.in-Some.n) = c.in-Some.ensures.some x y n apart e ∙ sym (to_z-of_z w128 c.in-Some.n f) in
    subst (λ (z : ℤ). IsPoint (g.V.ValueDomain.known c.at_number.result) z) (sym is) (c.at_number.ensures.point t (subst (λ (z : ℤ). g.V.ValueDomain.admits c.args.values z) is v))

pub returns-else-are_apart-clause-apart : goal.returns-else-are_apart-clause-apart
returns-else-are_apart-clause-apart g c = λ x y n t equality none p q e v.
    let m = c.are_apart.ensures.common c.if-are_apart.false in
    absurd (none m.0 m.1 m.2)
