use Rattle.std.proofs.Common.{ℕ, ℤ, pos, ◌≡◌, ◌+◌, ◌-◌, ◌^◌, ◌*◌, ◌%◌, ◌<◌, ◌<ℤ◌, ◌≤ℤ◌, ◌-ℤ◌, neg_ℤ, Some, None, refl, sym, ◌∙◌, ap, subst, arith, to_z, of_z}
use Rattle.std.proofs.lemmas.Int.{ints, to_z-of_z}
use Rattle.std.proofs.lemmas.Nat.{pow_pos}
use mir.Syntax.{w128}
use Rattle.num_api.specs.Steps.{least}
use Rattle.num_api.specs.Powers.{power_steps}
use Rattle.num_api.proofs.PowerLemmas.{from_negation, shifted, shifted-fits, at_most, not_at_most, negations-start, negations-end, negations-at_power, negations-at_less_one, negations-past_both}
use Rattle.num_api.proofs.ramp.step_up_to_zero.Goals as goal

-- what the loop keeps, at the number as it was passed
kept : (n m : ℤ) (k : ℕ) → m ≡ n → least power_steps m ≡ least (from_negation k) m → least power_steps n ≡ least (from_negation k) n
kept n m k same e = subst (λ (x : ℤ). least power_steps x ≡ least (from_negation k) x) same e

-- the two steps at an exponent, as the code makes them
negation : (k : ℕ) → k < 65 → to_z w128 (of_z w128 (pos 0 -ℤ to_z w128 (1 * 2 ^ k % 2 ^ 128))) ≡ neg_ℤ (pos (2 ^ k))
negation k h = rw (shifted k h) (shifted-fits k (pos 0 -ℤ pos (2 ^ k)) h (omega (arith, ints)) (omega (arith, ints)) ∙ omega (arith, ints))

negation_of_less_one : (k : ℕ) → k < 65 → to_z w128 (of_z w128 (pos 1 -ℤ to_z w128 (1 * 2 ^ k % 2 ^ 128))) ≡ (pos 1 -ℤ pos (2 ^ k))
negation_of_less_one k h = rw (shifted k h) (shifted-fits k (pos 1 -ℤ pos (2 ^ k)) h (omega (arith, ints)) (omega (arith, ints, pow_pos k)))

pub loop-k-init : goal.loop-k-init
loop-k-init c = negations-start _

pub returns-then-n-power : goal.returns-then-n-power
returns-then-n-power c =
    let h : c.loop-k.k - 1 < 65 = omega arith in
    let same = to_z-of_z w128 c.args.n c.ranges.n in
    kept c.args.n _ (c.loop-k.k - 1) same c.loop-k.invariant
    ∙ negations-at_power (c.loop-k.k - 1) c.args.n (omega arith) (at_most _ _ _ _ same (negation (c.loop-k.k - 1) h) c.if-n-power.true)
    ∙ ap Some (sym (negation (c.loop-k.k - 1) h))

pub returns-then-n-power-2 : goal.returns-then-n-power-2
returns-then-n-power-2 c =
    let h : c.loop-k.k - 1 < 65 = omega arith in
    let same = to_z-of_z w128 c.args.n c.ranges.n in
    kept c.args.n _ (c.loop-k.k - 1) same c.loop-k.invariant
    ∙ negations-at_less_one (c.loop-k.k - 1) c.args.n (omega arith) (not_at_most _ _ _ _ same (negation (c.loop-k.k - 1) h) c.if-n-power.false)
    (at_most _ _ _ _ same (negation_of_less_one (c.loop-k.k - 1) h) c.if-n-power-2.true)
    ∙ ap Some (sym (negation_of_less_one (c.loop-k.k - 1) h))

pub loop-k-preserved : goal.loop-k-preserved
loop-k-preserved c =
    let h : c.loop-k.k - 1 < 65 = omega arith in
    let same = to_z-of_z w128 c.args.n c.ranges.n in
    let over = not_at_most _ _ _ _ same (negation_of_less_one (c.loop-k.k - 1) h) c.if-n-power-2.false in
    c.loop-k.invariant ∙ negations-past_both (c.loop-k.k - 1) _ (omega arith) (subst (λ (x : ℤ). (pos 1 -ℤ pos (2 ^ (c.loop-k.k - 1))) <ℤ x) (sym same) over)

pub returns : goal.returns
returns c =
    let e : c.loop-k.k - 1 ≡ 0 = omega arith in
    kept c.args.n _ (c.loop-k.k - 1) (to_z-of_z w128 c.args.n c.ranges.n) c.loop-k.invariant ∙ ap (λ (k : ℕ). least (from_negation k) c.args.n) e ∙ negations-end c.args.n c.requires
