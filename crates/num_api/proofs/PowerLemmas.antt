-- The lists of the powers ramp, unfolded one exponent at a time.
use Rattle.std.proofs.Common.{ℕ, ℤ, zero, suc, pos, to_z, of_z, ◌*◌, ◌%◌, ◌≤◌, ◌≡◌, ◌+◌, ◌-◌, ◌^◌, ◌<◌, neg_ℤ, ◌-ℤ◌, ◌<ℤ◌, ◌≤ℤ◌, List, [], ◌∷◌, ◌++◌, Option, None, Some, refl, sym, ◌∙◌, ap, arith, rules, true, false}
use Rattle.std.proofs.lemmas.Int.{ints, to_z-of_z}
use Rattle.std.proofs.lemmas.Nat.{pow_pos, pow_below}
use lib.Signed.{lt_z, le_z}
use mir.Syntax.{w128}
use mir.Val.{SFits}
use Rattle.num_api.specs.Steps.{least}
use Rattle.num_api.specs.Powers.{powers_from, negations_from, power_steps}
use Rattle.num_api.proofs.StepLemmas.{least-hit, least-miss}

-- ---- a power of two, as the code makes it

pub shifted-bits : (k : ℕ) → k < 65 → 1 * 2 ^ k % 2 ^ 128 ≡ 2 ^ k
shifted-bits k h = let below = pow_below k 65 h in omega (arith, below)

pub shifted : (k : ℕ) → k < 65 → to_z w128 (1 * 2 ^ k % 2 ^ 128) ≡ pos (2 ^ k)
shifted k h = let below = pow_below k 65 h in rw (shifted-bits k h) (omega (arith, ints, below))

pub shifted-fits : (k : ℕ) (z : ℤ) → k < 65 → neg_ℤ (pos (2 ^ k)) ≤ℤ z → z ≤ℤ pos (2 ^ k) → to_z w128 (of_z w128 z) ≡ z
shifted-fits k z h low high = let below = pow_below k 65 h in to_z-of_z w128 z (omega (arith, ints, below, low, high))

-- ---- what a comparison of the code says, at numbers that its operands are

pub less : (a b x y : ℤ) → a ≡ x → b ≡ y → lt_z a b ≡ true → x <ℤ y
less a b x y p q e = grind (arith, ints)

pub not_less : (a b x y : ℤ) → a ≡ x → b ≡ y → lt_z a b ≡ false → y ≤ℤ x
not_less a b x y p q e = grind (arith, ints)

pub at_most : (a b x y : ℤ) → a ≡ x → b ≡ y → le_z a b ≡ true → x ≤ℤ y
at_most a b x y p q e = grind (arith, ints)

pub not_at_most : (a b x y : ℤ) → a ≡ x → b ≡ y → le_z a b ≡ false → y <ℤ x
not_at_most a b x y p q e = grind (arith, ints)

pub above_of_apart : (x y : ℤ) → y ≤ℤ x → (x ≡ y → ⊥) → y <ℤ x
above_of_apart x y h apart = grind (arith, ints)

-- ---- above 0

powers-more : (k : ℕ) → k < 65 → powers_from k (65 - k) ≡ (pos (2 ^ k) -ℤ pos 1) ∷ pos (2 ^ k) ∷ powers_from (k + 1) (65 - (k + 1))
unfolding powers_from
powers-more k h = let e : 65 - k ≡ suc (65 - (k + 1)) = omega arith in rw e refl

pub powers-end : (n : ℤ) → least (powers_from 65 (65 - 65)) n ≡ None
unfolding powers_from
powers-end n = refl

pub powers-less_one : (k : ℕ) (n p : ℤ) → k < 65 → p ≡ pos (2 ^ k) → n <ℤ p → least (powers_from k (65 - k)) n ≡ Some (p -ℤ pos 1)
powers-less_one k n p h e below = ap (λ l. least l n) (powers-more k h)
    ∙ least-hit (pos (2 ^ k) -ℤ pos 1) n (pos (2 ^ k) ∷ powers_from (k + 1) (65 - (k + 1))) (omega (arith, ints, e, below)) ∙ ap (λ x. Some (x -ℤ pos 1)) (sym e)

pub powers-at : (k : ℕ) (n p : ℤ) → k < 65 → p ≡ pos (2 ^ k) → n ≡ p → least (powers_from k (65 - k)) n ≡ Some p
powers-at k n p h e at = ap (λ l. least l n) (powers-more k h)
    ∙ least-miss (pos (2 ^ k) -ℤ pos 1) n (pos (2 ^ k) ∷ powers_from (k + 1) (65 - (k + 1))) (omega (arith, ints, e, at))
    ∙ least-hit (pos (2 ^ k)) n (powers_from (k + 1) (65 - (k + 1))) (omega (arith, ints, e, at)) ∙ ap Some (sym e)

pub powers-past : (k : ℕ) (n p : ℤ) → k < 65 → p ≡ pos (2 ^ k) → p <ℤ n → least (powers_from k (65 - k)) n ≡ least (powers_from (k + 1) (65 - (k + 1))) n
powers-past k n p h e over = ap (λ l. least l n) (powers-more k h)
    ∙ least-miss (pos (2 ^ k) -ℤ pos 1) n (pos (2 ^ k) ∷ powers_from (k + 1) (65 - (k + 1))) (omega (arith, ints, e, over))
    ∙ least-miss (pos (2 ^ k)) n (powers_from (k + 1) (65 - (k + 1))) (omega (arith, ints, e, over))

-- ---- up to 0

-- the steps from -2^k on
abbrev pub from_negation : ℕ → List ℤ
from_negation k = negations_from k ++ pos 0 ∷ powers_from 1 64

pub negations-start : (n : ℤ) → least power_steps n ≡ least (from_negation 64) n
unfolding power_steps
negations-start n = refl

pub negations-end : (n : ℤ) → n ≤ℤ pos 0 → least (from_negation 0) n ≡ Some (pos 0)
unfolding negations_from
negations-end n h = least-hit (pos 0) n (powers_from 1 64) h

negations-more : (k : ℕ) → from_negation (suc k) ≡ neg_ℤ (pos (2 ^ suc k)) ∷ neg_ℤ (pos (2 ^ suc k) -ℤ pos 1) ∷ from_negation k
unfolding negations_from
negations-more k = refl

pub negations-at : (k : ℕ) (n p : ℤ) → p ≡ pos (2 ^ suc k) → n ≤ℤ neg_ℤ p → least (from_negation (suc k)) n ≡ Some (neg_ℤ p)
negations-at k n p e below = ap (λ l. least l n) (negations-more k)
    ∙ least-hit (neg_ℤ (pos (2 ^ suc k))) n (neg_ℤ (pos (2 ^ suc k) -ℤ pos 1) ∷ from_negation k) (omega (arith, ints, e, below)) ∙ ap (λ x. Some (neg_ℤ x)) (sym e)

pub negations-less_one : (k : ℕ) (n p : ℤ) → p ≡ pos (2 ^ suc k) → neg_ℤ p <ℤ n → n ≤ℤ (pos 1 -ℤ p) → least (from_negation (suc k)) n ≡ Some (pos 1 -ℤ p)
negations-less_one k n p e over below = ap (λ l. least l n) (negations-more k)
    ∙ least-miss (neg_ℤ (pos (2 ^ suc k))) n (neg_ℤ (pos (2 ^ suc k) -ℤ pos 1) ∷ from_negation k) (omega (arith, ints, e, over))
    ∙ least-hit (neg_ℤ (pos (2 ^ suc k) -ℤ pos 1)) n (from_negation k) (omega (arith, ints, e, below))
    ∙ ap Some (omega (arith, ints, e))

pub negations-past : (k : ℕ) (n p : ℤ) → p ≡ pos (2 ^ suc k) → (pos 1 -ℤ p) <ℤ n → least (from_negation (suc k)) n ≡ least (from_negation k) n
negations-past k n p e over = ap (λ l. least l n) (negations-more k)
    ∙ least-miss (neg_ℤ (pos (2 ^ suc k))) n (neg_ℤ (pos (2 ^ suc k) -ℤ pos 1) ∷ from_negation k) (omega (arith, ints, e, over))
    ∙ least-miss (neg_ℤ (pos (2 ^ suc k) -ℤ pos 1)) n (from_negation k) (omega (arith, ints, e, over))

skip-negations : (k : ℕ) (n : ℤ) → pos 0 <ℤ n → least (from_negation k) n ≡ least (powers_from 1 64) n
unfolding negations_from
skip-negations zero n h = least-miss (pos 0) n (powers_from 1 64) h
skip-negations (suc k) n h = negations-past k n (pos (2 ^ suc k)) refl (omega (arith, ints, pow_pos (suc k), h)) ∙ skip-negations k n h

pub above-zero : (n : ℤ) → pos 0 <ℤ n → least power_steps n ≡ least (powers_from 1 64) n
above-zero n h = negations-start n ∙ skip-negations 64 n h

-- the same facts at an exponent that is 1 or more

pub negations-at_power : (k : ℕ) (n : ℤ) → 0 < k → n ≤ℤ neg_ℤ (pos (2 ^ k)) → least (from_negation k) n ≡ Some (neg_ℤ (pos (2 ^ k)))
negations-at_power zero n h below = absurd (omega arith)
negations-at_power (suc k) n h below = negations-at k n (pos (2 ^ suc k)) refl below

pub negations-at_less_one : (k : ℕ) (n : ℤ) → 0 < k → neg_ℤ (pos (2 ^ k)) <ℤ n → n ≤ℤ (pos 1 -ℤ pos (2 ^ k)) → least (from_negation k) n ≡ Some (pos 1 -ℤ pos (2 ^ k))
negations-at_less_one zero n h over below = absurd (omega arith)
negations-at_less_one (suc k) n h over below = negations-less_one k n (pos (2 ^ suc k)) refl over below

pub negations-past_both : (k : ℕ) (n : ℤ) → 0 < k → (pos 1 -ℤ pos (2 ^ k)) <ℤ n → least (from_negation k) n ≡ least (from_negation (k - 1)) n
negations-past_both zero n h over = absurd (omega arith)
negations-past_both (suc k) n h over = negations-past k n (pos (2 ^ suc k)) refl over ∙ ap (λ j. least (from_negation j) n) (omega arith)
