use Rattle.std.proofs.Common.{ℕ, ℤ, pos, ◌≡◌, ◌+◌, ◌-◌, ◌^◌, ◌<◌, ◌<ℤ◌, ◌≤ℤ◌, ◌-ℤ◌, Some, None, refl, sym, ◌∙◌, ap, subst, arith, to_z, of_z}
use Rattle.std.proofs.lemmas.Int.{ints, to_z-of_z}
use Rattle.std.proofs.lemmas.Nat.{pow_pos}
use mir.Syntax.{w128}
use Rattle.num_api.specs.Steps.{least}
use Rattle.num_api.specs.Powers.{powers_from}
use Rattle.num_api.proofs.PowerLemmas.{shifted, shifted-bits, shifted-fits, less, not_less, above_of_apart, powers-less_one, powers-at, powers-past, powers-end}
use Rattle.num_api.proofs.ramp.step_above_zero.Goals as goal

-- what the loop keeps, at the number as it was passed
kept : (n m : ℤ) (k : ℕ) → m ≡ n → least (powers_from 1 64) m ≡ least (powers_from k (65 - k)) m → least (powers_from 1 64) n ≡ least (powers_from k (65 - k)) n
kept n m k same e = subst (λ (x : ℤ). least (powers_from 1 64) x ≡ least (powers_from k (65 - k)) x) same e

pub returns-then-n-power : goal.returns-then-n-power
returns-then-n-power c =
    let h : c.loop-k.k < 65 = omega arith in
    let power = shifted c.loop-k.k h in
    let below : c.args.n <ℤ pos (2 ^ c.loop-k.k) = less _ _ _ _ (to_z-of_z w128 c.args.n c.ranges.n) power c.if-n-power.true in
    ap Some (rw power (shifted-fits c.loop-k.k (pos (2 ^ c.loop-k.k) -ℤ pos 1) h (omega (arith, ints, pow_pos c.loop-k.k)) (omega (arith, ints))))
    ∙ sym (kept c.args.n _ c.loop-k.k (to_z-of_z w128 c.args.n c.ranges.n) c.loop-k.invariant ∙ powers-less_one c.loop-k.k c.args.n (pos (2 ^ c.loop-k.k)) h refl below)

pub returns-then-n-power-2 : goal.returns-then-n-power-2
returns-then-n-power-2 c =
    let h : c.loop-k.k < 65 = omega arith in
    let power = shifted c.loop-k.k h in
    let at : c.args.n ≡ pos (2 ^ c.loop-k.k) = sym (to_z-of_z w128 c.args.n c.ranges.n) ∙ ap (to_z w128) c.if-n-power-2.true ∙ power in
    ap Some power
    ∙ sym (kept c.args.n _ c.loop-k.k (to_z-of_z w128 c.args.n c.ranges.n) c.loop-k.invariant ∙ powers-at c.loop-k.k c.args.n (pos (2 ^ c.loop-k.k)) h refl at)

pub loop-k-preserved : goal.loop-k-preserved
loop-k-preserved c =
    let h : c.loop-k.k < 65 = omega arith in
    let same = to_z-of_z w128 c.args.n c.ranges.n in
    let reached : pos (2 ^ c.loop-k.k) ≤ℤ c.args.n = not_less _ _ _ _ same (shifted c.loop-k.k h) c.if-n-power.false in
    let over : pos (2 ^ c.loop-k.k) <ℤ c.args.n = above_of_apart _ _ reached (λ e. c.if-n-power-2.false (ap (of_z w128) e ∙ sym (shifted-bits c.loop-k.k h))) in
    c.loop-k.invariant ∙ powers-past c.loop-k.k _ (pos (2 ^ c.loop-k.k)) h refl (subst (λ (x : ℤ). pos (2 ^ c.loop-k.k) <ℤ x) (sym same) over)

pub returns : goal.returns
returns c =
    let e : c.loop-k.k ≡ 65 = omega arith in
    sym (kept c.args.n _ c.loop-k.k (to_z-of_z w128 c.args.n c.ranges.n) c.loop-k.invariant ∙ ap (λ (k : ℕ). least (powers_from k (65 - k)) c.args.n) e ∙ powers-end c.args.n)
