use Rattle.std.proofs.Common.{pos, neg_ℤ, ◌-ℤ◌, ◌+ℤ◌, ◌≤ℤ◌, ◌^◌, ap, ◌∙◌, arith}
use Rattle.std.proofs.lemmas.Int.{ints, to_z-of_z}
use mir.Syntax.{w128}
use Rattle.ramp_constants.proofs.Around.{six_added, fits, le_is}
use Rattle.ramp_constants.proofs.steps.add_steps.Goals as goal

pub returns : goal.returns
returns c =
    let k = c.args.constant in
    let same = to_z-of_z w128 k c.ranges.constant in
    let low : neg_ℤ (pos (2 ^ 64)) ≤ℤ k = omega (arith, ints, c.if-constant-most.false, same) in
    let high : k ≤ℤ pos (2 ^ 64) = omega (arith, ints, c.if-constant-most-2.false, same) in
    six_added c.args.steps.now.items c.push.new.self.items c.push-2.new.self.items c.push-3.new.self.items c.push-4.new.self.items c.push-5.new.self.items
    c.push-6.new.self.items k _ _ _ _ _ _ c.in_ok-push.ensures.items c.in_ok-push-2.ensures.items c.in_ok-push-3.ensures.items c.in_ok-push-4.ensures.items
    c.in_ok-push-5.ensures.items c.in_ok-push-6.ensures.items same
    (fits _ _ (c.before-2.ensures ∙ ap (λ n. n -ℤ pos 1) same) (omega (arith, ints, low, high)) (omega (arith, ints, low, high)))
    (fits _ _ (c.after.ensures ∙ ap (λ n. n +ℤ pos 1) same) (omega (arith, ints, low, high)) (omega (arith, ints, low, high)))
    (fits _ _ (c.opposite.ensures ∙ ap neg_ℤ same) (omega (arith, ints, low, high)) (omega (arith, ints, low, high)))
    (fits _ _ (c.opposite-2.ensures ∙ ap neg_ℤ (fits _ _ (c.before-3.ensures ∙ ap (λ n. n -ℤ pos 1) same) (omega (arith, ints, low, high)) (omega (arith, ints, low, high))))
    (omega (arith, ints, low, high)) (omega (arith, ints, low, high)))
    (fits _ _ (c.opposite-3.ensures ∙ ap neg_ℤ (fits _ _ (c.after-2.ensures ∙ ap (λ n. n +ℤ pos 1) same) (omega (arith, ints, low, high)) (omega (arith, ints, low, high))))
    (omega (arith, ints, low, high)) (omega (arith, ints, low, high)))
    (le_is _ _ low) (le_is _ _ high)
