-- A closure that answers by `power_step` meets the condition of a ramp of the powers steps.
use Rattle.std.proofs.Common.{ℕ, ℤ, pos, ◌≡◌, ◌^◌, neg_ℤ, ◌≤ℤ◌, ◌<ℤ◌, List, [], ◌∷◌, Option, length, map, reverse, All, Bool, true, false, cond, refl, arith}
use Rattle.std.specs.Int.RustNames.{int_le, int_lt}
use Rattle.std.proofs.lemmas.Int.{ints}
use Rattle.std.proofs.lemmas.List.Elements.{All-nil, All-cons}
use Rattle.num_api.specs.Steps.{IsSmall, RisesFrom, IsRising, least}
use Rattle.num_api.specs.Powers.{powers_from, negations_from, power_steps}
use Rattle.num_api.specs.Told.{Answers}

-- ---- tests that compute

abbrev all_small : List ℤ → Bool
all_small [] = true
all_small (x ∷ xs) = cond (int_le (neg_ℤ (pos (2 ^ 100))) x) (cond (int_le x (pos (2 ^ 100))) (all_small xs) false) false

abbrev rises_from : ℤ → List ℤ → Bool
rises_from low [] = true
rises_from low (x ∷ xs) = cond (int_lt low x) (rises_from x xs) false

cond-test : (b c : Bool) → cond b c false ≡ true → b ≡ true
cond-test b c e = grind arith

cond-rest : (b c : Bool) → cond b c false ≡ true → c ≡ true
cond-rest b c e = grind arith

le-test : (x y : ℤ) → int_le x y ≡ true → x ≤ℤ y
le-test x y e = grind (arith, ints)

lt-test : (x y : ℤ) → int_lt x y ≡ true → x <ℤ y
lt-test x y e = grind (arith, ints)

all_small-true : (xs : List ℤ) → all_small xs ≡ true → All IsSmall xs
all_small-true [] e = All-nil IsSmall
all_small-true (x ∷ xs) e =
    let low = int_le (neg_ℤ (pos (2 ^ 100))) x in
    let high = int_le x (pos (2 ^ 100)) in
    let rest : cond high (all_small xs) false ≡ true = cond-rest low (cond high (all_small xs) false) e in
    All-cons IsSmall x xs (record { low = le-test _ _ (cond-test low (cond high (all_small xs) false) e); high = le-test _ _ (cond-test high (all_small xs) rest) })
    (all_small-true xs (cond-rest high (all_small xs) rest))

rises_from-true : (low : ℤ) (xs : List ℤ) → rises_from low xs ≡ true → RisesFrom low xs
rises_from-true low [] e = tt
rises_from-true low (x ∷ xs) e = (lt-test low x (cond-test (int_lt low x) (rises_from x xs) e), rises_from-true x xs (cond-rest (int_lt low x) (rises_from x xs) e))

-- ---- the powers steps

rest-rises : (low : ℤ) (xs : List ℤ) → RisesFrom low xs → IsRising xs
rest-rises low [] r = tt
rest-rises low (x ∷ xs) r = r.1

power_steps-rise : IsRising power_steps
unfolding power_steps powers_from negations_from
power_steps-rise = rest-rises (neg_ℤ (pos (2 ^ 65))) power_steps (rises_from-true (neg_ℤ (pos (2 ^ 65))) power_steps refl)

power_steps-small : All IsSmall power_steps
unfolding power_steps powers_from negations_from
power_steps-small = all_small-true power_steps refl

power_steps-count : length power_steps ≡ 257
unfolding power_steps powers_from negations_from
power_steps-count = refl

power_steps-mirrored : reverse (map neg_ℤ power_steps) ≡ power_steps
unfolding power_steps powers_from negations_from
power_steps-mirrored = refl

pub powers_answer : {U : Type 0} (pre : U → ℤ → Type 0) (post : U → ℤ → Option ℤ → Type 0) (up : U)
    → ((n : ℤ) → IsSmall n → pre up n) → ((n : ℤ) (r : Option ℤ) → IsSmall n → post up n r → r ≡ least power_steps n) → Answers pre post 257 up power_steps
powers_answer pre post up callable least_step = record {
  counted = power_steps-count;
  rising = power_steps-rise;
  small = power_steps-small;
  mirrored = power_steps-mirrored;
  callable = callable;
  least_step = least_step;
}
