-- The steps of the powers ramp: 0, the powers of two from 1 to 2^64, those less one, and the negations of all these.
use Rattle.std.specs.Prelude.{ℕ, ℤ, zero, suc, pos, ◌+◌, ◌^◌, neg_ℤ, ◌-ℤ◌, List, [], ◌∷◌, ◌++◌}

-- 2^k - 1 and 2^k, for `count` exponents k from `first` up
unfoldable pub powers_from : ℕ → ℕ → List ℤ
powers_from first zero = []
powers_from first (suc count) = (pos (2 ^ first) -ℤ pos 1) ∷ pos (2 ^ first) ∷ powers_from (first + 1) count

-- -2^k and -(2^k - 1), for each exponent k from `last` down to 1
unfoldable pub negations_from : ℕ → List ℤ
negations_from zero = []
negations_from (suc k) = neg_ℤ (pos (2 ^ suc k)) ∷ neg_ℤ (pos (2 ^ suc k) -ℤ pos 1) ∷ negations_from k

-- the steps at exponents from 1 to 64, in rising order
unfoldable pub power_steps : List ℤ
power_steps = negations_from 64 ++ pos 0 ∷ powers_from 1 64
