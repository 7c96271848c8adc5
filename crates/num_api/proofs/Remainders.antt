-- Remainders from 0 to the modulus less one.
use Rattle.std.proofs.Common.{◌≡◌, zero, suc, ◌/◌, ℤ, pos, negsuc, ◌-ℤ◌, ◌*ℤ◌, neg_ℤ, ◌≤ℤ◌, ◌<ℤ◌, arith, ◌∙◌}
use Rattle.std.proofs.lemmas.Int.{ints}
use Rattle.std.specs.Int.{int_rem_euclid}
use Rattle.std.proofs.Math.IntN.{zero-*ℤ}
use Rattle.num_api.specs.Residues.{class_of, InResidue, IsMultiple}
use Rattle.num_api.proofs.Rings.{neg_mul}
use Rattle.num_api.proofs.Multiples.{multiple_along, multiple_sub, off_from_in}

-- ---- remainders

pub rem_same : (n m : ℤ) → pos 1 ≤ℤ m → InResidue (class_of (int_rem_euclid n m) m) n
rem_same (pos a) (pos zero) h = absurd (omega (arith, ints))
rem_same (pos a) (pos (suc k)) h = (pos (a / suc k), omega (arith, ints))
rem_same (pos a) (negsuc k) h = absurd (omega (arith, ints))
rem_same (negsuc a) (pos zero) h = absurd (omega (arith, ints))
rem_same (negsuc a) (pos (suc k)) h = (negsuc (a / suc k), omega (arith, ints))
rem_same (negsuc a) (negsuc k) h = absurd (omega (arith, ints))

pub rem_low : (n m : ℤ) → pos 1 ≤ℤ m → pos 0 ≤ℤ int_rem_euclid n m
rem_low (pos a) m h = omega (arith, ints)
rem_low (negsuc a) m h = omega (arith, ints)

pub rem_high : (n m : ℤ) → pos 1 ≤ℤ m → int_rem_euclid n m <ℤ m
rem_high (pos a) (pos zero) h = absurd (omega (arith, ints))
rem_high (pos a) (pos (suc k)) h = omega (arith, ints)
rem_high (pos a) (negsuc k) h = absurd (omega (arith, ints))
rem_high (negsuc a) (pos zero) h = absurd (omega (arith, ints))
rem_high (negsuc a) (pos (suc k)) h = omega (arith, ints)
rem_high (negsuc a) (negsuc k) h = absurd (omega (arith, ints))

-- ---- multiples that are small

-- a product with a factor of 1 or more is at least the other factor, and with one of -1 or less at most its negation
pub times_above : (k m : ℤ) → pos 1 ≤ℤ k → pos 0 ≤ℤ m → m ≤ℤ (k *ℤ m)
times_above (pos zero) m h i = absurd (omega (arith, ints))
times_above (pos (suc j)) (pos n) h i = omega (arith, ints)
times_above (pos (suc j)) (negsuc n) h i = absurd (omega (arith, ints))
times_above (negsuc j) m h i = absurd (omega (arith, ints))

-- a multiple of a number above 0 lies no nearer to 0 than the number does, or is 0
pub small_multiple : (m a : ℤ) → IsMultiple m a → neg_ℤ m <ℤ a → a <ℤ m → a ≡ pos 0
small_multiple m a (pos zero, p) h k = p ∙ zero-*ℤ m
small_multiple m a (pos (suc j), p) h k =
    let e = times_above (pos (suc j)) m (omega (arith, ints)) (omega (arith, ints)) in absurd (omega (arith, ints))
small_multiple m a (negsuc j, p) h k =
    let e = times_above (pos (suc j)) m (omega (arith, ints)) (omega (arith, ints)) in
    let f : negsuc j *ℤ m ≡ neg_ℤ (pos (suc j) *ℤ m) = neg_mul (pos (suc j)) m in
    absurd (omega (arith, ints))

pub same_remainder : (m a b : ℤ) → IsMultiple m (a -ℤ b) → pos 0 ≤ℤ a → a <ℤ m → pos 0 ≤ℤ b → b <ℤ m → a ≡ b
same_remainder m a b h i j k l = let e : a -ℤ b ≡ pos 0 = small_multiple m (a -ℤ b) h (omega (arith, ints)) (omega (arith, ints)) in omega (arith, ints)

-- a number is its own remainder's fellow: equal remainders are those of numbers a multiple apart
pub rem_unique : (n m r : ℤ) → pos 1 ≤ℤ m → InResidue (class_of r m) n → pos 0 ≤ℤ r → r <ℤ m → int_rem_euclid n m ≡ r
rem_unique n m r h i j k =
    let d = multiple_sub m (n -ℤ r) (n -ℤ int_rem_euclid n m) (off_from_in r m n i) (off_from_in _ m n (rem_same n m h)) in
    same_remainder m (int_rem_euclid n m) r (multiple_along m _ _ (omega (arith, ints)) d) (rem_low n m h) (rem_high n m h) j k
