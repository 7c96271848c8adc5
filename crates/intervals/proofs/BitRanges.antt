-- Bounds of the operators on bits at sizes.
use Rattle.std.proofs.Common.{◌≡◌, ℕ, zero, suc, ℤ, pos, negsuc, ◌-◌, ◌*◌, ◌^◌, ◌<◌, ◌≤◌, ◌≤ℤ◌, ◌<ℤ◌, ◌%◌, ◌⊎◌, ⊎_elim, inl, inr, bit_and, min, arith, refl, sym, subst, ap, ◌∙◌, to_z, of_z, FitsSigned}
use Rattle.std.specs.Int.{bit_at}
use Rattle.std.specs.Int.Bits.{xor_add_and}
use Rattle.std.proofs.Math.Nat.{pow-succ', pow-le-pow_right, mod-eq_of_lt}
use Rattle.std.proofs.lemmas.Nat.{and_le_l, pow_pos}
use Rattle.std.proofs.lemmas.Nat.Bits.{same_from_bits_below, bit_at_and}
use Rattle.std.proofs.lemmas.Int.{ints, to_z_pos, to_z-of_z}
use Rattle.std.proofs.lemmas.Bool.{cases_lt}
use Rattle.std.proofs.Math.IntN.{nat_abs}
use mir.Syntax.{w128}
use Rattle.ext_int.specs.declared.Ext.{Ext}
use Rattle.ext_int.specs.declared.Ext.TheVariants.{Low, Fin, High}
use Rattle.ext_int.specs.Ext.{Below, Above, AtMost, lesser, greater}
use Rattle.ext_int.proofs.Ends.{AtMost_trans, AtMost-from_below, AtMost-from_above, Below-from_at_most, Above-from_at_most, lesser_greatest, greater_least, greater_first, greater_second}
use Rattle.num_api.specs.Value.{bits_without}
use Rattle.std.specs.Prelude.{true, false}
use Rattle.intervals.specs.Bits.{IsMaskAbove, flipped, of_sign}

-- ---- sizes

-- a number has at most as many bits as itself
pub below_power : (n : ℕ) → n < 2 ^ n
below_power zero = omega arith
below_power (suc n) = let h = below_power n in let e : 2 ^ suc n ≡ 2 * 2 ^ n = pow-succ' 2 n in omega arith

-- the bits that two numbers have are among those of the first
and_again : (a b : ℕ) → bit_and a (bit_and a b) ≡ bit_and a b
and_again a b = same_from_bits_below a _ _ (and_below (bit_and a b)) (and_below b) (λ i h. bit_at_and a (bit_and a b) i ∙ ap (min (bit_at a i)) (bit_at_and a b i) ∙ twice (bit_at a i) (bit_at b i) ∙ sym (bit_at_and a b i))
  where
    and_below : (c : ℕ) → bit_and a c < 2 ^ a
    and_below c = let less = and_le_l a c in let most = below_power a in omega arith

    twice : (p q : ℕ) → min p (min p q) ≡ min p q
    twice p q = omega arith

pub without_at_most : (a b : ℕ) → bits_without a b ≤ a
without_at_most a b =
    let sum = xor_add_and a (bit_and a b) in
    let again = and_again a b in
    let most = and_le_l a b in
    omega arith

-- ---- ends

pub above_down : (e : Ext) (x y : ℕ) → Above e (pos x) → y ≤ x → Above e (pos y)
above_down Low x y h k = h
above_down (Fin n) x y h k = omega (arith, ints)
above_down High x y h k = tt

pub below_up : (e : Ext) (x y : ℕ) → Below e (pos x) → x ≤ y → Below e (pos y)
below_up Low x y h k = tt
below_up (Fin n) x y h k = omega (arith, ints)
below_up High x y h k = h

pub above_both : (a b : Ext) (n : ℤ) → Above a n → Above b n → Above (lesser a b) n
above_both a b n h k = Above-from_at_most (lesser a b) n (lesser_greatest (Fin n) a b (AtMost-from_above a n h) (AtMost-from_above b n k))

pub below_both : (a b : Ext) (n : ℤ) → Below a n → Below b n → Below (greater a b) n
below_both a b n h k = Below-from_at_most (greater a b) n (greater_least (Fin n) a b (AtMost-from_below a n h) (AtMost-from_below b n k))

pub above_either : (a b : Ext) (n : ℤ) → Above a n ⊎ Above b n → Above (greater a b) n
above_either a b n = ⊎_elim
    (λ h. Above-from_at_most (greater a b) n (AtMost_trans (Fin n) a (greater a b) (AtMost-from_above a n h) (greater_first a b)))
    (λ h. Above-from_at_most (greater a b) n (AtMost_trans (Fin n) b (greater a b) (AtMost-from_above b n h) (greater_second a b)))

-- ---- masks

-- a result below each power of two that two sizes are below is within the mask above them
pub under_mask : (f : ℕ → ℕ → ℕ) → ((k x y : ℕ) → x < 2 ^ k → y < 2 ^ k → f x y < 2 ^ k) → (a b m : Ext) (x y : ℕ) → IsMaskAbove (greater a b) m → Above a (pos x) → Above b (pos y) → Above m (pos (f x y))
under_mask f less a b m x y mask p q = ⊎_elim
    (λ (k, e). subst (λ (t : Ext). Above t (pos (f x y))) (sym e) (within k (subst (λ (t : Ext). Above t (pos x)) e high_x) (subst (λ (t : Ext). Above t (pos y)) e high_y)))
    (λ e. subst (λ (t : Ext). Above t (pos (f x y))) (sym e) tt)
    mask.kind
  where
    up : (n : ℕ) → Above (greater a b) (pos n) → Above m (pos n)
    up n h = Above-from_at_most m (pos n) (AtMost_trans (Fin (pos n)) (greater a b) m (AtMost-from_above (greater a b) (pos n) h) mask.above)

    high_x : Above m (pos x)
    high_x = up x (above_either a b (pos x) (inl p))

    high_y : Above m (pos y)
    high_y = up y (above_either a b (pos y) (inr q))

    within : (k : ℕ) → Above (Fin (pos (2 ^ k - 1))) (pos x) → Above (Fin (pos (2 ^ k - 1))) (pos y) → Above (Fin (pos (2 ^ k - 1))) (pos (f x y))
    within k h i =
        let one : 0 < 2 ^ k = pow_pos k in
        let u : x < 2 ^ k = omega (arith, ints) in
        let v : y < 2 ^ k = omega (arith, ints) in
        let w = less k x y u v in
        omega (arith, ints)

pub under_mask_of : (f : ℕ → ℕ → ℕ) → ((k x y : ℕ) → x < 2 ^ k → y < 2 ^ k → f x y < 2 ^ k) → (a b e m : Ext) (x y : ℕ) → e ≡ greater a b → IsMaskAbove e m → Above a (pos x) → Above b (pos y) → Above m (pos (f x y))
under_mask_of f less a b e m x y is mask p q = under_mask f less a b m x y (subst (λ (t : Ext). IsMaskAbove t m) is mask) p q

pub from_zero : (n : ℕ) → Below (Fin (pos 0)) (pos n)
from_zero n = omega (arith, ints)

-- ---- complements

pub flipped_below : (e : Ext) (m : ℕ) → Above e (pos m) → Below (flipped e) (negsuc m)
flipped_below Low m h = absurd h
flipped_below (Fin n) m h = omega (arith, ints)
flipped_below High m h = tt

pub flipped_above : (e : Ext) (m : ℕ) → Below e (pos m) → Above (flipped e) (negsuc m)
flipped_above Low m h = tt
flipped_above (Fin n) m h = omega (arith, ints)
flipped_above High m h = absurd h

pub flipped_below_back : (e : Ext) (m : ℕ) → Above e (negsuc m) → Below (flipped e) (pos m)
flipped_below_back Low m h = absurd h
flipped_below_back (Fin n) m h = omega (arith, ints)
flipped_below_back High m h = tt

pub flipped_above_back : (e : Ext) (m : ℕ) → Below e (negsuc m) → Above (flipped e) (pos m)
flipped_above_back Low m h = tt
flipped_above_back (Fin n) m h = omega (arith, ints)
flipped_above_back High m h = absurd h

-- ---- the mask of a number above 0

-- the power of two next above the number's greatest bit
power_bound : (r k m : ℕ) → 2 ^ r ≤ m → m < 2 ^ k → 2 * 2 ^ r ≤ 2 ^ k
power_bound r k m h i = ⊎_elim
    (λ (l : r < k). let most : 2 ^ suc r ≤ 2 ^ k = pow-le-pow_right (omega arith) (omega arith) in let e : 2 ^ suc r ≡ 2 * 2 ^ r = pow-succ' 2 r in omega arith)
    (λ (l : k ≤ r). let most : 2 ^ k ≤ 2 ^ r = pow-le-pow_right (omega arith) l in absurd (omega arith))
    (cases_lt r k)

same_power : (r m : ℕ) → m < 2 ^ 127 → 2 ^ r ≤ m → (2 * 2 ^ r) % 2 ^ 128 ≡ 2 * 2 ^ r
same_power r m h i = let most = power_bound r 127 m i h in mod-eq_of_lt (omega arith)

-- the bits of a number as it is read back
record HasLog (n : ℤ) (r : ℕ) : Type 0 where
  size : ℕ
  is : n ≡ pos size
  low : 2 ^ r ≤ size
  high : size < 2 * 2 ^ r
  fits : size < 2 ^ 127

has_log : (n : ℤ) (r : ℕ) → FitsSigned w128 n → pos 0 <ℤ n → 2 ^ r ≤ nat_abs (to_z w128 (of_z w128 n)) → nat_abs (to_z w128 (of_z w128 n)) < 2 * 2 ^ r → HasLog n r
has_log (pos m) r f h i j =
    let same : nat_abs (to_z w128 (of_z w128 (pos m))) ≡ m = ap nat_abs (to_z-of_z w128 (pos m) f) in
    record { size = m; is = refl; low = omega arith; high = omega arith; fits = f.sfits }
has_log (negsuc m) r f h i j = absurd (omega (arith, ints))

pub mask_fits : (n : ℤ) (r : ℕ) → FitsSigned w128 n → pos 0 <ℤ n → 2 ^ r ≤ nat_abs (to_z w128 (of_z w128 n)) → nat_abs (to_z w128 (of_z w128 n)) < 2 * 2 ^ r → (2 * 2 ^ r) % 2 ^ 128 - 1 < 2 ^ 127
mask_fits n r f h i j =
    let log = has_log n r f h i j in
    let most = power_bound r 127 log.size log.low log.fits in
    let same = same_power r log.size log.fits log.low in
    omega arith

pub mask_is : (n : ℤ) (r : ℕ) → FitsSigned w128 n → pos 0 <ℤ n → 2 ^ r ≤ nat_abs (to_z w128 (of_z w128 n)) → nat_abs (to_z w128 (of_z w128 n)) < 2 * 2 ^ r → IsMaskAbove (Fin n) (Fin (to_z w128 ((2 * 2 ^ r) % 2 ^ 128 - 1)))
mask_is n r f h i j =
    let log = has_log n r f h i j in
    let same : to_z w128 ((2 * 2 ^ r) % 2 ^ 128 - 1) ≡ pos (2 * 2 ^ r - 1) = to_z_pos w128 _ (mask_fits n r f h i j) ∙ ap (λ (m : ℕ). pos (m - 1)) (same_power r log.size log.fits log.low) in
    subst (λ (e : Ext). IsMaskAbove (Fin n) e) (ap Fin (sym same)) (subst (λ (x : ℤ). IsMaskAbove (Fin x) (Fin (pos (2 * 2 ^ r - 1)))) (sym log.is) (at log.size log.low log.high))
  where
    at : (m : ℕ) → 2 ^ r ≤ m → m < 2 * 2 ^ r → IsMaskAbove (Fin (pos m)) (Fin (pos (2 * 2 ^ r - 1)))
    at m low high = record {
      above = within m (2 * 2 ^ r) high;
      kind = inl (suc r, ap (λ (q : ℕ). Fin (pos (q - 1))) (sym (pow-succ' 2 r)));
      least = λ k l. let p = pow_pos k in let less : m < 2 ^ k = below m (2 ^ k) p l in let most = power_bound r k m low less in smaller (2 * 2 ^ r) (2 ^ k) most;
    }
      where
        within : (m q : ℕ) → m < q → pos m ≤ℤ pos (q - 1)
        within m q h = omega (arith, ints)

        below : (m q : ℕ) → 0 < q → pos m ≤ℤ pos (q - 1) → m < q
        below m q p h = omega (arith, ints)

        smaller : (p q : ℕ) → p ≤ q → pos (p - 1) ≤ℤ pos (q - 1)
        smaller p q h = omega (arith, ints)

-- an end that is no number above 0 has the mask 0
pub no_mask : (e : Ext) → AtMost e (Fin (pos 0)) → IsMaskAbove e (Fin (pos 0))
no_mask e h = record { above = h; kind = inl (0, refl); least = λ k l. zero_least (2 ^ k - 1) }
  where
    zero_least : (q : ℕ) → pos 0 ≤ℤ pos q
    zero_least q = omega (arith, ints)

-- ---- signs

-- a number is a size with a sign
pub by_sign : {R : Type 0} (y : ℤ) → ((m : ℕ) → y ≡ of_sign true m → R) → ((m : ℕ) → y ≡ of_sign false m → R) → R
by_sign (pos m) below above = above m refl
by_sign (negsuc m) below above = below m refl
