-- The bounds of the operators on bits at two numbers.
use Rattle.std.proofs.Common.{◌≡◌, ℕ, ℤ, pos, negsuc, ◌^◌, ◌<◌, ◌≤◌, Some, arith, subst, FitsSigned, bit_and, bit_or, bit_xor}
use Rattle.std.proofs.lemmas.Int.{ints}
use Rattle.std.proofs.lemmas.Nat.{and_le_l, and_le_r, or_lt, le_or_l, le_or_r, xor_lt, pow_pos}
use mir.Syntax.{w128}
use Rattle.ext_int.specs.declared.Ext.TheVariants.{Fin}
use Rattle.num_api.specs.declared.expr.NOp.{NOp}
use Rattle.num_api.specs.declared.expr.NOp.TheVariants.{Shl, Shr, And, Or, Xor}
use Rattle.num_api.specs.declared.message.Range.{Range}
use Rattle.num_api.specs.Value.{binary_value, bits_of_both, bits_of_either, bits_of_one, bits_without}
use Rattle.intervals.specs.declared.Interval.{Interval}
use Rattle.intervals.specs.Interval.{IsPoint, ends_of}
use Rattle.intervals.specs.Bits.{IsLogical}
use Rattle.intervals.specs.Bounds.{HasBits, AndBounds, OrBounds, XorBounds, BitBounds, IsBounded}
use Rattle.intervals.specs.Operations.{IsBitwise}
use Rattle.intervals.proofs.BitRanges.{without_at_most}
use Rattle.intervals.proofs.Inside.{has_number}
use Rattle.intervals.proofs.LeftShifts.{shl_point, shr_point}

abbrev at : ℤ → Range
at x = record { lo = Fin x; hi = Fin x }

pos_bits : (k a : ℕ) → a < 2 ^ k → HasBits k (at (pos a))
pos_bits k a h = record { low = omega (arith, ints); high = omega (arith, ints) }

neg_bits : (k a : ℕ) → a < 2 ^ k → HasBits k (at (negsuc a))
neg_bits k a h = record { low = omega (arith, ints); high = omega (arith, ints) }

pos_below : (k a : ℕ) → HasBits k (at (pos a)) → a < 2 ^ k
pos_below k a h = let p = pow_pos k in let q = h.high in omega (arith, ints)

neg_below : (k a : ℕ) → HasBits k (at (negsuc a)) → a < 2 ^ k
neg_below k a h = let p = pow_pos k in let q = h.low in omega (arith, ints)

less : (k a b : ℕ) → b ≤ a → a < 2 ^ k → b < 2 ^ k
less k a b h i = omega arith

and_points : (x y : ℤ) → AndBounds (at x) (at y) (at (bits_of_both x y))
and_points (pos a) (pos b) = let p = and_le_l a b in let q = and_le_r a b in record {
  first = λ h. (omega (arith, ints), omega (arith, ints));
  second = λ h. (omega (arith, ints), omega (arith, ints));
  minus = λ h i. (omega (arith, ints), omega (arith, ints));
  bits = λ k h i. pos_bits k (bit_and a b) (less k a (bit_and a b) p (pos_below k a h));
}
and_points (pos a) (negsuc b) = let p = without_at_most a b in record {
  first = λ h. (omega (arith, ints), omega (arith, ints));
  second = λ h. absurd (omega (arith, ints));
  minus = λ h i. absurd (omega (arith, ints));
  bits = λ k h i. pos_bits k (bits_without a b) (less k a (bits_without a b) p (pos_below k a h));
}
and_points (negsuc a) (pos b) = let p = without_at_most b a in record {
  first = λ h. absurd (omega (arith, ints));
  second = λ h. (omega (arith, ints), omega (arith, ints));
  minus = λ h i. absurd (omega (arith, ints));
  bits = λ k h i. pos_bits k (bits_without b a) (less k b (bits_without b a) p (pos_below k b i));
}
and_points (negsuc a) (negsuc b) = let p = le_or_l a b in let q = le_or_r a b in record {
  first = λ h. absurd (omega (arith, ints));
  second = λ h. absurd (omega (arith, ints));
  minus = λ h i. (omega (arith, ints), omega (arith, ints));
  bits = λ k h i. neg_bits k (bit_or a b) (or_lt k a b (neg_below k a h) (neg_below k b i));
}

or_points : (x y : ℤ) → OrBounds (at x) (at y) (at (bits_of_either x y))
or_points (pos a) (pos b) = let p = le_or_l a b in let q = le_or_r a b in record {
  first = λ h. absurd (omega (arith, ints));
  second = λ h. absurd (omega (arith, ints));
  natural = λ h i. (omega (arith, ints), omega (arith, ints));
  bits = λ k h i. pos_bits k (bit_or a b) (or_lt k a b (pos_below k a h) (pos_below k b i));
}
or_points (pos a) (negsuc b) = let p = without_at_most b a in record {
  first = λ h. absurd (omega (arith, ints));
  second = λ h. (omega (arith, ints), omega (arith, ints));
  natural = λ h i. absurd (omega (arith, ints));
  bits = λ k h i. neg_bits k (bits_without b a) (less k b (bits_without b a) p (neg_below k b i));
}
or_points (negsuc a) (pos b) = let p = without_at_most a b in record {
  first = λ h. (omega (arith, ints), omega (arith, ints));
  second = λ h. absurd (omega (arith, ints));
  natural = λ h i. absurd (omega (arith, ints));
  bits = λ k h i. neg_bits k (bits_without a b) (less k a (bits_without a b) p (neg_below k a h));
}
or_points (negsuc a) (negsuc b) = let p = and_le_l a b in let q = and_le_r a b in record {
  first = λ h. (omega (arith, ints), omega (arith, ints));
  second = λ h. (omega (arith, ints), omega (arith, ints));
  natural = λ h i. absurd (omega (arith, ints));
  bits = λ k h i. neg_bits k (bit_and a b) (less k a (bit_and a b) p (neg_below k a h));
}

xor_points : (x y : ℤ) → XorBounds (at x) (at y) (at (bits_of_one x y))
xor_points (pos a) (pos b) = record {
  natural = λ h i. omega (arith, ints);
  minus = λ h i. omega (arith, ints);
  first = λ h i. absurd (omega (arith, ints));
  second = λ h i. absurd (omega (arith, ints));
  bits = λ k h i. pos_bits k (bit_xor a b) (xor_lt k a b (pos_below k a h) (pos_below k b i));
}
xor_points (pos a) (negsuc b) = record {
  natural = λ h i. absurd (omega (arith, ints));
  minus = λ h i. absurd (omega (arith, ints));
  first = λ h i. absurd (omega (arith, ints));
  second = λ h i. omega (arith, ints);
  bits = λ k h i. neg_bits k (bit_xor a b) (xor_lt k a b (pos_below k a h) (neg_below k b i));
}
xor_points (negsuc a) (pos b) = record {
  natural = λ h i. absurd (omega (arith, ints));
  minus = λ h i. absurd (omega (arith, ints));
  first = λ h i. omega (arith, ints);
  second = λ h i. absurd (omega (arith, ints));
  bits = λ k h i. neg_bits k (bit_xor a b) (xor_lt k a b (neg_below k a h) (pos_below k b i));
}
xor_points (negsuc a) (negsuc b) = record {
  natural = λ h i. omega (arith, ints);
  minus = λ h i. omega (arith, ints);
  first = λ h i. absurd (omega (arith, ints));
  second = λ h i. absurd (omega (arith, ints));
  bits = λ k h i. pos_bits k (bit_xor a b) (xor_lt k a b (neg_below k a h) (neg_below k b i));
}

points : (op : NOp) → IsLogical op → (x y n : ℤ) → binary_value op x y ≡ Some n → BitBounds op (at x) (at y) (at n)
points And l x y n e = let same : bits_of_both x y ≡ n = cc in subst (λ (z : ℤ). AndBounds (at x) (at y) (at z)) same (and_points x y)
points Or l x y n e = let same : bits_of_either x y ≡ n = cc in subst (λ (z : ℤ). OrBounds (at x) (at y) (at z)) same (or_points x y)
points Xor l x y n e = let same : bits_of_one x y ≡ n = cc in subst (λ (z : ℤ). XorBounds (at x) (at y) (at z)) same (xor_points x y)
points op l x y n e = absurd l

at_point : (a : Interval) (x : ℤ) → IsPoint a x → at x ≡ ends_of a
at_point a x (e, f) = cc

-- two points and the point of their value
pub point_bounds : (op : NOp) → IsLogical op → (a b r : Interval) (x y n : ℤ) → IsPoint a x → IsPoint b y → binary_value op x y ≡ Some n → IsPoint r n → BitBounds op (ends_of a) (ends_of b) (ends_of r)
point_bounds op l a b r x y n p q e at_r =
    subst (λ (s : Range). BitBounds op s (ends_of b) (ends_of r)) (at_point a x p)
    (subst (λ (s : Range). BitBounds op (at x) s (ends_of r)) (at_point b y q)
    (subst (λ (s : Range). BitBounds op (at x) (at y) s) (at_point r n at_r) (points op l x y n e)))

-- so of every operator on bits
pub value_bounds : (op : NOp) → IsBitwise op → (a b r : Interval) (x y n : ℤ) → IsPoint a x → IsPoint b y → binary_value op x y ≡ Some n → IsPoint r n → IsBounded op a b r
value_bounds And l a b r x y n p q e at_r = point_bounds And tt a b r x y n p q e at_r
value_bounds Or l a b r x y n p q e at_r = point_bounds Or tt a b r x y n p q e at_r
value_bounds Xor l a b r x y n p q e at_r = point_bounds Xor tt a b r x y n p q e at_r
value_bounds Shl l a b r x y n p q e at_r = shl_point a b r x y n (has_number a x p) (has_number b y q) e at_r
value_bounds Shr l a b r x y n p q e at_r = shr_point a b r x y n (has_number a x p) (has_number b y q) e at_r
value_bounds op l a b r x y n p q e at_r = absurd l

-- the bits of two i128 numbers are one
pub value_fits : (op : NOp) → IsLogical op → (x y n : ℤ) → FitsSigned w128 x → FitsSigned w128 y → binary_value op x y ≡ Some n → FitsSigned w128 n
value_fits op l x y n f g e = from op l (points op l x y n e)
  where
    bits : (z : ℤ) → FitsSigned w128 z → HasBits 127 (at z)
    bits z f = record { low = omega (arith, ints); high = omega (arith, ints) }

    fits : (z : ℤ) → HasBits 127 (at z) → FitsSigned w128 z
    fits z h = let low = h.low in let high = h.high in omega (arith, ints)

    from : (op : NOp) → IsLogical op → BitBounds op (at x) (at y) (at n) → FitsSigned w128 n
    from And l b = fits n (b.bits 127 (bits x f) (bits y g))
    from Or l b = fits n (b.bits 127 (bits x f) (bits y g))
    from Xor l b = fits n (b.bits 127 (bits x f) (bits y g))
    from op l b = absurd l
