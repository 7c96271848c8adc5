-- The bits of an i128 are those of two's complement of any size.
use Rattle.std.proofs.Common.{◌≡◌, ℕ, ℤ, pos, negsuc, ◌+◌, ◌-◌, ◌%◌, ◌^◌, ◌<◌, min, max, bit_and, bit_or, bit_xor, to_z, of_z, arith, ◌∙◌, ap, FitsSigned}
use Rattle.std.specs.Int.{bit_at, bit_not}
use Rattle.std.specs.Int.Bits.{and_lt}
use Rattle.std.proofs.lemmas.Nat.{or_lt, xor_lt, xor_comm, and_comm, or_comm}
use Rattle.std.proofs.lemmas.Nat.Bits.{same_from_bits_below, bit_at_and, bit_at_or, bit_at_xor, bit_at_not, bit_at-lt}
use Rattle.std.proofs.lemmas.Int.{to_z_pos}
use Rattle.std.proofs.Math.Facts.{to_z-neg}
use mir.Syntax.{w128}
use Rattle.num_api.specs.Value.{bits_without, bits_of_both, bits_of_either, bits_of_one}

-- ---- one bit of the results: `n` is the complement of `q`

without_row : (x y p q n z : ℕ) → p < 2 → q < 2 → x ≡ min p n → n ≡ 1 - q → y ≡ (p + z) % 2 → z ≡ min p q → x ≡ y
without_row x y p q n z hp hq e f g h = omega arith

nor_row : (x y p q m n z : ℕ) → p < 2 → q < 2 → x ≡ min m n → m ≡ 1 - p → n ≡ 1 - q → y ≡ 1 - z → z ≡ max p q → x ≡ y
nor_row x y p q m n z hp hq e f g h k = omega arith

either_row : (x y p q n z u : ℕ) → p < 2 → q < 2 → x ≡ max p n → n ≡ 1 - q → y ≡ 1 - z → z ≡ (q + u) % 2 → u ≡ min q p → x ≡ y
either_row x y p q n z u hp hq e f g h k = omega arith

nand_row : (x y p q m n z : ℕ) → p < 2 → q < 2 → x ≡ max m n → m ≡ 1 - p → n ≡ 1 - q → y ≡ 1 - z → z ≡ min p q → x ≡ y
nand_row x y p q m n z hp hq e f g h k = omega arith

one_row : (x y p q n z : ℕ) → p < 2 → q < 2 → x ≡ (p + n) % 2 → n ≡ 1 - q → y ≡ 1 - z → z ≡ (p + q) % 2 → x ≡ y
one_row x y p q n z hp hq e f g h = omega arith

both_row : (x y p q m n : ℕ) → p < 2 → q < 2 → x ≡ (m + n) % 2 → m ≡ 1 - p → n ≡ 1 - q → y ≡ (p + q) % 2 → x ≡ y
both_row x y p q m n hp hq e f g h = omega arith

-- ---- numbers of 127 bits and their complements of 128 bits

wide : (n : ℕ) → n < 2 ^ 127 → n < 2 ^ 128
wide n h = omega arith

flipped_wide : (n : ℕ) → bit_not w128 n < 2 ^ 128
flipped_wide n = omega arith

module _ (a b : ℕ) (f : a < 2 ^ 127) (g : b < 2 ^ 127) where
  without_lt : bits_without a b < 2 ^ 127
  without_lt = xor_lt 127 a (bit_and a b) f (and_lt 127 a b f g)

  and_flipped : bit_and a (bit_not w128 b) ≡ bits_without a b
  and_flipped = same_from_bits_below 128 _ _ (and_lt 128 a (bit_not w128 b) (wide a f) (flipped_wide b)) (wide _ without_lt)
      (λ i h. without_row _ _ (bit_at a i) (bit_at b i) _ _ (bit_at-lt a i) (bit_at-lt b i)
      (bit_at_and a (bit_not w128 b) i) (bit_at_not w128 b i (wide b g) h) (bit_at_xor a (bit_and a b) i) (bit_at_and a b i))

  flipped_and_flipped : bit_and (bit_not w128 a) (bit_not w128 b) ≡ bit_not w128 (bit_or a b)
  flipped_and_flipped = same_from_bits_below 128 _ _ (and_lt 128 (bit_not w128 a) (bit_not w128 b) (flipped_wide a) (flipped_wide b)) (flipped_wide (bit_or a b))
      (λ i h. nor_row _ _ (bit_at a i) (bit_at b i) _ _ _ (bit_at-lt a i) (bit_at-lt b i)
      (bit_at_and (bit_not w128 a) (bit_not w128 b) i) (bit_at_not w128 a i (wide a f) h) (bit_at_not w128 b i (wide b g) h)
      (bit_at_not w128 (bit_or a b) i (wide _ (or_lt 127 a b f g)) h) (bit_at_or a b i))

  or_flipped : bit_or a (bit_not w128 b) ≡ bit_not w128 (bits_without b a)
  or_flipped = same_from_bits_below 128 _ _ (or_lt 128 a (bit_not w128 b) (wide a f) (flipped_wide b)) (flipped_wide (bits_without b a))
      (λ i h. either_row _ _ (bit_at a i) (bit_at b i) _ _ _ (bit_at-lt a i) (bit_at-lt b i)
      (bit_at_or a (bit_not w128 b) i) (bit_at_not w128 b i (wide b g) h)
      (bit_at_not w128 (bits_without b a) i (wide _ (xor_lt 127 b (bit_and b a) g (and_lt 127 b a g f))) h) (bit_at_xor b (bit_and b a) i) (bit_at_and b a i))

  flipped_or_flipped : bit_or (bit_not w128 a) (bit_not w128 b) ≡ bit_not w128 (bit_and a b)
  flipped_or_flipped = same_from_bits_below 128 _ _ (or_lt 128 (bit_not w128 a) (bit_not w128 b) (flipped_wide a) (flipped_wide b)) (flipped_wide (bit_and a b))
      (λ i h. nand_row _ _ (bit_at a i) (bit_at b i) _ _ _ (bit_at-lt a i) (bit_at-lt b i)
      (bit_at_or (bit_not w128 a) (bit_not w128 b) i) (bit_at_not w128 a i (wide a f) h) (bit_at_not w128 b i (wide b g) h)
      (bit_at_not w128 (bit_and a b) i (wide _ (and_lt 127 a b f g)) h) (bit_at_and a b i))

  xor_flipped : bit_xor a (bit_not w128 b) ≡ bit_not w128 (bit_xor a b)
  xor_flipped = same_from_bits_below 128 _ _ (xor_lt 128 a (bit_not w128 b) (wide a f) (flipped_wide b)) (flipped_wide (bit_xor a b))
      (λ i h. one_row _ _ (bit_at a i) (bit_at b i) _ _ (bit_at-lt a i) (bit_at-lt b i)
      (bit_at_xor a (bit_not w128 b) i) (bit_at_not w128 b i (wide b g) h)
      (bit_at_not w128 (bit_xor a b) i (wide _ (xor_lt 127 a b f g)) h) (bit_at_xor a b i))

  flipped_xor_flipped : bit_xor (bit_not w128 a) (bit_not w128 b) ≡ bit_xor a b
  flipped_xor_flipped = same_from_bits_below 128 _ _ (xor_lt 128 (bit_not w128 a) (bit_not w128 b) (flipped_wide a) (flipped_wide b)) (wide _ (xor_lt 127 a b f g))
      (λ i h. both_row _ _ (bit_at a i) (bit_at b i) _ _ (bit_at-lt a i) (bit_at-lt b i)
      (bit_at_xor (bit_not w128 a) (bit_not w128 b) i) (bit_at_not w128 a i (wide a f) h) (bit_at_not w128 b i (wide b g) h) (bit_at_xor a b i))

-- ---- the numbers that they stand for

plus : (n : ℕ) → n < 2 ^ 127 → to_z w128 n ≡ pos n
plus n h = to_z_pos w128 n h

minus : (n : ℕ) → n < 2 ^ 127 → to_z w128 (bit_not w128 n) ≡ negsuc n
minus n h = ap (to_z w128) (omega arith) ∙ to_z-neg w128 n h

of_minus : (n : ℕ) → n < 2 ^ 127 → of_z w128 (negsuc n) ≡ bit_not w128 n
of_minus n h = omega arith

pub both-is : (x y : ℤ) → FitsSigned w128 x → FitsSigned w128 y → to_z w128 (bit_and (of_z w128 x) (of_z w128 y)) ≡ bits_of_both x y
both-is (pos a) (pos b) f g = plus (bit_and a b) (and_lt 127 a b f.sfits g.sfits)
both-is (pos a) (negsuc b) f g =
    ap (λ m. to_z w128 (bit_and a m)) (of_minus b g.sfits) ∙ ap (to_z w128) (and_flipped a b f.sfits g.sfits) ∙ plus _ (without_lt a b f.sfits g.sfits)
both-is (negsuc a) (pos b) f g =
    ap (λ m. to_z w128 (bit_and m b)) (of_minus a f.sfits) ∙ ap (to_z w128) (and_comm (bit_not w128 a) b) ∙ ap (to_z w128) (and_flipped b a g.sfits f.sfits) ∙ plus _ (without_lt b a g.sfits f.sfits)
both-is (negsuc a) (negsuc b) f g =
    ap (λ m. to_z w128 (bit_and m (of_z w128 (negsuc b)))) (of_minus a f.sfits) ∙ ap (λ m. to_z w128 (bit_and (bit_not w128 a) m)) (of_minus b g.sfits)
    ∙ ap (to_z w128) (flipped_and_flipped a b f.sfits g.sfits) ∙ minus _ (or_lt 127 a b f.sfits g.sfits)

pub either-is : (x y : ℤ) → FitsSigned w128 x → FitsSigned w128 y → to_z w128 (bit_or (of_z w128 x) (of_z w128 y)) ≡ bits_of_either x y
either-is (pos a) (pos b) f g = plus (bit_or a b) (or_lt 127 a b f.sfits g.sfits)
either-is (pos a) (negsuc b) f g =
    ap (λ m. to_z w128 (bit_or a m)) (of_minus b g.sfits) ∙ ap (to_z w128) (or_flipped a b f.sfits g.sfits) ∙ minus _ (without_lt b a g.sfits f.sfits)
either-is (negsuc a) (pos b) f g =
    ap (λ m. to_z w128 (bit_or m b)) (of_minus a f.sfits) ∙ ap (to_z w128) (or_comm (bit_not w128 a) b) ∙ ap (to_z w128) (or_flipped b a g.sfits f.sfits) ∙ minus _ (without_lt a b f.sfits g.sfits)
either-is (negsuc a) (negsuc b) f g =
    ap (λ m. to_z w128 (bit_or m (of_z w128 (negsuc b)))) (of_minus a f.sfits) ∙ ap (λ m. to_z w128 (bit_or (bit_not w128 a) m)) (of_minus b g.sfits)
    ∙ ap (to_z w128) (flipped_or_flipped a b f.sfits g.sfits) ∙ minus _ (and_lt 127 a b f.sfits g.sfits)

pub one-is : (x y : ℤ) → FitsSigned w128 x → FitsSigned w128 y → to_z w128 (bit_xor (of_z w128 x) (of_z w128 y)) ≡ bits_of_one x y
one-is (pos a) (pos b) f g = plus (bit_xor a b) (xor_lt 127 a b f.sfits g.sfits)
one-is (pos a) (negsuc b) f g =
    ap (λ m. to_z w128 (bit_xor a m)) (of_minus b g.sfits) ∙ ap (to_z w128) (xor_flipped a b f.sfits g.sfits) ∙ minus _ (xor_lt 127 a b f.sfits g.sfits)
one-is (negsuc a) (pos b) f g =
    ap (λ m. to_z w128 (bit_xor m b)) (of_minus a f.sfits) ∙ ap (to_z w128) (xor_comm (bit_not w128 a) b) ∙ ap (to_z w128) (xor_flipped b a g.sfits f.sfits)
    ∙ ap (λ m. to_z w128 (bit_not w128 m)) (xor_comm b a) ∙ minus _ (xor_lt 127 a b f.sfits g.sfits)
one-is (negsuc a) (negsuc b) f g =
    ap (λ m. to_z w128 (bit_xor m (of_z w128 (negsuc b)))) (of_minus a f.sfits) ∙ ap (λ m. to_z w128 (bit_xor (bit_not w128 a) m)) (of_minus b g.sfits)
    ∙ ap (to_z w128) (flipped_xor_flipped a b f.sfits g.sfits) ∙ plus _ (xor_lt 127 a b f.sfits g.sfits)
