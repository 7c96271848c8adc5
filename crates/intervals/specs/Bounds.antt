-- How much the operators on bits, shifts and remainders may leave open, by the numbers of their operands.
use Rattle.std.specs.Prelude.{◌≡◌, ℕ, ℤ, pos, negsuc, neg_ℤ, ◌-◌, ◌^◌, ◌<◌, ◌≤ℤ◌, suc, Some, Bool, true, false}
use Rattle.std.specs.Int.RustNames.{FitsSigned, unsigned_abs}
use mir.Syntax.{w128}
use Rattle.ext_int.specs.declared.Ext.TheVariants.{Fin}
use Rattle.ext_int.specs.Ext.{AtMost}
use Rattle.num_api.specs.declared.expr.NOp.{NOp}
use Rattle.num_api.specs.declared.expr.NOp.TheVariants.{Rem, Shl, Shr, And, Or, Xor}
use Rattle.num_api.specs.declared.message.Range.{Range}
use Rattle.num_api.specs.Ranges.{NoWider}
use Rattle.num_api.specs.Value.{binary_value}
use Rattle.intervals.specs.declared.Interval.{Interval}
use Rattle.intervals.specs.Bits.{flipped}
use Rattle.intervals.specs.Interval.{Admits, IsFinite, LiesBetween, ends_of, least_end, greatest_end}

-- ---- bits

-- no number of the range is below 0
abbrev pub IsNatural : Range → Type 0
IsNatural r = AtMost (Fin (pos 0)) r.lo

-- each number of the range is
abbrev pub IsMinus : Range → Type 0
IsMinus r = AtMost r.hi (Fin (negsuc 0))

-- its numbers have k bits and a sign: they lie from -2^k to 2^k - 1
pub record HasBits (k : ℕ) (r : Range) : Type 0 where
  pub low : AtMost (Fin (negsuc (2 ^ k - 1))) r.lo
  pub high : AtMost r.hi (Fin (pos (2 ^ k - 1)))

-- the bits that both have: with a side from 0 up they lie from 0 to the greatest number of that side, of negative numbers they are at
-- most either, and of numbers of k bits they have k bits
pub record AndBounds (a b r : Range) : Type 0 where
  pub first : IsNatural a → IsNatural r × AtMost r.hi a.hi
  pub second : IsNatural b → IsNatural r × AtMost r.hi b.hi
  pub minus : IsMinus a → IsMinus b → AtMost r.hi a.hi × AtMost r.hi b.hi
  pub bits : (k : ℕ) → HasBits k a → HasBits k b → HasBits k r

-- the bits that one of them has, the other way round: with a negative side they lie from the least number of that side to -1, and of numbers
-- from 0 up they are at least either
pub record OrBounds (a b r : Range) : Type 0 where
  pub first : IsMinus a → IsMinus r × AtMost a.lo r.lo
  pub second : IsMinus b → IsMinus r × AtMost b.lo r.lo
  pub natural : IsNatural a → IsNatural b → AtMost a.lo r.lo × AtMost b.lo r.lo
  pub bits : (k : ℕ) → HasBits k a → HasBits k b → HasBits k r

-- the bits that exactly one of them has: negative exactly where the signs differ
pub record XorBounds (a b r : Range) : Type 0 where
  pub natural : IsNatural a → IsNatural b → IsNatural r
  pub minus : IsMinus a → IsMinus b → IsNatural r
  pub first : IsMinus a → IsNatural b → IsMinus r
  pub second : IsNatural a → IsMinus b → IsMinus r
  pub bits : (k : ℕ) → HasBits k a → HasBits k b → HasBits k r

abbrev pub BitBounds : NOp → Range → Range → Range → Type 0
BitBounds And a b r = AndBounds a b r
BitBounds Or a b r = OrBounds a b r
BitBounds Xor a b r = XorBounds a b r
BitBounds op a b r = Unit {0}

-- ---- sizes with signs

-- the range of the numbers -1 - n
abbrev pub flip_range : Range → Range
flip_range r = record { lo = flipped r.hi; hi = flipped r.lo }

-- the range of the numbers of this sign whose sizes lie in the range
abbrev pub signed : Bool → Range → Range
signed false r = r
signed true r = flip_range r

-- ---- operators on sizes

-- the bits that both have, those of the first that the second has not, those that one has, and those that exactly one has
pub record AndSizes (a b r : Interval) : Type 0 where
  pub natural : IsNatural (ends_of r)
  pub first : AtMost (greatest_end r) (greatest_end a)
  pub second : AtMost (greatest_end r) (greatest_end b)

pub record WithoutSizes (a r : Interval) : Type 0 where
  pub natural : IsNatural (ends_of r)
  pub first : AtMost (greatest_end r) (greatest_end a)

pub record OrSizes (a b r : Interval) : Type 0 where
  pub natural : IsNatural (ends_of r)
  pub first : AtMost (least_end a) (least_end r)
  pub second : AtMost (least_end b) (least_end r)
  pub bits : (k : ℕ) → AtMost (greatest_end a) (Fin (pos (2 ^ k - 1))) → AtMost (greatest_end b) (Fin (pos (2 ^ k - 1)))
      → AtMost (greatest_end r) (Fin (pos (2 ^ k - 1)))

pub record XorSizes (a b r : Interval) : Type 0 where
  pub natural : IsNatural (ends_of r)
  pub bits : (k : ℕ) → AtMost (greatest_end a) (Fin (pos (2 ^ k - 1))) → AtMost (greatest_end b) (Fin (pos (2 ^ k - 1)))
      → AtMost (greatest_end r) (Fin (pos (2 ^ k - 1)))

-- the interval of the numbers -1 - n
pub record IsFlipped (i r : Interval) : Type 0 where
  pub low : least_end r ≡ flipped (greatest_end i)
  pub high : greatest_end r ≡ flipped (least_end i)

-- the sizes of an interval's numbers of one sign, of which there are some
pub record IsSizes (minus : Bool) (a i : Interval) : Type 0 where
  pub natural : IsNatural (ends_of i)
  pub within : NoWider (signed minus (ends_of i)) (ends_of a)

-- ---- remainders

-- the first number is of less size than the second
abbrev pub IsSmaller : ℤ → ℤ → Type 0
IsSmaller x y = unsigned_abs x < unsigned_abs y

-- remainders lie on the dividend's side of 0, no further from it than the dividend, and by divisors of size m + 1 at most from -m to m
pub record SideBounds (a b r : Interval) : Type 0 where
  pub natural : IsNatural (ends_of a) → IsNatural (ends_of r) × AtMost (greatest_end r) (greatest_end a)
  pub minus : AtMost (greatest_end a) (Fin (pos 0)) → AtMost (greatest_end r) (Fin (pos 0)) × AtMost (least_end a) (least_end r)
  pub size : (m : ℕ) → FitsSigned w128 (pos m) → LiesBetween (negsuc m) (pos (suc m)) b → LiesBetween (neg_ℤ (pos m)) (pos m) r

-- each number of the first is of less size than each of the second
abbrev pub AreSmaller : Interval → Interval → Type 0
AreSmaller a b = (x y : ℤ) → Admits a x → Admits b y → IsSmaller x y

-- and where each dividend is smaller than each divisor they are the dividends
pub record RemBounds (a b r : Interval) : Type 0 where
  pub sides : SideBounds a b r
  pub smaller : IsFinite a → AreSmaller a b → NoWider (ends_of r) (ends_of a)

-- ---- shifts

-- the number is at or below each value of the operator, or at or above it
abbrev pub IsBelowValues : NOp → Interval → Interval → ℤ → Type 0
IsBelowValues op a b l = (x y n : ℤ) → Admits a x → Admits b y → binary_value op x y ≡ Some n → l ≤ℤ n

abbrev pub IsAboveValues : NOp → Interval → Interval → ℤ → Type 0
IsAboveValues op a b h = (x y n : ℤ) → Admits a x → Admits b y → binary_value op x y ≡ Some n → n ≤ℤ h

-- of a shift to the right by some amount, each end is the least where that end of the number is finite
pub record ShrBounds (a b r : Interval) : Type 0 where
  pub low : (p l : ℤ) (k : ℕ) → least_end a ≡ Fin p → Admits b (pos k) → IsBelowValues Shr a b l → AtMost (Fin l) (least_end r)
  pub high : (p h : ℤ) (k : ℕ) → greatest_end a ≡ Fin p → Admits b (pos k) → IsAboveValues Shr a b h → AtMost (greatest_end r) (Fin h)

-- of one to the left, the least interval where all values lie between two i128s
pub record ShlBounds (a b r : Interval) : Type 0 where
  pub least : (l h : ℤ) (k : ℕ) → FitsSigned w128 l → FitsSigned w128 h → IsFinite a → Admits b (pos k) → IsBelowValues Shl a b l → IsAboveValues Shl a b h
      → LiesBetween l h r

-- ---- all of them

abbrev pub IsBounded : NOp → Interval → Interval → Interval → Type 0
IsBounded And a b r = AndBounds (ends_of a) (ends_of b) (ends_of r)
IsBounded Or a b r = OrBounds (ends_of a) (ends_of b) (ends_of r)
IsBounded Xor a b r = XorBounds (ends_of a) (ends_of b) (ends_of r)
IsBounded Rem a b r = RemBounds a b r
IsBounded Shr a b r = ShrBounds a b r
IsBounded Shl a b r = ShlBounds a b r
IsBounded op a b r = Unit {0}
