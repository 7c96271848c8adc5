-- The order of ends, the least and the greatest of some, and ends rounded to what an i128 holds.
use Rattle.std.proofs.Common.{◌≡◌, ◌≤◌, ℕ, ℤ, pos, negsuc, ◌≤ℤ◌, neg_ℤ, arith, refl, ap, FitsSigned}
use Rattle.std.specs.Prelude.{IsTrue}
use Rattle.std.specs.Int.RustNames.{int_le}
use Rattle.std.proofs.lemmas.Int.{ints}
use mir.Syntax.{w128}
use Rattle.ext_int.specs.declared.Ext.{Ext}
use Rattle.ext_int.specs.declared.Ext.TheVariants.{Low, Fin, High}
use Rattle.ext_int.specs.Ext.{Below, Above, holds_number, AtMost, lesser, greater, low_end, high_end, rounded_low, rounded_high, negation, least_of, greatest_of}

-- ---- numbers

pub neg-le : (p q : ℕ) → p ≤ q → neg_ℤ (pos q) ≤ℤ neg_ℤ (pos p)
neg-le p q h = omega (arith, ints)

pub neg-le-pos : (p q : ℕ) → neg_ℤ (pos p) ≤ℤ pos q
neg-le-pos p q = omega (arith, ints)

-- ---- the order of ends

pub AtMost_refl : (a : Ext) → AtMost a a
AtMost_refl Low = tt
AtMost_refl (Fin x) = omega (arith, ints)
AtMost_refl High = tt

pub AtMost_trans : (a b c : Ext) → AtMost a b → AtMost b c → AtMost a c
AtMost_trans Low b c h k = tt
AtMost_trans (Fin x) Low c h k = absurd h
AtMost_trans (Fin x) (Fin y) Low h k = k
AtMost_trans (Fin x) (Fin y) (Fin z) h k = omega (arith, ints)
AtMost_trans (Fin x) (Fin y) High h k = tt
AtMost_trans (Fin x) High Low h k = k
AtMost_trans (Fin x) High (Fin z) h k = absurd k
AtMost_trans (Fin x) High High h k = tt
AtMost_trans High Low c h k = absurd h
AtMost_trans High (Fin y) c h k = absurd h
AtMost_trans High High c h k = k

-- an end is at or below a number where it is at or below that number as an end
pub AtMost-from_below : (a : Ext) (n : ℤ) → Below a n → AtMost a (Fin n)
AtMost-from_below Low n h = tt
AtMost-from_below (Fin x) n h = h
AtMost-from_below High n h = h

pub Below-from_at_most : (a : Ext) (n : ℤ) → AtMost a (Fin n) → Below a n
Below-from_at_most Low n h = tt
Below-from_at_most (Fin x) n h = h
Below-from_at_most High n h = h

pub AtMost-from_above : (a : Ext) (n : ℤ) → Above a n → AtMost (Fin n) a
AtMost-from_above Low n h = h
AtMost-from_above (Fin x) n h = h
AtMost-from_above High n h = tt

pub Above-from_at_most : (a : Ext) (n : ℤ) → AtMost (Fin n) a → Above a n
Above-from_at_most Low n h = h
Above-from_at_most (Fin x) n h = h
Above-from_at_most High n h = tt

pub AtMost_antisymm : (a b : Ext) → AtMost a b → AtMost b a → a ≡ b
AtMost_antisymm Low Low h k = refl
AtMost_antisymm Low (Fin y) h k = absurd k
AtMost_antisymm Low High h k = absurd k
AtMost_antisymm (Fin x) Low h k = absurd h
AtMost_antisymm (Fin x) (Fin y) h k = ap Fin (omega (arith, ints))
AtMost_antisymm (Fin x) High h k = absurd k
AtMost_antisymm High Low h k = absurd h
AtMost_antisymm High (Fin y) h k = absurd h
AtMost_antisymm High High h k = refl

-- ---- ranges that hold a number

pub int_le-true : (x y : ℤ) → x ≤ℤ y → IsTrue (int_le x y)
int_le-true x y h = grind (arith, ints)

pub le-from_int_le : (x y : ℤ) → IsTrue (int_le x y) → x ≤ℤ y
le-from_int_le x y h = grind (arith, ints)

pub holds_number_from : (a b : Ext) (n : ℤ) → Below a n → Above b n → IsTrue (holds_number a b)
holds_number_from Low Low n h k = absurd k
holds_number_from Low (Fin y) n h k = refl
holds_number_from Low High n h k = refl
holds_number_from (Fin x) Low n h k = absurd k
holds_number_from (Fin x) (Fin y) n h k = int_le-true x y (omega (arith, ints))
holds_number_from (Fin x) High n h k = refl
holds_number_from High b n h k = absurd h

-- a number between the two ends
pub number_between : (a b : Ext) → IsTrue (holds_number a b) → (n : ℤ) × Below a n × Above b n
number_between Low Low h = cc
number_between Low (Fin y) h = (y, tt, omega (arith, ints))
number_between Low High h = (pos 0, tt, tt)
number_between (Fin x) Low h = cc
number_between (Fin x) (Fin y) h = (x, omega (arith, ints), le-from_int_le x y h)
number_between (Fin x) High h = (x, omega (arith, ints), tt)
number_between High b h = cc

-- each end that is a number lies between the two
pub Above-low_end : (n : ℤ) (b : Ext) → IsTrue (holds_number (Fin n) b) → Above b n
Above-low_end n Low h = cc
Above-low_end n (Fin y) h = le-from_int_le n y h
Above-low_end n High h = tt

pub Below-high_end : (a : Ext) (n : ℤ) → IsTrue (holds_number a (Fin n)) → Below a n
Below-high_end Low n h = tt
Below-high_end (Fin x) n h = le-from_int_le x n h
Below-high_end High n h = cc

-- ---- the lesser and the greater

pub lesser_first : (p q : Ext) → AtMost (lesser p q) p
lesser_first Low q = tt
lesser_first (Fin x) Low = tt
lesser_first (Fin x) (Fin y) = grind (arith, ints)
lesser_first (Fin x) High = omega (arith, ints)
lesser_first High Low = tt
lesser_first High (Fin y) = tt
lesser_first High High = tt

pub lesser_second : (p q : Ext) → AtMost (lesser p q) q
lesser_second Low q = tt
lesser_second (Fin x) Low = tt
lesser_second (Fin x) (Fin y) = grind (arith, ints)
lesser_second (Fin x) High = tt
lesser_second High q = AtMost_refl q

pub lesser_greatest : (e p q : Ext) → AtMost e p → AtMost e q → AtMost e (lesser p q)
lesser_greatest e Low q h k = h
lesser_greatest e (Fin x) Low h k = k
lesser_greatest Low (Fin x) (Fin y) h k = tt
lesser_greatest (Fin z) (Fin x) (Fin y) h k = grind (arith, ints)
lesser_greatest High (Fin x) (Fin y) h k = absurd h
lesser_greatest e (Fin x) High h k = h
lesser_greatest e High q h k = k

pub greater_first : (p q : Ext) → AtMost p (greater p q)
greater_first Low q = tt
greater_first (Fin x) Low = omega (arith, ints)
greater_first (Fin x) (Fin y) = grind (arith, ints)
greater_first (Fin x) High = tt
greater_first High q = tt

pub greater_second : (p q : Ext) → AtMost q (greater p q)
greater_second Low q = AtMost_refl q
greater_second (Fin x) Low = tt
greater_second (Fin x) (Fin y) = grind (arith, ints)
greater_second (Fin x) High = tt
greater_second High Low = tt
greater_second High (Fin y) = tt
greater_second High High = tt

pub greater_least : (e p q : Ext) → AtMost p e → AtMost q e → AtMost (greater p q) e
greater_least e Low q h k = k
greater_least e (Fin x) Low h k = h
greater_least Low (Fin x) (Fin y) h k = h
greater_least (Fin z) (Fin x) (Fin y) h k = grind (arith, ints)
greater_least High (Fin x) (Fin y) h k = tt
greater_least e (Fin x) High h k = k
greater_least e High q h k = h

pub lesser_mono : (p q r s : Ext) → AtMost p r → AtMost q s → AtMost (lesser p q) (lesser r s)
lesser_mono p q r s h k =
    lesser_greatest (lesser p q) r s (AtMost_trans _ p r (lesser_first p q) h) (AtMost_trans _ q s (lesser_second p q) k)

pub greater_mono : (p q r s : Ext) → AtMost p r → AtMost q s → AtMost (greater p q) (greater r s)
greater_mono p q r s h k =
    greater_least (greater r s) p q (AtMost_trans p r _ h (greater_first r s)) (AtMost_trans q s _ k (greater_second r s))

pub lesser_same : (p : Ext) → lesser p p ≡ p
lesser_same Low = refl
lesser_same (Fin x) = grind (arith, ints)
lesser_same High = refl

pub greater_same : (p : Ext) → greater p p ≡ p
greater_same Low = refl
greater_same (Fin x) = grind (arith, ints)
greater_same High = refl

-- ---- negation

pub negation_falls : (a b : Ext) → AtMost a b → AtMost (negation b) (negation a)
negation_falls Low Low h = tt
negation_falls Low (Fin y) h = tt
negation_falls Low High h = tt
negation_falls (Fin x) Low h = absurd h
negation_falls (Fin x) (Fin y) h = omega (arith, ints)
negation_falls (Fin x) High h = tt
negation_falls High Low h = absurd h
negation_falls High (Fin y) h = absurd h
negation_falls High High h = tt

-- ---- rounding

pub low_end-fits : (z : ℤ) → FitsSigned w128 z → low_end z ≡ Fin z
low_end-fits (pos n) h = grind (arith, h.sfits)
low_end-fits (negsuc n) h = grind (arith, h.sfits)

pub high_end-fits : (z : ℤ) → FitsSigned w128 z → high_end z ≡ Fin z
high_end-fits (pos n) h = grind (arith, h.sfits)
high_end-fits (negsuc n) h = grind (arith, h.sfits)

pub rounded_low_below : (a : Ext) → AtMost (rounded_low a) a
rounded_low_below Low = tt
rounded_low_below (Fin (pos n)) = grind (arith, ints)
rounded_low_below (Fin (negsuc n)) = grind (arith, ints)
rounded_low_below High = tt

pub rounded_high_above : (a : Ext) → AtMost a (rounded_high a)
rounded_high_above Low = tt
rounded_high_above (Fin (pos n)) = grind (arith, ints)
rounded_high_above (Fin (negsuc n)) = grind (arith, ints)
rounded_high_above High = tt

-- the same of the least and the greatest of four
pub least_of_rounded : (p q r s : Ext) → AtMost (least_of (rounded_low p) (rounded_low q) (rounded_low r) (rounded_low s)) (least_of p q r s)
least_of_rounded p q r s =
    lesser_mono _ _ (lesser p q) (lesser r s)
    (lesser_mono _ _ p q (rounded_low_below p) (rounded_low_below q))
    (lesser_mono _ _ r s (rounded_low_below r) (rounded_low_below s))

pub greatest_of_rounded : (p q r s : Ext) → AtMost (greatest_of p q r s) (greatest_of (rounded_high p) (rounded_high q) (rounded_high r) (rounded_high s))
greatest_of_rounded p q r s =
    greater_mono (greater p q) (greater r s) _ _
    (greater_mono p q _ _ (rounded_high_above p) (rounded_high_above q))
    (greater_mono r s _ _ (rounded_high_above r) (rounded_high_above s))

-- a number between two that are an i128 is one
pub fits_between : (l h z : ℤ) → FitsSigned w128 l → FitsSigned w128 h → l ≤ℤ z → z ≤ℤ h → FitsSigned w128 z
fits_between l h z f g p q = omega (arith, ints)

-- so rounding keeps it between them
pub low_end_within : (l h z : ℤ) → FitsSigned w128 l → FitsSigned w128 h → l ≤ℤ z → z ≤ℤ h → AtMost (Fin l) (low_end z)
low_end_within l h z f g p q = rw (low_end-fits z (fits_between l h z f g p q)) p

pub high_end_within : (l h z : ℤ) → FitsSigned w128 l → FitsSigned w128 h → l ≤ℤ z → z ≤ℤ h → AtMost (high_end z) (Fin h)
high_end_within l h z f g p q = rw (high_end-fits z (fits_between l h z f g p q)) q
