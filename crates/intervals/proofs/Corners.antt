-- The results on the numbers of two ranges lie between the corners, rounded outward to i128 numbers.
use Rattle.std.proofs.Common.{◌≡◌, ℤ, pos, negsuc, ◌≤ℤ◌, ◌*ℤ◌, ◌⊎◌, arith, FitsSigned}
use Rattle.std.specs.Prelude.{int_div}
use Rattle.std.proofs.lemmas.Int.{ints}
use mir.Syntax.{w128}
use Rattle.ext_int.specs.declared.Ext.{Ext}
use Rattle.ext_int.specs.declared.Ext.TheVariants.{Low, Fin, High}
use Rattle.ext_int.specs.Ext.{Below, Above, AtMost, IsPositive, IsNegative, lesser, greater, least_of, greatest_of, product, quotient}
use Rattle.ext_int.proofs.Ends.{AtMost_trans, AtMost-from_below, AtMost-from_above, Below-from_at_most, Above-from_at_most, lesser_mono, greater_mono, fits_between}
use Rattle.ext_int.proofs.Corners.{AnyEnd, corners_low, corners_high}
use Rattle.ext_int.proofs.Products.{product_turns, product_turns_first}
use Rattle.ext_int.proofs.Quotients.{ends_low, ends_high}
use Rattle.intervals.specs.Corners.{floor_end, ceiling_end, floored, ceiled, least_corner, greatest_corner}

-- ---- rounding

floor_end-fits : (z : ℤ) → FitsSigned w128 z → floor_end z ≡ Fin z
floor_end-fits (pos n) h = grind (arith, h.sfits)
floor_end-fits (negsuc n) h = grind (arith, h.sfits)

ceiling_end-fits : (z : ℤ) → FitsSigned w128 z → ceiling_end z ≡ Fin z
ceiling_end-fits (pos n) h = grind (arith, h.sfits)
ceiling_end-fits (negsuc n) h = grind (arith, h.sfits)

-- rounding keeps a number between two i128 numbers
pub floor_end_within : (l h z : ℤ) → FitsSigned w128 l → FitsSigned w128 h → l ≤ℤ z → z ≤ℤ h → AtMost (Fin l) (floor_end z)
floor_end_within l h z f g p q = rw (floor_end-fits z (fits_between l h z f g p q)) p

pub ceiling_end_within : (l h z : ℤ) → FitsSigned w128 l → FitsSigned w128 h → l ≤ℤ z → z ≤ℤ h → AtMost (ceiling_end z) (Fin h)
ceiling_end_within l h z f g p q = rw (ceiling_end-fits z (fits_between l h z f g p q)) q

floored_below : (a : Ext) → AtMost (floored a) a
floored_below Low = tt
floored_below (Fin (pos n)) = grind (arith, ints)
floored_below (Fin (negsuc n)) = grind (arith, ints)
floored_below High = tt

ceiled_above : (a : Ext) → AtMost a (ceiled a)
ceiled_above Low = tt
ceiled_above (Fin (pos n)) = grind (arith, ints)
ceiled_above (Fin (negsuc n)) = grind (arith, ints)
ceiled_above High = tt

least_of_floored : (p q r s : Ext) → AtMost (least_of (floored p) (floored q) (floored r) (floored s)) (least_of p q r s)
least_of_floored p q r s =
    lesser_mono _ _ (lesser p q) (lesser r s)
    (lesser_mono _ _ p q (floored_below p) (floored_below q))
    (lesser_mono _ _ r s (floored_below r) (floored_below s))

greatest_of_ceiled : (p q r s : Ext) → AtMost (greatest_of p q r s) (greatest_of (ceiled p) (ceiled q) (ceiled r) (ceiled s))
greatest_of_ceiled p q r s =
    greater_mono (greater p q) (greater r s) _ _
    (greater_mono p q _ _ (ceiled_above p) (ceiled_above q))
    (greater_mono r s _ _ (ceiled_above r) (ceiled_above s))

-- ---- the corners

pub product_corners_low : (a b c d : Ext) (x y : ℤ) → Below a x → Above b x → Below c y → Above d y → Below (least_corner product a b c d) (x *ℤ y)
product_corners_low a b c d x y h k i j =
    Below-from_at_most _ (x *ℤ y) (AtMost_trans _ (least_of (product a c) (product a d) (product b c) (product b d)) (Fin (x *ℤ y))
    (least_of_floored (product a c) (product a d) (product b c) (product b d))
    (corners_low product AnyEnd product_turns (λ e _. product_turns_first e) a b c d (Fin x) (Fin y) (AtMost-from_below a x h) (AtMost-from_above b x k) (AtMost-from_below c y i) (AtMost-from_above d y j) tt tt tt))

pub product_corners_high : (a b c d : Ext) (x y : ℤ) → Below a x → Above b x → Below c y → Above d y → Above (greatest_corner product a b c d) (x *ℤ y)
product_corners_high a b c d x y h k i j =
    Above-from_at_most _ (x *ℤ y) (AtMost_trans (Fin (x *ℤ y)) (greatest_of (product a c) (product a d) (product b c) (product b d)) _
    (corners_high product AnyEnd product_turns (λ e _. product_turns_first e) a b c d (Fin x) (Fin y) (AtMost-from_below a x h) (AtMost-from_above b x k) (AtMost-from_below c y i) (AtMost-from_above d y j) tt tt tt)
    (greatest_of_ceiled (product a c) (product a d) (product b c) (product b d)))

pub quotient_corners_low : (a b c d : Ext) (x y : ℤ) → Below a x → Above b x → Below c y → Above d y → (IsPositive c ⊎ IsNegative d) → Below (least_corner quotient a b c d) (int_div x y)
quotient_corners_low a b c d x y h k i j one_side =
    Below-from_at_most _ (int_div x y) (AtMost_trans _ (least_of (quotient a c) (quotient a d) (quotient b c) (quotient b d)) (Fin (int_div x y))
    (least_of_floored (quotient a c) (quotient a d) (quotient b c) (quotient b d))
    (ends_low a b c d (Fin x) (Fin y) (AtMost-from_below a x h) (AtMost-from_above b x k) (AtMost-from_below c y i) (AtMost-from_above d y j) one_side))

pub quotient_corners_high : (a b c d : Ext) (x y : ℤ) → Below a x → Above b x → Below c y → Above d y → (IsPositive c ⊎ IsNegative d) → Above (greatest_corner quotient a b c d) (int_div x y)
quotient_corners_high a b c d x y h k i j one_side =
    Above-from_at_most _ (int_div x y) (AtMost_trans (Fin (int_div x y)) (greatest_of (quotient a c) (quotient a d) (quotient b c) (quotient b d)) _
    (ends_high a b c d (Fin x) (Fin y) (AtMost-from_below a x h) (AtMost-from_above b x k) (AtMost-from_below c y i) (AtMost-from_above d y j) one_side)
    (greatest_of_ceiled (quotient a c) (quotient a d) (quotient b c) (quotient b d)))
