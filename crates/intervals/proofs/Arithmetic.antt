-- What the ends of an interval say of the results of an operation, over the ends of its operands.
use Rattle.std.proofs.Common.{◌≡◌, ◌≢◌, zero, suc, ℤ, pos, negsuc, ◌⊎◌, ⊎_elim, ◌+ℤ◌, ◌-ℤ◌, ◌*ℤ◌, neg_ℤ, ◌≤ℤ◌, arith, FitsSigned}
use Rattle.std.specs.Prelude.{IsTrue, int_div}
use Rattle.std.proofs.lemmas.Int.{ints}
use mir.Syntax.{w128}
use Rattle.ext_int.specs.declared.Ext.{Ext}
use Rattle.ext_int.specs.declared.Ext.TheVariants.{Low, Fin, High}
use Rattle.ext_int.specs.Ext.{Below, Above, holds_number, IsNumber, IsPositive, IsNegative, AtMost, low_end, high_end, rounded_low, rounded_high, sum_low, sum_high, product, quotient, negation, least_of, greatest_of}
use Rattle.ext_int.proofs.Ends.{AtMost_refl, AtMost_trans, AtMost_antisymm, AtMost-from_below, AtMost-from_above, Below-from_at_most, Above-from_at_most, number_between, holds_number_from, rounded_low_below, rounded_high_above, le-from_int_le, low_end_within, high_end_within, lesser_greatest, greater_least}
use Rattle.ext_int.proofs.Quotients.{IsPositive_up, IsNegative_down}
use Rattle.intervals.specs.Corners.{floor_end, ceiling_end, least_corner, greatest_corner}
use Rattle.intervals.proofs.Corners.{floor_end_within, ceiling_end_within, product_corners_low, product_corners_high, quotient_corners_low, quotient_corners_high}
use Rattle.intervals.specs.Interval.{IsBetween}

-- ---- one number

-- a range that holds a number and lies between it and itself is that number
pub point_between : (lo hi : Ext) (z : ℤ) → Below lo z → Above hi z → AtMost (Fin z) lo → AtMost hi (Fin z) → (lo ≡ Fin z) × (hi ≡ Fin z)
point_between lo hi z h k i j =
    (AtMost_antisymm lo (Fin z) (AtMost-from_below lo z h) i, AtMost_antisymm hi (Fin z) j (AtMost-from_above hi z k))

-- ---- ends that are numbers

-- what holds of all numbers holds of all ends that are numbers
pub on_numbers : (P : Ext → Ext → Ext → Ext → Type 0) → ((a b c d : ℤ) → P (Fin a) (Fin b) (Fin c) (Fin d)) → (a b c d : Ext) → IsNumber a → IsNumber b → IsNumber c → IsNumber d → P a b c d
on_numbers P holds (Fin a) (Fin b) (Fin c) (Fin d) p q r s = holds a b c d
on_numbers P holds Low b c d p q r s = absurd p
on_numbers P holds High b c d p q r s = absurd p
on_numbers P holds (Fin a) Low c d p q r s = absurd q
on_numbers P holds (Fin a) High c d p q r s = absurd q
on_numbers P holds (Fin a) (Fin b) Low d p q r s = absurd r
on_numbers P holds (Fin a) (Fin b) High d p q r s = absurd r
on_numbers P holds (Fin a) (Fin b) (Fin c) Low p q r s = absurd s
on_numbers P holds (Fin a) (Fin b) (Fin c) High p q r s = absurd s

-- the results of the operation on numbers between `a` and `b` and between `c` and `d` lie between `l` and `h`
abbrev pub ResultsBetween : (ℤ → ℤ → ℤ) → ℤ → ℤ → Ext → Ext → Ext → Ext → Type 0
ResultsBetween op l h a b c d = (x y : ℤ) → Below a x × Above b x → Below c y × Above d y → IsBetween l h (op x y)

-- both ends lie between `l` and `h`
abbrev pub EndsBetween : ℤ → ℤ → Ext → Ext → Type 0
EndsBetween l h lo hi = AtMost (Fin l) lo × AtMost hi (Fin h)

module _ (l h : ℤ) (f : FitsSigned w128 l) (g : FitsSigned w128 h) where
  rounded_between : (z : ℤ) → IsBetween l h z → EndsBetween l h (low_end z) (high_end z)
  rounded_between z within = (low_end_within l h z f g within.0 within.1, high_end_within l h z f g within.0 within.1)

  pub sum_least : (a b c d : Ext) → IsNumber a → IsNumber b → IsNumber c → IsNumber d → IsTrue (holds_number a b) → IsTrue (holds_number c d) → ResultsBetween (λ x y. x +ℤ y) l h a b c d → EndsBetween l h (sum_low a c) (sum_high b d)
  sum_least = on_numbers
      (λ a b c d. IsTrue (holds_number a b) → IsTrue (holds_number c d) → ResultsBetween (λ x y. x +ℤ y) l h a b c d → EndsBetween l h (sum_low a c) (sum_high b d))
      (λ a b c d first second within.
      let i = le-from_int_le a b first in
      let j = le-from_int_le c d second in
      let low = within a c (AtMost_refl (Fin a), i) (AtMost_refl (Fin c), j) in
      let high = within b d (i, AtMost_refl (Fin b)) (j, AtMost_refl (Fin d)) in
      ((rounded_between (a +ℤ c) low).0, (rounded_between (b +ℤ d) high).1))

  pub difference_least : (a b c d : Ext) → IsNumber a → IsNumber b → IsNumber c → IsNumber d → IsTrue (holds_number a b) → IsTrue (holds_number c d) → ResultsBetween (λ x y. x -ℤ y) l h a b c d → EndsBetween l h (sum_low a (negation d)) (sum_high b (negation c))
  difference_least = on_numbers
      (λ a b c d. IsTrue (holds_number a b) → IsTrue (holds_number c d) → ResultsBetween (λ x y. x -ℤ y) l h a b c d → EndsBetween l h (sum_low a (negation d)) (sum_high b (negation c)))
      (λ a b c d first second within.
      let i = le-from_int_le a b first in
      let j = le-from_int_le c d second in
      let low = within a d (AtMost_refl (Fin a), i) (j, AtMost_refl (Fin d)) in
      let high = within b c (i, AtMost_refl (Fin b)) (AtMost_refl (Fin c), j) in
      ((rounded_between (a -ℤ d) low).0, (rounded_between (b -ℤ c) high).1))

  outward_between : (z : ℤ) → IsBetween l h z → EndsBetween l h (floor_end z) (ceiling_end z)
  outward_between z within = (floor_end_within l h z f g within.0 within.1, ceiling_end_within l h z f g within.0 within.1)

  corners_between : (p q r s : ℤ) → IsBetween l h p → IsBetween l h q → IsBetween l h r → IsBetween l h s → EndsBetween l h (least_of (floor_end p) (floor_end q) (floor_end r) (floor_end s)) (greatest_of (ceiling_end p) (ceiling_end q) (ceiling_end r) (ceiling_end s))
  corners_between p q r s i j k m =
      let at_p = outward_between p i in
      let at_q = outward_between q j in
      let at_r = outward_between r k in
      let at_s = outward_between s m in (
        lesser_greatest (Fin l) _ _ (lesser_greatest (Fin l) (floor_end p) (floor_end q) at_p.0 at_q.0) (lesser_greatest (Fin l) (floor_end r) (floor_end s) at_r.0 at_s.0),
        greater_least (Fin h) _ _ (greater_least (Fin h) (ceiling_end p) (ceiling_end q) at_p.1 at_q.1) (greater_least (Fin h) (ceiling_end r) (ceiling_end s) at_r.1 at_s.1),
      )

  corners_least : (op : ℤ → ℤ → ℤ) (a b c d : ℤ) → IsTrue (holds_number (Fin a) (Fin b)) → IsTrue (holds_number (Fin c) (Fin d)) → ResultsBetween op l h (Fin a) (Fin b) (Fin c) (Fin d) → EndsBetween l h (least_of (floor_end (op a c)) (floor_end (op a d)) (floor_end (op b c)) (floor_end (op b d))) (greatest_of (ceiling_end (op a c)) (ceiling_end (op a d)) (ceiling_end (op b c)) (ceiling_end (op b d)))
  corners_least op a b c d first second within =
      let i = le-from_int_le a b first in
      let j = le-from_int_le c d second in
      let at_a : (a ≤ℤ a) × (a ≤ℤ b) = (AtMost_refl (Fin a), i) in
      let at_b : (a ≤ℤ b) × (b ≤ℤ b) = (i, AtMost_refl (Fin b)) in
      let at_c : (c ≤ℤ c) × (c ≤ℤ d) = (AtMost_refl (Fin c), j) in
      let at_d : (c ≤ℤ d) × (d ≤ℤ d) = (j, AtMost_refl (Fin d)) in
      corners_between (op a c) (op a d) (op b c) (op b d) (within a c at_a at_c) (within a d at_a at_d) (within b c at_b at_c) (within b d at_b at_d)

  pub product_least : (a b c d : Ext) → IsNumber a → IsNumber b → IsNumber c → IsNumber d → IsTrue (holds_number a b) → IsTrue (holds_number c d) → ResultsBetween (λ x y. x *ℤ y) l h a b c d → EndsBetween l h (least_corner product a b c d) (greatest_corner product a b c d)
  product_least = on_numbers
      (λ a b c d. IsTrue (holds_number a b) → IsTrue (holds_number c d) → ResultsBetween (λ x y. x *ℤ y) l h a b c d → EndsBetween l h (least_corner product a b c d) (greatest_corner product a b c d))
      (corners_least (λ x y. x *ℤ y))

  pub quotient_least : (a b c d : Ext) → IsNumber a → IsNumber b → IsNumber c → IsNumber d → IsTrue (holds_number a b) → IsTrue (holds_number c d) → ResultsBetween int_div l h a b c d → EndsBetween l h (least_corner quotient a b c d) (greatest_corner quotient a b c d)
  quotient_least = on_numbers
      (λ a b c d. IsTrue (holds_number a b) → IsTrue (holds_number c d) → ResultsBetween int_div l h a b c d → EndsBetween l h (least_corner quotient a b c d) (greatest_corner quotient a b c d))
      (corners_least int_div)

  pub negation_least : (a b : Ext) → IsNumber a → IsNumber b → IsTrue (holds_number a b) → ((x : ℤ) → Below a x × Above b x → IsBetween l h (neg_ℤ x)) → EndsBetween l h (rounded_low (negation b)) (rounded_high (negation a))
  negation_least (Fin a) (Fin b) p q held within =
      let i = le-from_int_le a b held in
      ((rounded_between (neg_ℤ b) (within b (i, AtMost_refl (Fin b)))).0, (rounded_between (neg_ℤ a) (within a (AtMost_refl (Fin a), i))).1)
  negation_least Low b p q held within = absurd p
  negation_least High b p q held within = absurd p
  negation_least (Fin a) Low p q held within = absurd q
  negation_least (Fin a) High p q held within = absurd q

-- ---- differences

pub difference_low : (a d : Ext) (x y : ℤ) → Below a x → Above d y → Below (sum_low a (negation d)) (x -ℤ y)
difference_low Low Low x y h k = tt
difference_low Low (Fin d) x y h k = tt
difference_low Low High x y h k = tt
difference_low (Fin a) Low x y h k = tt
difference_low (Fin a) (Fin d) x y h k =
    Below-from_at_most _ (x -ℤ y) (AtMost_trans (low_end (a -ℤ d)) (Fin (a -ℤ d)) (Fin (x -ℤ y)) (rounded_low_below (Fin (a -ℤ d))) (omega (arith, ints)))
difference_low (Fin a) High x y h k = tt
difference_low High d x y h k = absurd h

pub difference_high : (b c : Ext) (x y : ℤ) → Above b x → Below c y → Above (sum_high b (negation c)) (x -ℤ y)
difference_high Low c x y h k = absurd h
difference_high (Fin b) Low x y h k = tt
difference_high (Fin b) (Fin c) x y h k =
    Above-from_at_most _ (x -ℤ y) (AtMost_trans (Fin (x -ℤ y)) (Fin (b -ℤ c)) (high_end (b -ℤ c)) (omega (arith, ints)) (rounded_high_above (Fin (b -ℤ c))))
difference_high (Fin b) High x y h k = tt
difference_high High Low x y h k = tt
difference_high High (Fin c) x y h k = tt
difference_high High High x y h k = tt

-- ---- results that hold a number

-- where each result lies between two ends and there are operands, some number lies between the ends
pub holds_result : (op : ℤ → ℤ → ℤ) (a b c d lo hi : Ext) → IsTrue (holds_number a b) → IsTrue (holds_number c d) → ((x y : ℤ) → Below a x × Above b x → Below c y × Above d y → Below lo (op x y) × Above hi (op x y)) → IsTrue (holds_number lo hi)
holds_result op a b c d lo hi first second keeps =
    let left = number_between a b first in
    let right = number_between c d second in
    let kept = keeps left.0 right.0 (left.1, left.2) (right.1, right.2) in
    holds_number_from lo hi (op left.0 right.0) kept.0 kept.1

pub difference_holds : (a b c d : Ext) → IsTrue (holds_number a b) → IsTrue (holds_number c d) → IsTrue (holds_number (sum_low a (negation d)) (sum_high b (negation c)))
difference_holds a b c d first second =
    holds_result (λ x y. x -ℤ y) a b c d (sum_low a (negation d)) (sum_high b (negation c)) first second
    (λ x y p q. (difference_low a d x y p.0 q.1, difference_high b c x y p.1 q.0))

pub product_holds : (a b c d : Ext) → IsTrue (holds_number a b) → IsTrue (holds_number c d) → IsTrue (holds_number (least_corner product a b c d) (greatest_corner product a b c d))
product_holds a b c d first second =
    holds_result (λ x y. x *ℤ y) a b c d (least_corner product a b c d) (greatest_corner product a b c d) first second
    (λ x y p q. (product_corners_low a b c d x y p.0 p.1 q.0 q.1, product_corners_high a b c d x y p.0 p.1 q.0 q.1))

pub quotient_holds : (a b c d : Ext) → IsTrue (holds_number a b) → IsTrue (holds_number c d) → (IsPositive c ⊎ IsNegative d) → IsTrue (holds_number (least_corner quotient a b c d) (greatest_corner quotient a b c d))
quotient_holds a b c d first second one_side =
    holds_result int_div a b c d (least_corner quotient a b c d) (greatest_corner quotient a b c d) first second
    (λ x y p q. (quotient_corners_low a b c d x y p.0 p.1 q.0 q.1 one_side, quotient_corners_high a b c d x y p.0 p.1 q.0 q.1 one_side))

-- ---- divisors of one side

positive_is_not_zero : (e : Ext) → IsPositive e → e ≢ Fin (pos 0)
positive_is_not_zero Low p h = p
positive_is_not_zero (Fin (pos zero)) p h = p
positive_is_not_zero (Fin (pos (suc n))) p h = cc
positive_is_not_zero (Fin (negsuc n)) p h = p
positive_is_not_zero High p h = cc

negative_is_not_zero : (e : Ext) → IsNegative e → e ≢ Fin (pos 0)
negative_is_not_zero Low p h = cc
negative_is_not_zero (Fin (pos n)) p h = p
negative_is_not_zero (Fin (negsuc n)) p h = cc
negative_is_not_zero High p h = p

-- neither end of a range on one side of 0 is 0
pub ends_not_zero : (c d : Ext) → IsTrue (holds_number c d) → (IsPositive c ⊎ IsNegative d) → (c ≢ Fin (pos 0)) × (d ≢ Fin (pos 0))
ends_not_zero c d held one_side =
    let at_most = AtMost-from_held c d held in
    ⊎_elim
    (λ (p : IsPositive c). (positive_is_not_zero c p, positive_is_not_zero d (IsPositive_up c d at_most p)))
    (λ (p : IsNegative d). (negative_is_not_zero c (IsNegative_down c d at_most p), negative_is_not_zero d p))
    one_side
  where
    AtMost-from_held : (c d : Ext) → IsTrue (holds_number c d) → AtMost c d
    AtMost-from_held c d held =
        let n = number_between c d held in
        AtMost_trans c (Fin n.0) d (AtMost-from_below c n.0 n.1) (AtMost-from_above d n.0 n.2)
