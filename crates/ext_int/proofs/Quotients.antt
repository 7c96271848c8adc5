-- The quotients of the numbers of two ranges, the divisors all above 0 or all below it, lie between the least and the greatest quotient of their ends.
use Rattle.std.proofs.Common.{◌≡◌, ℕ, zero, suc, ℤ, pos, negsuc, ◌/◌, ◌≤◌, ◌≤ℤ◌, ◌⊎◌, inl, inr, ⊎_elim, arith, refl, sym, ap}
use Rattle.std.specs.Prelude.{int_div}
use Rattle.std.proofs.Math.Nat.{mul-le-mul_left, div-mul-le_self}
use Rattle.std.proofs.Math.IntN.{neg_ℤ-neg_ℤ}
use Rattle.std.proofs.lemmas.Int.{ints}
use Rattle.std.proofs.lemmas.Nat.{le-div}
use Rattle.ext_int.specs.declared.Ext.{Ext}
use Rattle.ext_int.specs.declared.Ext.TheVariants.{Low, Fin, High}
use Rattle.ext_int.specs.Ext.{Below, Above, AtMost, IsPositive, IsNegative, least_of, greatest_of, least_corner, greatest_corner, quotient, negation}
use Rattle.ext_int.proofs.Ends.{neg-le, neg-le-pos, AtMost_trans, AtMost-from_below, AtMost-from_above, Below-from_at_most, Above-from_at_most, negation_falls, least_of_rounded, greatest_of_rounded}
use Rattle.ext_int.proofs.Corners.{Rises, Falls, AnyEnd, corners_low, corners_high}

pub IsPositive_up : (a b : Ext) → AtMost a b → IsPositive a → IsPositive b
IsPositive_up Low b h p = absurd p
IsPositive_up (Fin (pos zero)) b h p = absurd p
IsPositive_up (Fin (pos (suc n))) Low h p = h
IsPositive_up (Fin (pos (suc n))) (Fin (pos zero)) h p = absurd (omega (arith, ints))
IsPositive_up (Fin (pos (suc n))) (Fin (pos (suc m))) h p = tt
IsPositive_up (Fin (pos (suc n))) (Fin (negsuc m)) h p = absurd (omega (arith, ints))
IsPositive_up (Fin (pos (suc n))) High h p = tt
IsPositive_up (Fin (negsuc n)) b h p = absurd p
IsPositive_up High Low h p = h
IsPositive_up High (Fin y) h p = absurd h
IsPositive_up High High h p = tt

pub IsNegative_down : (a b : Ext) → AtMost a b → IsNegative b → IsNegative a
IsNegative_down Low b h p = tt
IsNegative_down (Fin x) Low h p = absurd h
IsNegative_down (Fin x) (Fin (pos m)) h p = absurd p
IsNegative_down (Fin (pos n)) (Fin (negsuc m)) h p = absurd (omega (arith, ints))
IsNegative_down (Fin (negsuc n)) (Fin (negsuc m)) h p = tt
IsNegative_down (Fin x) High h p = absurd p
IsNegative_down High Low h p = h
IsNegative_down High (Fin y) h p = h
IsNegative_down High High h p = p

IsPositive-negation : (e : Ext) → IsNegative e → IsPositive (negation e)
IsPositive-negation Low p = tt
IsPositive-negation (Fin (pos n)) p = absurd p
IsPositive-negation (Fin (negsuc n)) p = tt
IsPositive-negation High p = p

-- ---- by a fixed positive divisor

div_le_left : (a b m : ℕ) → a ≤ b → a / suc m ≤ b / suc m
div_le_left a b m h = le-div (a / suc m) b (suc m) (omega arith) (omega (arith, div-mul-le_self a (suc m)))

pos-le : (p q : ℕ) → p ≤ q → pos p ≤ℤ pos q
pos-le p q h = omega (arith, ints)

int_div_rises : (m : ℕ) (x y : ℤ) → x ≤ℤ y → int_div x (pos (suc m)) ≤ℤ int_div y (pos (suc m))
int_div_rises m (pos a) (pos b) h = pos-le _ _ (div_le_left a b m (omega (arith, ints)))
int_div_rises m (pos a) (negsuc b) h = absurd (omega (arith, ints))
int_div_rises m (negsuc a) (pos b) h = neg-le-pos (suc a / suc m) (b / suc m)
int_div_rises m (negsuc a) (negsuc b) h = neg-le _ _ (div_le_left (suc b) (suc a) m (omega (arith, ints)))

by_positive_rises : (m : ℕ) → Rises AnyEnd (λ x. quotient x (Fin (pos (suc m))))
by_positive_rises m Low b u v h = tt
by_positive_rises m (Fin x) Low u v h = absurd h
by_positive_rises m (Fin x) (Fin y) u v h = int_div_rises m x y h
by_positive_rises m (Fin x) High u v h = tt
by_positive_rises m High Low u v h = absurd h
by_positive_rises m High (Fin y) u v h = absurd h
by_positive_rises m High High u v h = tt

positive_columns : (e : Ext) → IsPositive e → Rises AnyEnd (λ x. quotient x e) ⊎ Falls AnyEnd (λ x. quotient x e)
positive_columns Low p = absurd p
positive_columns (Fin (pos zero)) p = absurd p
positive_columns (Fin (pos (suc m))) p = inl (by_positive_rises m)
positive_columns (Fin (negsuc m)) p = absurd p
positive_columns High p = inl (λ a b u v h. pos-le 0 0 (omega arith))

-- ---- of a fixed dividend, by positive divisors

div_le_right : (a m n : ℕ) → m ≤ n → a / suc n ≤ a / suc m
div_le_right a m n h =
    let k : suc m ≤ suc n = omega arith in
    let less = mul-le-mul_left (a / suc n) k in
    le-div (a / suc n) a (suc m) (omega arith) (omega (arith, div-mul-le_self a (suc n), less))

of_low_rises : Rises IsPositive (quotient Low)
of_low_rises Low b u v h = absurd u
of_low_rises (Fin (pos zero)) b u v h = absurd u
of_low_rises (Fin (pos (suc n))) b u v h = tt
of_low_rises (Fin (negsuc n)) b u v h = absurd u
of_low_rises High Low u v h = absurd v
of_low_rises High (Fin y) u v h = absurd h
of_low_rises High High u v h = pos-le 0 0 (omega arith)

of_high_falls : Falls IsPositive (quotient High)
of_high_falls Low b u v h = absurd u
of_high_falls (Fin (pos zero)) b u v h = absurd u
of_high_falls (Fin (pos (suc n))) Low u v h = absurd v
of_high_falls (Fin (pos (suc n))) (Fin (pos zero)) u v h = absurd v
of_high_falls (Fin (pos (suc n))) (Fin (pos (suc m))) u v h = tt
of_high_falls (Fin (pos (suc n))) (Fin (negsuc m)) u v h = absurd v
of_high_falls (Fin (pos (suc n))) High u v h = tt
of_high_falls (Fin (negsuc n)) b u v h = absurd u
of_high_falls High Low u v h = absurd v
of_high_falls High (Fin y) u v h = absurd h
of_high_falls High High u v h = pos-le 0 0 (omega arith)

of_positive_falls : (a : ℕ) → Falls IsPositive (quotient (Fin (pos a)))
of_positive_falls a Low b u v h = absurd u
of_positive_falls a (Fin (pos zero)) b u v h = absurd u
of_positive_falls a (Fin (pos (suc n))) Low u v h = absurd v
of_positive_falls a (Fin (pos (suc n))) (Fin (pos zero)) u v h = absurd v
of_positive_falls a (Fin (pos (suc n))) (Fin (pos (suc m))) u v h = pos-le _ _ (div_le_right a n m (omega (arith, ints)))
of_positive_falls a (Fin (pos (suc n))) (Fin (negsuc m)) u v h = absurd v
of_positive_falls a (Fin (pos (suc n))) High u v h = pos-le 0 (a / suc n) (omega arith)
of_positive_falls a (Fin (negsuc n)) b u v h = absurd u
of_positive_falls a High Low u v h = absurd v
of_positive_falls a High (Fin y) u v h = absurd h
of_positive_falls a High High u v h = pos-le 0 0 (omega arith)

of_negative_rises : (a : ℕ) → Rises IsPositive (quotient (Fin (negsuc a)))
of_negative_rises a Low b u v h = absurd u
of_negative_rises a (Fin (pos zero)) b u v h = absurd u
of_negative_rises a (Fin (pos (suc n))) Low u v h = absurd v
of_negative_rises a (Fin (pos (suc n))) (Fin (pos zero)) u v h = absurd v
of_negative_rises a (Fin (pos (suc n))) (Fin (pos (suc m))) u v h = neg-le _ _ (div_le_right (suc a) n m (omega (arith, ints)))
of_negative_rises a (Fin (pos (suc n))) (Fin (negsuc m)) u v h = absurd v
of_negative_rises a (Fin (pos (suc n))) High u v h = neg-le-pos (suc a / suc n) 0
of_negative_rises a (Fin (negsuc n)) b u v h = absurd u
of_negative_rises a High Low u v h = absurd v
of_negative_rises a High (Fin y) u v h = absurd h
of_negative_rises a High High u v h = pos-le 0 0 (omega arith)

positive_rows : (e : Ext) → Rises IsPositive (quotient e) ⊎ Falls IsPositive (quotient e)
positive_rows Low = inl of_low_rises
positive_rows (Fin (pos a)) = inr (of_positive_falls a)
positive_rows (Fin (negsuc a)) = inl (of_negative_rises a)
positive_rows High = inr of_high_falls

-- ---- by negative divisors

-- a quotient by a negative divisor is the negation of that by its negation
quotient_turned : (x y : Ext) → IsNegative y → quotient x y ≡ negation (quotient x (negation y))
quotient_turned x Low p = refl
quotient_turned x (Fin (pos m)) p = absurd p
quotient_turned Low (Fin (negsuc m)) p = refl
quotient_turned (Fin (pos a)) (Fin (negsuc m)) p = refl
quotient_turned (Fin (negsuc a)) (Fin (negsuc m)) p = ap Fin (sym (neg_ℤ-neg_ℤ (pos (suc a / suc m))))
quotient_turned High (Fin (negsuc m)) p = refl
quotient_turned x High p = absurd p

negative_rows : (e : Ext) → Rises IsNegative (quotient e) ⊎ Falls IsNegative (quotient e)
negative_rows e = ⊎_elim
    (λ (rises : Rises IsPositive (quotient e)). inl (λ a b u v h. rw (quotient_turned e a u, quotient_turned e b v) (negation_falls _ _ (rises (negation b) (negation a) (IsPositive-negation b v) (IsPositive-negation a u) (negation_falls a b h)))))
    (λ (falls : Falls IsPositive (quotient e)). inr (λ a b u v h. rw (quotient_turned e a u, quotient_turned e b v) (negation_falls _ _ (falls (negation b) (negation a) (IsPositive-negation b v) (IsPositive-negation a u) (negation_falls a b h)))))
    (positive_rows e)

negative_columns : (e : Ext) → IsNegative e → Rises AnyEnd (λ x. quotient x e) ⊎ Falls AnyEnd (λ x. quotient x e)
negative_columns e p = ⊎_elim
    (λ (rises : Rises AnyEnd (λ x. quotient x (negation e))). inr (λ a b u v h. rw (quotient_turned a e p, quotient_turned b e p) (negation_falls _ _ (rises a b u v h))))
    (λ (falls : Falls AnyEnd (λ x. quotient x (negation e))). inl (λ a b u v h. rw (quotient_turned a e p, quotient_turned b e p) (negation_falls _ _ (falls a b u v h))))
    (positive_columns (negation e) (IsPositive-negation e p))

-- ---- the corners

pub ends_low : (a b c d x y : Ext) → AtMost a x → AtMost x b → AtMost c y → AtMost y d → (IsPositive c ⊎ IsNegative d) → AtMost (least_of (quotient a c) (quotient a d) (quotient b c) (quotient b d)) (quotient x y)
ends_low a b c d x y h k i j one_side = ⊎_elim
    (λ (p : IsPositive c). let q = IsPositive_up c y i p in corners_low quotient IsPositive positive_rows positive_columns a b c d x y h k i j p q (IsPositive_up y d j q))
    (λ (p : IsNegative d). let q = IsNegative_down y d j p in corners_low quotient IsNegative negative_rows negative_columns a b c d x y h k i j (IsNegative_down c y i q) q p)
    one_side

pub ends_high : (a b c d x y : Ext) → AtMost a x → AtMost x b → AtMost c y → AtMost y d → (IsPositive c ⊎ IsNegative d) → AtMost (quotient x y) (greatest_of (quotient a c) (quotient a d) (quotient b c) (quotient b d))
ends_high a b c d x y h k i j one_side = ⊎_elim
    (λ (p : IsPositive c). let q = IsPositive_up c y i p in corners_high quotient IsPositive positive_rows positive_columns a b c d x y h k i j p q (IsPositive_up y d j q))
    (λ (p : IsNegative d). let q = IsNegative_down y d j p in corners_high quotient IsNegative negative_rows negative_columns a b c d x y h k i j (IsNegative_down c y i q) q p)
    one_side

-- the quotient of a number between `a` and `b` by one between `c` and `d`, with 0 not between them, is not below the least quotient of the ends ..
pub quotient_corners_low : (a b c d : Ext) (x y : ℤ) → Below a x → Above b x → Below c y → Above d y → (IsPositive c ⊎ IsNegative d) → Below (least_corner quotient a b c d) (int_div x y)
quotient_corners_low a b c d x y h k i j one_side =
    Below-from_at_most _ (int_div x y) (AtMost_trans _ (least_of (quotient a c) (quotient a d) (quotient b c) (quotient b d)) (Fin (int_div x y))
    (least_of_rounded (quotient a c) (quotient a d) (quotient b c) (quotient b d))
    (ends_low a b c d (Fin x) (Fin y) (AtMost-from_below a x h) (AtMost-from_above b x k) (AtMost-from_below c y i) (AtMost-from_above d y j) one_side))

-- .. and not above the greatest
pub quotient_corners_high : (a b c d : Ext) (x y : ℤ) → Below a x → Above b x → Below c y → Above d y → (IsPositive c ⊎ IsNegative d) → Above (greatest_corner quotient a b c d) (int_div x y)
quotient_corners_high a b c d x y h k i j one_side =
    Above-from_at_most _ (int_div x y) (AtMost_trans (Fin (int_div x y)) (greatest_of (quotient a c) (quotient a d) (quotient b c) (quotient b d)) _
    (ends_high a b c d (Fin x) (Fin y) (AtMost-from_below a x h) (AtMost-from_above b x k) (AtMost-from_below c y i) (AtMost-from_above d y j) one_side)
    (greatest_of_rounded (quotient a c) (quotient a d) (quotient b c) (quotient b d)))
