-- The products of the numbers of two ranges lie between the least and the greatest product of their ends.
use Rattle.std.proofs.Common.{◌≡◌, ℕ, zero, suc, ℤ, pos, negsuc, ◌*◌, ◌≤◌, ◌*ℤ◌, ◌≤ℤ◌, ◌⊎◌, inl, inr, ⊎_elim, arith, refl, ap}
use Rattle.std.proofs.Math.Nat.{mul-le-mul_left}
use Rattle.std.proofs.Math.IntN.{*ℤ_comm, zero-*ℤ}
use Rattle.std.proofs.lemmas.Int.{ints}
use Rattle.std.specs.declared.cmp.Ordering.{Ordering}
use Rattle.std.specs.declared.cmp.Ordering.TheVariants.{Less, Equal, Greater}
use Rattle.ext_int.specs.declared.Ext.{Ext}
use Rattle.ext_int.specs.declared.Ext.TheVariants.{Low, Fin, High}
use Rattle.ext_int.specs.Ext.{Below, Above, AtMost, least_of, greatest_of, least_corner, greatest_corner, side, infinite_product, product}
use Rattle.ext_int.proofs.Ends.{neg-le, neg-le-pos, AtMost_trans, AtMost-from_below, AtMost-from_above, Below-from_at_most, Above-from_at_most, least_of_rounded, greatest_of_rounded}
use Rattle.ext_int.proofs.Corners.{Rises, Falls, AnyEnd, corners_low, corners_high}

-- ---- one factor fixed

pub mul-le_pos : (n : ℕ) (a b : ℤ) → a ≤ℤ b → (pos n *ℤ a) ≤ℤ (pos n *ℤ b)
mul-le_pos n (pos a) (pos b) h = let k : a ≤ b = omega (arith, ints) in let m = mul-le-mul_left n k in omega (arith, ints)
mul-le_pos n (pos a) (negsuc b) h = absurd (omega (arith, ints))
mul-le_pos n (negsuc a) (pos b) h = neg-le-pos (n * suc a) (n * b)
mul-le_pos n (negsuc a) (negsuc b) h = let k : suc b ≤ suc a = omega (arith, ints) in neg-le (n * suc b) (n * suc a) (mul-le-mul_left n k)

pub mul-le_neg : (n : ℕ) (a b : ℤ) → a ≤ℤ b → (negsuc n *ℤ b) ≤ℤ (negsuc n *ℤ a)
mul-le_neg n (pos a) (pos b) h = let k : a ≤ b = omega (arith, ints) in neg-le (suc n * a) (suc n * b) (mul-le-mul_left (suc n) k)
mul-le_neg n (pos a) (negsuc b) h = absurd (omega (arith, ints))
mul-le_neg n (negsuc a) (pos b) h = neg-le-pos (suc n * b) (suc n * suc a)
mul-le_neg n (negsuc a) (negsuc b) h = let k : suc b ≤ suc a = omega (arith, ints) in let m = mul-le-mul_left (suc n) k in omega (arith, ints)

-- an infinite end times an end
high-rises : (a b : Ext) → AtMost a b → AtMost (infinite_product Greater (side a)) (infinite_product Greater (side b))
high-rises Low b h = tt
high-rises (Fin (negsuc n)) b h = tt
high-rises (Fin (pos zero)) Low h = absurd h
high-rises (Fin (pos zero)) (Fin (pos zero)) h = omega (arith, ints)
high-rises (Fin (pos zero)) (Fin (pos (suc m))) h = tt
high-rises (Fin (pos zero)) (Fin (negsuc m)) h = absurd (omega (arith, ints))
high-rises (Fin (pos zero)) High h = tt
high-rises (Fin (pos (suc n))) Low h = absurd h
high-rises (Fin (pos (suc n))) (Fin (pos zero)) h = absurd (omega (arith, ints))
high-rises (Fin (pos (suc n))) (Fin (pos (suc m))) h = tt
high-rises (Fin (pos (suc n))) (Fin (negsuc m)) h = absurd (omega (arith, ints))
high-rises (Fin (pos (suc n))) High h = tt
high-rises High Low h = absurd h
high-rises High (Fin y) h = absurd h
high-rises High High h = tt

low-falls : (a b : Ext) → AtMost a b → AtMost (infinite_product Less (side b)) (infinite_product Less (side a))
low-falls a High h = tt
low-falls a (Fin (pos (suc n))) h = tt
low-falls Low Low h = tt
low-falls Low (Fin (pos zero)) h = tt
low-falls Low (Fin (negsuc m)) h = tt
low-falls (Fin x) Low h = absurd h
low-falls (Fin (pos zero)) (Fin (pos zero)) h = omega (arith, ints)
low-falls (Fin (pos (suc n))) (Fin (pos zero)) h = absurd (omega (arith, ints))
low-falls (Fin (negsuc n)) (Fin (pos zero)) h = tt
low-falls (Fin (pos n)) (Fin (negsuc m)) h = absurd (omega (arith, ints))
low-falls (Fin (negsuc n)) (Fin (negsuc m)) h = tt
low-falls High Low h = absurd h
low-falls High (Fin (pos zero)) h = absurd h
low-falls High (Fin (negsuc m)) h = absurd h

zero-rises : Rises AnyEnd (product (Fin (pos zero)))
zero-rises Low Low u v h = omega (arith, ints)
zero-rises Low (Fin y) u v h = omega (arith, ints, zero-*ℤ y)
zero-rises Low High u v h = omega (arith, ints)
zero-rises (Fin x) Low u v h = absurd h
zero-rises (Fin x) (Fin y) u v h = mul-le_pos 0 x y h
zero-rises (Fin x) High u v h = omega (arith, ints, zero-*ℤ x)
zero-rises High Low u v h = absurd h
zero-rises High (Fin y) u v h = absurd h
zero-rises High High u v h = omega (arith, ints)

positive-rises : (n : ℕ) → Rises AnyEnd (product (Fin (pos (suc n))))
positive-rises n Low b u v h = tt
positive-rises n (Fin x) Low u v h = absurd h
positive-rises n (Fin x) (Fin y) u v h = mul-le_pos (suc n) x y h
positive-rises n (Fin x) High u v h = tt
positive-rises n High Low u v h = absurd h
positive-rises n High (Fin y) u v h = absurd h
positive-rises n High High u v h = tt

negative-falls : (n : ℕ) → Falls AnyEnd (product (Fin (negsuc n)))
negative-falls n Low Low u v h = tt
negative-falls n Low (Fin y) u v h = tt
negative-falls n Low High u v h = tt
negative-falls n (Fin x) Low u v h = absurd h
negative-falls n (Fin x) (Fin y) u v h = mul-le_neg n x y h
negative-falls n (Fin x) High u v h = tt
negative-falls n High Low u v h = absurd h
negative-falls n High (Fin y) u v h = absurd h
negative-falls n High High u v h = tt

pub product_turns : (e : Ext) → Rises AnyEnd (product e) ⊎ Falls AnyEnd (product e)
product_turns Low = inr (λ a b u v h. low-falls a b h)
product_turns (Fin (pos zero)) = inl zero-rises
product_turns (Fin (pos (suc n))) = inl (positive-rises n)
product_turns (Fin (negsuc n)) = inr (negative-falls n)
product_turns High = inl (λ a b u v h. high-rises a b h)

-- ---- the other factor

infinite_product_comm : (s t : Ordering) → infinite_product s t ≡ infinite_product t s
infinite_product_comm Less Less = refl
infinite_product_comm Less Equal = refl
infinite_product_comm Less Greater = refl
infinite_product_comm Equal Less = refl
infinite_product_comm Equal Equal = refl
infinite_product_comm Equal Greater = refl
infinite_product_comm Greater Less = refl
infinite_product_comm Greater Equal = refl
infinite_product_comm Greater Greater = refl

pub product_comm : (a b : Ext) → product a b ≡ product b a
product_comm Low Low = refl
product_comm Low (Fin y) = infinite_product_comm Less (side (Fin y))
product_comm Low High = refl
product_comm (Fin x) Low = infinite_product_comm (side (Fin x)) Less
product_comm (Fin x) (Fin y) = ap Fin (*ℤ_comm x y)
product_comm (Fin x) High = infinite_product_comm (side (Fin x)) Greater
product_comm High Low = refl
product_comm High (Fin y) = infinite_product_comm Greater (side (Fin y))
product_comm High High = refl

pub product_turns_first : (e : Ext) → Rises AnyEnd (λ x. product x e) ⊎ Falls AnyEnd (λ x. product x e)
product_turns_first e = ⊎_elim
    (λ (rises : Rises AnyEnd (product e)). inl (λ a b u v h. rw (product_comm a e, product_comm b e) (rises a b u v h)))
    (λ (falls : Falls AnyEnd (product e)). inr (λ a b u v h. rw (product_comm a e, product_comm b e) (falls a b u v h)))
    (product_turns e)

-- ---- the corners

-- the product of a number between `a` and `b` and one between `c` and `d` is not below the least product of the ends ..
pub product_corners_low : (a b c d : Ext) (x y : ℤ) → Below a x → Above b x → Below c y → Above d y → Below (least_corner product a b c d) (x *ℤ y)
product_corners_low a b c d x y h k i j =
    Below-from_at_most _ (x *ℤ y) (AtMost_trans _ (least_of (product a c) (product a d) (product b c) (product b d)) (Fin (x *ℤ y))
    (least_of_rounded (product a c) (product a d) (product b c) (product b d))
    (corners_low product AnyEnd product_turns (λ e _. product_turns_first e) a b c d (Fin x) (Fin y) (AtMost-from_below a x h) (AtMost-from_above b x k) (AtMost-from_below c y i) (AtMost-from_above d y j) tt tt tt))

-- .. and not above the greatest
pub product_corners_high : (a b c d : Ext) (x y : ℤ) → Below a x → Above b x → Below c y → Above d y → Above (greatest_corner product a b c d) (x *ℤ y)
product_corners_high a b c d x y h k i j =
    Above-from_at_most _ (x *ℤ y) (AtMost_trans (Fin (x *ℤ y)) (greatest_of (product a c) (product a d) (product b c) (product b d)) _
    (corners_high product AnyEnd product_turns (λ e _. product_turns_first e) a b c d (Fin x) (Fin y) (AtMost-from_below a x h) (AtMost-from_above b x k) (AtMost-from_below c y i) (AtMost-from_above d y j) tt tt tt)
    (greatest_of_rounded (product a c) (product a d) (product b c) (product b d)))
