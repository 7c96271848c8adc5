-- Intervals inside spans.
use Rattle.std.proofs.Common.{◌≡◌, ℤ, ◌≤ℤ◌, arith, sym, subst}
use Rattle.std.proofs.lemmas.Int.{ints}
use Rattle.ext_int.specs.declared.Ext.{Ext}
use Rattle.ext_int.specs.declared.Ext.TheVariants.{Low, Fin, High}
use Rattle.ext_int.specs.Ext.{Below, Above, AtMost, IsNumber}
use Rattle.ext_int.proofs.Ends.{AtMost_trans, AtMost-from_below, AtMost-from_above, number_between}
use Rattle.num_api.specs.Spans.{Span, point}
use Rattle.intervals.specs.declared.Interval.{Interval}
use Rattle.intervals.specs.Interval.{Admits, IsPoint, IsFinite, IsBetween, IsWithin, least_end, greatest_end}

-- each number of the interval is in the span
pub within_number : (s : Span) (a : Interval) (x : ℤ) → IsWithin s a → Admits a x → IsBetween s.lo s.hi x
within_number s a x within at_x = (
  AtMost_trans (Fin s.lo) (least_end a) (Fin x) within.0 (AtMost-from_below (least_end a) x at_x.0),
  AtMost_trans (Fin x) (greatest_end a) (Fin s.hi) (AtMost-from_above (greatest_end a) x at_x.1) within.1,
)

low_number : (e : Ext) (k n : ℤ) → AtMost (Fin k) e → Below e n → IsNumber e
low_number Low k n h b = h
low_number (Fin x) k n h b = tt
low_number High k n h b = b

high_number : (e : Ext) (k n : ℤ) → AtMost e (Fin k) → Above e n → IsNumber e
high_number Low k n h b = b
high_number (Fin x) k n h b = tt
high_number High k n h b = h

-- its ends are numbers
pub within_finite : (s : Span) (a : Interval) → IsWithin s a → IsFinite a
within_finite s a within =
    let n = number_between (least_end a) (greatest_end a) a.holds in
    (low_number (least_end a) s.lo n.0 within.0 n.1, high_number (greatest_end a) s.hi n.0 within.1 n.2)

-- a point is inside the span of its number
pub point_within : (a : Interval) (x : ℤ) → IsPoint a x → IsWithin (point x) a
point_within a x at_x =
    let self : x ≤ℤ x = omega (arith, ints) in
    (subst (λ (e : Ext). AtMost (Fin x) e) (sym at_x.0) self, subst (λ (e : Ext). AtMost e (Fin x)) (sym at_x.1) self)

-- an end between a number and itself is that number
end_same : (e : Ext) (x : ℤ) → AtMost (Fin x) e → AtMost e (Fin x) → e ≡ Fin x
end_same Low x h k = absurd h
end_same (Fin y) x h k = let same : y ≡ x = omega (arith, ints) in cc
end_same High x h k = absurd k

pub ends_in_order : (a : Interval) → AtMost (least_end a) (greatest_end a)
ends_in_order a =
    let n = number_between (least_end a) (greatest_end a) a.holds in
    AtMost_trans (least_end a) (Fin n.0) (greatest_end a) (AtMost-from_below (least_end a) n.0 n.1) (AtMost-from_above (greatest_end a) n.0 n.2)

-- an interval inside a span of one number is that point
pub within_point : (s : Span) (a : Interval) → s.lo ≡ s.hi → IsWithin s a → IsPoint a s.lo
within_point s a same within =
    let high : AtMost (greatest_end a) (Fin s.lo) = subst (λ (x : ℤ). AtMost (greatest_end a) (Fin x)) (sym same) within.1 in
    let order = ends_in_order a in (
      end_same (least_end a) s.lo within.0 (AtMost_trans (least_end a) (greatest_end a) (Fin s.lo) order high),
      end_same (greatest_end a) s.lo (AtMost_trans (Fin s.lo) (least_end a) (greatest_end a) within.0 order) high,
    )

-- the number of a point is the only one
pub only_number : (a : Interval) (n m : ℤ) → IsPoint a n → Admits a m → m ≡ n
only_number a n m at_n at_m =
    let low : n ≤ℤ m = subst (λ (e : Ext). Below e m) at_n.0 at_m.0 in
    let high : m ≤ℤ n = subst (λ (e : Ext). Above e m) at_n.1 at_m.1 in
    omega (arith, ints)

pub has_number : (a : Interval) (n : ℤ) → IsPoint a n → Admits a n
has_number a n at_n =
    let self : n ≤ℤ n = omega (arith, ints) in
    (subst (λ (e : Ext). Below e n) (sym at_n.0) self, subst (λ (e : Ext). Above e n) (sym at_n.1) self)

pub same_point : (a : Interval) (n m : ℤ) → IsPoint a n → IsPoint a m → m ≡ n
same_point a n m at_n at_m = only_number a n m at_n (has_number a m at_m)
