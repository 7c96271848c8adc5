-- An end that is widened goes on to the next step, and its weight falls.
use Rattle.std.proofs.Common.{◌≡◌, ℤ, pos, neg_ℤ, ◌^◌, ◌+◌, ◌<◌, ◌≤◌, ◌≤ℤ◌, ◌<ℤ◌, List, [], ◌∷◌, Option, None, Some, All, cond, true, false, refl, sym, ◌∙◌, subst, arith, FitsSigned}
use Rattle.std.specs.Prelude.{Bool, IsTrue, ◌&&◌}
use Rattle.std.specs.Int.{int_min, int_max}
use Rattle.std.specs.Int.RustNames.{int_le}
use Rattle.std.proofs.lemmas.Int.{ints, by_lt_z}
use Rattle.std.proofs.lemmas.List.Elements.{All-head, All-tail}
use mir.Syntax.{w128}
use Rattle.num_api.specs.Steps.{IsSmall, least, greatest, steps_above, steps_below}
use Rattle.num_api.proofs.StepLemmas.{least-hit, least-miss}
use Rattle.num_api.proofs.WeightLemmas.{least-ge, above-falls, greatest-le, below-falls}
use Rattle.ext_int.specs.declared.Ext.{Ext}
use Rattle.ext_int.specs.declared.Ext.TheVariants.{Low, Fin, High}
use Rattle.ext_int.specs.Ext.{Below, Above, AtMost, holds_number}
use Rattle.ext_int.proofs.Ends.{AtMost_refl, AtMost_trans, AtMost-from_below, AtMost-from_above, Below-from_at_most, Above-from_at_most, number_between}
use Rattle.num_api.specs.Weight.{weight_above, weight_below}
use Rattle.intervals.specs.declared.Interval.{Interval}
use Rattle.intervals.specs.Interval.{Admits, least_end, greatest_end}
use Rattle.intervals.specs.Order.{is_at_most, includes}
use Rattle.intervals.specs.Widening.{step_or, step_above, step_below, raised, lowered}
use Rattle.intervals.proofs.Comparisons.{AtMost-true}

-- ---- numbers past all steps

pub small-fits : (s : ℤ) → IsSmall s → FitsSigned w128 s
small-fits s small = omega (arith, ints, small.low, small.high)

-- past the greatest size there is no step
pub no_step_above : (xs : List ℤ) (n : ℤ) → All IsSmall xs → pos (2 ^ 100) <ℤ n → least xs n ≡ None
no_step_above [] n small h = refl
no_step_above (x ∷ xs) n small h =
    let at_x = All-head IsSmall x xs small in
    least-miss x n xs (omega (arith, ints, at_x.high)) ∙ no_step_above xs n (All-tail IsSmall x xs small) h

pub no_step_below : (xs : List ℤ) (n : ℤ) → All IsSmall xs → n <ℤ neg_ℤ (pos (2 ^ 100)) → greatest xs n ≡ None
no_step_below [] n small h = refl
no_step_below (x ∷ xs) n small h =
    let at_x = All-head IsSmall x xs small in
    let rest = no_step_below xs n (All-tail IsSmall x xs small) h in
    let none : cond (int_le x n) (Some x) None ≡ None = missed x n (omega (arith, ints, at_x.low)) in
    rw (rest, none) refl
  where
    missed : (x n : ℤ) → n <ℤ x → cond (int_le x n) (Some x) None ≡ None
    missed x n h = grind (arith, ints)

-- below it the next step is the first one
pub same_above : (xs : List ℤ) (n m : ℤ) → All IsSmall xs → m ≡ int_max n (neg_ℤ (pos (2 ^ 100))) → least xs m ≡ least xs n
same_above [] n m small e = refl
same_above (x ∷ xs) n m small e =
    let at_x = All-head IsSmall x xs small in
    let rest = same_above xs n m (All-tail IsSmall x xs small) e in
    by_lt_z x n
    (λ below. least-miss x m xs (over x n m e below) ∙ rest ∙ sym (least-miss x n xs below))
    (λ above. least-hit x m xs (under x n m e above at_x.low) ∙ sym (least-hit x n xs above))
  where
    over : (x n m : ℤ) → m ≡ int_max n (neg_ℤ (pos (2 ^ 100))) → x <ℤ n → x <ℤ m
    over x n m e h = grind (arith, ints)

    under : (x n m : ℤ) → m ≡ int_max n (neg_ℤ (pos (2 ^ 100))) → n ≤ℤ x → neg_ℤ (pos (2 ^ 100)) ≤ℤ x → m ≤ℤ x
    under x n m e h k = grind (arith, ints)

pub same_below : (xs : List ℤ) (n m : ℤ) → All IsSmall xs → m ≡ int_min n (pos (2 ^ 100)) → greatest xs m ≡ greatest xs n
same_below [] n m small e = refl
same_below (x ∷ xs) n m small e =
    let at_x = All-head IsSmall x xs small in
    let rest = same_below xs n m (All-tail IsSmall x xs small) e in
    let same : int_le x m ≡ int_le x n = same_test x n m e at_x.high in
    rw (rest, same) refl
  where
    same_test : (x n m : ℤ) → m ≡ int_min n (pos (2 ^ 100)) → x ≤ℤ pos (2 ^ 100) → int_le x m ≡ int_le x n
    same_test x n m e h = by_lt_z n x
        (λ over. let f : int_le x n ≡ false = grind (arith, ints) in let g : int_le x m ≡ false = grind (arith, ints) in g ∙ sym f)
        (λ under. let f : int_le x n ≡ true = grind (arith, ints) in let g : int_le x m ≡ true = grind (arith, ints) in g ∙ sym f)

-- ---- an upper end

-- a step for an end that is above the old one
step_up : (xs : List ℤ) (old : Ext) (n : ℤ) → AtMost old (Fin n) → AtMost (Fin n) (step_above xs (Fin n))
step_up xs old n h = by_step (least xs n) refl
  where
    by_step : (o : Option ℤ) → least xs n ≡ o → AtMost (Fin n) (step_or High o)
    by_step None e = tt
    by_step (Some s) e = least-ge xs n s e

not_at_most : (a b : Ext) → is_at_most a b ≡ false → AtMost b a
not_at_most Low b e = cc
not_at_most (Fin x) Low e = tt
not_at_most (Fin x) (Fin y) e = grind (arith, ints)
not_at_most (Fin x) High e = cc
not_at_most High Low e = tt
not_at_most High (Fin y) e = tt
not_at_most High High e = cc

next_up : (xs : List ℤ) (next : Ext) → AtMost next (step_above xs next)
next_up xs Low = tt
next_up xs (Fin n) = step_up xs (Fin n) n (omega (arith, ints))
next_up xs High = tt

-- what holds of the end that stays, and of the step, holds of the raised end
by_raised : (P : Ext → Type 0) (xs : List ℤ) (old next : Ext) → (is_at_most next old ≡ true → P old) → (is_at_most next old ≡ false → P (step_above xs next)) → P (raised xs old next)
by_raised P xs old next stays goes = go (is_at_most next old) refl
  where
    go : (b : Bool) → is_at_most next old ≡ b → P (cond b old (step_above xs next))
    go true e = stays e
    go false e = goes e

pub raised-old : (xs : List ℤ) (old next : Ext) → AtMost old (raised xs old next)
raised-old xs old next = by_raised (AtMost old) xs old next
    (λ e. AtMost_refl old)
    (λ e. AtMost_trans old next (step_above xs next) (not_at_most next old e) (next_up xs next))

pub raised-next : (xs : List ℤ) (old next : Ext) → AtMost next (raised xs old next)
raised-next xs old next = by_raised (AtMost next) xs old next (λ e. AtMost-true next old e) (λ e. next_up xs next)

-- an end that is above another one has a step of less weight; an end of all numbers is never Low
step_falls : (xs : List ℤ) (old next : Ext) → (old ≡ Low → ⊥) → is_at_most next old ≡ false → weight_above xs (step_above xs next) < weight_above xs old
step_falls xs Low next not_low e = absurd (not_low refl)
step_falls xs (Fin k) Low not_low e = cc
step_falls xs (Fin k) (Fin n) not_low e = by_step (least xs n) refl
  where
    over : (k n : ℤ) → int_le n k ≡ false → k <ℤ n
    over k n e = grind (arith, ints)

    by_step : (o : Option ℤ) → least xs n ≡ o → weight_above xs (step_or High o) < steps_above xs k + 1
    by_step None is = omega arith
    by_step (Some s) is = let fewer = above-falls xs k n s is (over k n e) in omega arith
step_falls xs (Fin k) High not_low e = omega arith
step_falls xs High Low not_low e = cc
step_falls xs High (Fin n) not_low e = cc
step_falls xs High High not_low e = cc

pub raised-no_rise : (xs : List ℤ) (old next : Ext) → (old ≡ Low → ⊥) → weight_above xs (raised xs old next) ≤ weight_above xs old
raised-no_rise xs old next not_low = by_raised (λ e. weight_above xs e ≤ weight_above xs old) xs old next
    (λ e. omega arith)
    (λ e. let less = step_falls xs old next not_low e in omega arith)

pub raised-falls : (xs : List ℤ) (old next : Ext) → (old ≡ Low → ⊥) → is_at_most next old ≡ false → weight_above xs (raised xs old next) < weight_above xs old
raised-falls xs old next not_low f = by_raised (λ e. weight_above xs e < weight_above xs old) xs old next
    (λ e. let wrong : true ≡ false = sym e ∙ f in cc)
    (λ e. step_falls xs old next not_low e)

-- ---- a lower end

next_down : (xs : List ℤ) (next : Ext) → AtMost (step_below xs next) next
next_down xs Low = tt
next_down xs (Fin n) = by_step (greatest xs n) refl
  where
    by_step : (o : Option ℤ) → greatest xs n ≡ o → AtMost (step_or Low o) (Fin n)
    by_step None e = tt
    by_step (Some s) e = greatest-le xs n s e
next_down xs High = tt

by_lowered : (P : Ext → Type 0) (xs : List ℤ) (old next : Ext) → (is_at_most old next ≡ true → P old) → (is_at_most old next ≡ false → P (step_below xs next)) → P (lowered xs old next)
by_lowered P xs old next stays goes = go (is_at_most old next) refl
  where
    go : (b : Bool) → is_at_most old next ≡ b → P (cond b old (step_below xs next))
    go true e = stays e
    go false e = goes e

pub lowered-old : (xs : List ℤ) (old next : Ext) → AtMost (lowered xs old next) old
lowered-old xs old next = by_lowered (λ e. AtMost e old) xs old next
    (λ e. AtMost_refl old)
    (λ e. AtMost_trans (step_below xs next) next old (next_down xs next) (not_at_most old next e))

pub lowered-next : (xs : List ℤ) (old next : Ext) → AtMost (lowered xs old next) next
lowered-next xs old next = by_lowered (λ e. AtMost e next) xs old next (λ e. AtMost-true old next e) (λ e. next_down xs next)

down_falls : (xs : List ℤ) (old next : Ext) → (old ≡ High → ⊥) → is_at_most old next ≡ false → weight_below xs (step_below xs next) < weight_below xs old
down_falls xs High next not_high e = absurd (not_high refl)
down_falls xs (Fin k) High not_high e = cc
down_falls xs (Fin k) (Fin n) not_high e = by_step (greatest xs n) refl
  where
    under : (k n : ℤ) → int_le k n ≡ false → n <ℤ k
    under k n e = grind (arith, ints)

    by_step : (o : Option ℤ) → greatest xs n ≡ o → weight_below xs (step_or Low o) < steps_below xs k + 1
    by_step None is = omega arith
    by_step (Some s) is = let fewer = below-falls xs k n s is (under k n e) in omega arith
down_falls xs (Fin k) Low not_high e = omega arith
down_falls xs Low next not_high e = cc

pub lowered-no_rise : (xs : List ℤ) (old next : Ext) → (old ≡ High → ⊥) → weight_below xs (lowered xs old next) ≤ weight_below xs old
lowered-no_rise xs old next not_high = by_lowered (λ e. weight_below xs e ≤ weight_below xs old) xs old next
    (λ e. omega arith)
    (λ e. let less = down_falls xs old next not_high e in omega arith)

pub lowered-falls : (xs : List ℤ) (old next : Ext) → (old ≡ High → ⊥) → is_at_most old next ≡ false → weight_below xs (lowered xs old next) < weight_below xs old
lowered-falls xs old next not_high f = by_lowered (λ e. weight_below xs e < weight_below xs old) xs old next
    (λ e. let wrong : true ≡ false = sym e ∙ f in cc)
    (λ e. down_falls xs old next not_high e)

-- ---- both ends of an interval

not_low_end : (a b : Ext) → IsTrue (holds_number a b) → b ≡ Low → ⊥
not_low_end a b held e = let n = number_between a b held in subst (λ (v : Ext). Above v n.0) e n.2

not_high_end : (a b : Ext) → IsTrue (holds_number a b) → a ≡ High → ⊥
not_high_end a b held e = let n = number_between a b held in subst (λ (v : Ext). Below v n.0) e n.1

-- the ends of the first interval, widened by the second
pub record IsWidened (xs : List ℤ) (i j : Interval) (lo hi : Ext) : Type 0 where
  pub low : lo ≡ lowered xs (least_end i) (least_end j)
  pub high : hi ≡ raised xs (greatest_end i) (greatest_end j)

module _ (xs : List ℤ) (i j : Interval) (lo hi : Ext) (ends : IsWidened xs i j lo hi) where
  pub widened-left : (n : ℤ) → Admits i n → Below lo n × Above hi n
  widened-left n p = (
    subst (λ (e : Ext). Below e n) (sym ends.low) (Below-from_at_most _ n (AtMost_trans (lowered xs (least_end i) (least_end j)) (least_end i) (Fin n) (lowered-old xs (least_end i) (least_end j)) (AtMost-from_below (least_end i) n p.0))),
    subst (λ (e : Ext). Above e n) (sym ends.high) (Above-from_at_most _ n (AtMost_trans (Fin n) (greatest_end i) (raised xs (greatest_end i) (greatest_end j)) (AtMost-from_above (greatest_end i) n p.1) (raised-old xs (greatest_end i) (greatest_end j)))),
  )

  pub widened-right : (n : ℤ) → Admits j n → Below lo n × Above hi n
  widened-right n p = (
    subst (λ (e : Ext). Below e n) (sym ends.low) (Below-from_at_most _ n (AtMost_trans (lowered xs (least_end i) (least_end j)) (least_end j) (Fin n) (lowered-next xs (least_end i) (least_end j)) (AtMost-from_below (least_end j) n p.0))),
    subst (λ (e : Ext). Above e n) (sym ends.high) (Above-from_at_most _ n (AtMost_trans (Fin n) (greatest_end j) (raised xs (greatest_end i) (greatest_end j)) (AtMost-from_above (greatest_end j) n p.1) (raised-next xs (greatest_end i) (greatest_end j)))),
  )

  lighter_low : weight_below xs lo ≤ weight_below xs (least_end i)
  lighter_low = rw ends.low (lowered-no_rise xs (least_end i) (least_end j) (not_high_end (least_end i) (greatest_end i) i.holds))

  lighter_high : weight_above xs hi ≤ weight_above xs (greatest_end i)
  lighter_high = rw ends.high (raised-no_rise xs (greatest_end i) (greatest_end j) (not_low_end (least_end i) (greatest_end i) i.holds))

  pub widened-no_rise : weight_below xs lo + weight_above xs hi ≤ weight_below xs (least_end i) + weight_above xs (greatest_end i)
  widened-no_rise = let low = lighter_low in let high = lighter_high in omega arith

  pub widened-falls : includes i j ≡ false → weight_below xs lo + weight_above xs hi < weight_below xs (least_end i) + weight_above xs (greatest_end i)
  widened-falls e = by_end (is_at_most (least_end i) (least_end j)) refl e
    where
      by_end : (b : Bool) → is_at_most (least_end i) (least_end j) ≡ b → (b && is_at_most (greatest_end j) (greatest_end i)) ≡ false → weight_below xs lo + weight_above xs hi < weight_below xs (least_end i) + weight_above xs (greatest_end i)
      by_end false is e =
          let less : weight_below xs lo < weight_below xs (least_end i) = rw ends.low (lowered-falls xs (least_end i) (least_end j) (not_high_end (least_end i) (greatest_end i) i.holds) is) in
          let high = lighter_high in omega arith
      by_end true is e =
          let less : weight_above xs hi < weight_above xs (greatest_end i) = rw ends.high (raised-falls xs (greatest_end i) (greatest_end j) (not_low_end (least_end i) (greatest_end i) i.holds) e) in
          let low = lighter_low in omega arith
