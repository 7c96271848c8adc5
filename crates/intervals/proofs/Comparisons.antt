-- What comparisons carry over to intervals.
use Rattle.std.proofs.Common.{◌≡◌, ℤ, pos, ◌≤ℤ◌, ◌<ℤ◌, Some, arith, refl, sym, ◌∙◌, ap, subst}
use Rattle.std.specs.Prelude.{Bool, true, false, not, ◌&&◌, ◌||◌}
use Rattle.std.specs.Int.RustNames.{int_le, int_lt}
use Rattle.std.specs.Ordering.{int_eq}
use Rattle.std.proofs.lemmas.Int.{ints, by_lt_z}
use Rattle.std.proofs.lemmas.Bool.Decides.{Decides-int_eq}
use Rattle.ext_int.specs.declared.Ext.{Ext}
use Rattle.ext_int.specs.declared.Ext.TheVariants.{Low, Fin, High}
use Rattle.ext_int.specs.Ext.{Below, Above, AtMost}
use Rattle.ext_int.proofs.Ends.{AtMost_trans, AtMost-from_below, AtMost-from_above}
use Rattle.num_api.specs.declared.expr.NOp.{NOp}
use Rattle.num_api.specs.declared.expr.NOp.TheVariants.{Eq, Ne, Lt, Le}
use Rattle.num_api.specs.Value.{binary_value, truth}
use Rattle.num_api.specs.Spans as spans
use Rattle.num_api.specs.Spans.{Span, FitsSpan, point, tests, unary_span, binary_span}
use Rattle.intervals.specs.declared.Interval.{Interval}
use Rattle.intervals.specs.Interval.{Admits, IsPoint, IsWithin, least_end, greatest_end}
use Rattle.intervals.specs.Order.{is_at_most, is_before, may_equal, may_differ, may_be_less, may_be_at_most}
use Rattle.intervals.specs.Operations.{Carries, IsTests}
use Rattle.intervals.proofs.Carried.{some_same}
use Rattle.intervals.proofs.Inside.{has_number, point_within}

-- ---- tests of ends

pub at_most-true : (a b : Ext) → AtMost a b → is_at_most a b ≡ true
at_most-true Low b h = refl
at_most-true (Fin x) Low h = absurd h
at_most-true (Fin x) (Fin y) h = grind (arith, ints)
at_most-true (Fin x) High h = refl
at_most-true High Low h = absurd h
at_most-true High (Fin y) h = absurd h
at_most-true High High h = refl

pub AtMost-true : (a b : Ext) → is_at_most a b ≡ true → AtMost a b
AtMost-true Low b h = tt
AtMost-true (Fin x) Low h = cc
AtMost-true (Fin x) (Fin y) h = grind (arith, ints)
AtMost-true (Fin x) High h = tt
AtMost-true High Low h = cc
AtMost-true High (Fin y) h = cc
AtMost-true High High h = tt

-- an end is before another one where it is before an end that is not above that one
before_up : (a b c : Ext) → is_before a b ≡ true → AtMost b c → is_before a c ≡ true
before_up Low Low c h k = cc
before_up Low (Fin y) Low h k = absurd k
before_up Low (Fin y) (Fin z) h k = refl
before_up Low (Fin y) High h k = refl
before_up Low High Low h k = absurd k
before_up Low High (Fin z) h k = absurd k
before_up Low High High h k = refl
before_up (Fin x) Low c h k = cc
before_up (Fin x) (Fin y) Low h k = absurd k
before_up (Fin x) (Fin y) (Fin z) h k = grind (arith, ints)
before_up (Fin x) (Fin y) High h k = refl
before_up (Fin x) High Low h k = absurd k
before_up (Fin x) High (Fin z) h k = absurd k
before_up (Fin x) High High h k = refl
before_up High b c h k = cc

before_down : (a b c : Ext) → AtMost a b → is_before b c ≡ true → is_before a c ≡ true
before_down Low Low c h k = k
before_down Low (Fin y) Low h k = cc
before_down Low (Fin y) (Fin z) h k = refl
before_down Low (Fin y) High h k = refl
before_down Low High c h k = cc
before_down (Fin x) Low c h k = absurd h
before_down (Fin x) (Fin y) Low h k = cc
before_down (Fin x) (Fin y) (Fin z) h k = grind (arith, ints)
before_down (Fin x) (Fin y) High h k = refl
before_down (Fin x) High c h k = cc
before_down High Low c h k = absurd h
before_down High (Fin y) c h k = absurd h
before_down High High c h k = k

-- ---- one comparison

-- the interval test tells where the comparison may hold: wherever it holds, only where the rule says so, and only where it does at points
record Tells (test : ℤ → ℤ → Bool) (rule : Span → Span → Bool) (a b : Interval) (may : Bool) : Type 0 where
  some : (x y : ℤ) → Admits a x → Admits b y → test x y ≡ true → may ≡ true
  only : (s t : Span) → IsWithin s a → IsWithin t b → may ≡ true → rule s t ≡ true
  exact : (x y : ℤ) → IsPoint a x → IsPoint b y → may ≡ true → test x y ≡ true

less_some : (a b : Interval) (x y : ℤ) → Admits a x → Admits b y → int_lt x y ≡ true → may_be_less a b ≡ true
less_some a b x y p q e =
    before_down (least_end a) (Fin x) (greatest_end b) (AtMost-from_below (least_end a) x p.0)
    (before_up (Fin x) (Fin y) (greatest_end b) e (AtMost-from_above (greatest_end b) y q.1))

less_only : (a b : Interval) (s t : Span) → IsWithin s a → IsWithin t b → may_be_less a b ≡ true → int_lt s.lo t.hi ≡ true
less_only a b s t p q e = before_down (Fin s.lo) (least_end a) (Fin t.hi) p.0 (before_up (least_end a) (greatest_end b) (Fin t.hi) e q.1)

tells_less : (a b : Interval) → Tells int_lt spans.may_be_less a b (may_be_less a b)
tells_less a b = record {
  some = less_some a b;
  only = less_only a b;
  exact = λ x y p q e. less_only a b (point x) (point y) (point_within a x p) (point_within b y q) e;
}

at_most_some : (a b : Interval) (x y : ℤ) → Admits a x → Admits b y → int_le x y ≡ true → may_be_at_most a b ≡ true
at_most_some a b x y p q e =
    let order : x ≤ℤ y = grind (arith, ints) in
    at_most-true (least_end a) (greatest_end b)
    (AtMost_trans (least_end a) (Fin x) (greatest_end b) (AtMost-from_below (least_end a) x p.0)
    (AtMost_trans (Fin x) (Fin y) (greatest_end b) order (AtMost-from_above (greatest_end b) y q.1)))

at_most_only : (a b : Interval) (s t : Span) → IsWithin s a → IsWithin t b → may_be_at_most a b ≡ true → int_le s.lo t.hi ≡ true
at_most_only a b s t p q e =
    at_most-true (Fin s.lo) (Fin t.hi)
    (AtMost_trans (Fin s.lo) (least_end a) (Fin t.hi) p.0
    (AtMost_trans (least_end a) (greatest_end b) (Fin t.hi) (AtMost-true (least_end a) (greatest_end b) e) q.1))

tells_at_most : (a b : Interval) → Tells int_le spans.may_be_at_most a b (may_be_at_most a b)
tells_at_most a b = record {
  some = at_most_some a b;
  only = at_most_only a b;
  exact = λ x y p q e. at_most_only a b (point x) (point y) (point_within a x p) (point_within b y q) e;
}

-- ---- two comparisons, one with the sides exchanged

and-true : (p q : Bool) → p ≡ true → q ≡ true → (p && q) ≡ true
and-true p q e f = rw (e, f) refl

and-first : (p q : Bool) → (p && q) ≡ true → p ≡ true
and-first true q e = refl
and-first false q e = e

and-second : (p q : Bool) → (p && q) ≡ true → q ≡ true
and-second true q e = e
and-second false q e = cc

equal-le : (x y : ℤ) → int_eq x y ≡ true → (int_le x y ≡ true) × (int_le y x ≡ true)
equal-le x y e = let same : x ≡ y = (Decides-int_eq x y).0 e in (grind (arith, ints), grind (arith, ints))

le-equal : (x y : ℤ) → int_le x y ≡ true → int_le y x ≡ true → int_eq x y ≡ true
le-equal x y e f = (Decides-int_eq x y).1 (let h : x ≤ℤ y = grind (arith, ints) in let k : y ≤ℤ x = grind (arith, ints) in omega (arith, ints))

tells_equal : (a b : Interval) → Tells int_eq spans.may_equal a b (may_equal a b)
tells_equal a b = record {
  some = λ x y p q e. let both = equal-le x y e in and-true _ _ (at_most_some a b x y p q both.0) (at_most_some b a y x q p both.1);
  only = λ s t p q e. and-true _ _ (at_most_only a b s t p q (and-first _ _ e)) (at_most_only b a t s q p (and-second _ _ e));
  exact = λ x y p q e.
      le-equal x y (at_most_only a b (point x) (point y) (point_within a x p) (point_within b y q) (and-first _ _ e))
      (at_most_only b a (point y) (point x) (point_within b y q) (point_within a x p) (and-second _ _ e));
}

-- what follows from either of two
either : {P : Type 0} (p q : Bool) → (p ≡ true → P) → (q ≡ true → P) → (p || q) ≡ true → P
either true q f g e = f refl
either false q f g e = g e

or-first : (p q : Bool) → p ≡ true → (p || q) ≡ true
or-first p q e = rw e refl

or-second : (p q : Bool) → q ≡ true → (p || q) ≡ true
or-second true q e = refl
or-second false q e = e

abbrev other : ℤ → ℤ → Bool
other x y = not (int_eq x y)

other_less : (x y : ℤ) → other x y ≡ true → (int_lt x y || int_lt y x) ≡ true
other_less x y e = by_lt_z x y
    (λ below. let test : int_lt x y ≡ true = grind (arith, ints) in or-first _ _ test)
    (λ over. by_lt_z y x
    (λ above. let test : int_lt y x ≡ true = grind (arith, ints) in or-second _ _ test)
    (λ under. let same : x ≡ y = omega (arith, ints) in let test = (Decides-int_eq x y).1 same in absurd (cc (rw test at e))))

less_other : (x y : ℤ) → (int_lt x y || int_lt y x) ≡ true → other x y ≡ true
less_other x y e = either (int_lt x y) (int_lt y x)
    (λ less. apart x y (λ same. let order : x <ℤ y = grind (arith, ints) in omega (arith, ints)))
    (λ less. apart x y (λ same. let order : y <ℤ x = grind (arith, ints) in omega (arith, ints)))
    e
  where
    apart_by : (b : Bool) → (b ≡ true → ⊥) → not b ≡ true
    apart_by true never = absurd (never refl)
    apart_by false never = refl

    apart : (x y : ℤ) → (x ≡ y → ⊥) → other x y ≡ true
    apart x y never = apart_by (int_eq x y) (λ e. never ((Decides-int_eq x y).0 e))

other_only : (a b : Interval) (s t : Span) → IsWithin s a → IsWithin t b → may_differ a b ≡ true → spans.may_differ s t ≡ true
other_only a b s t p q e = either _ _
    (λ may. or-first _ _ (less_only a b s t p q may))
    (λ may. or-second _ _ (less_only b a t s q p may))
    e

tells_other : (a b : Interval) → Tells other spans.may_differ a b (may_differ a b)
tells_other a b = record {
  some = λ x y p q e. either (int_lt x y) (int_lt y x)
      (λ less. or-first _ _ (less_some a b x y p q less))
      (λ less. or-second _ _ (less_some b a y x q p less))
      (other_less x y e);
  only = other_only a b;
  exact = λ x y p q e. less_other x y (other_only a b (point x) (point y) (point_within a x p) (point_within b y q) e);
}

-- ---- 0, 1 or both

-- the test fails where its opposite holds
abbrev opposite : (ℤ → ℤ → Bool) → ℤ → ℤ → Bool
opposite test x y = not (test x y)

truth_between : (b hold fail : Bool) → (b ≡ true → hold ≡ true) → (not b ≡ true → fail ≡ true) → (truth (not fail) ≤ℤ truth b) × (truth b ≤ℤ truth hold)
truth_between true hold fail f g = let e = f refl in rw e (at_most_one (not fail), omega (arith, ints))
  where
    at_most_one : (b : Bool) → truth b ≤ℤ pos 1
    at_most_one true = omega (arith, ints)
    at_most_one false = omega (arith, ints)
truth_between false hold fail f g = let e = g refl in rw e (omega (arith, ints), at_least_zero hold)
  where
    at_least_zero : (b : Bool) → pos 0 ≤ℤ truth b
    at_least_zero true = omega (arith, ints)
    at_least_zero false = omega (arith, ints)

same_truth : (b hold fail : Bool) → (b ≡ true → hold ≡ true) → (not b ≡ true → fail ≡ true) → (hold ≡ true → b ≡ true) → (fail ≡ true → not b ≡ true) → (truth (not fail) ≡ truth b) × (truth hold ≡ truth b)
same_truth true hold true f g h k = absurd (cc (k refl))
same_truth true hold false f g h k = let e = f refl in rw e (refl, refl)
same_truth false true fail f g h k = absurd (cc (h refl))
same_truth false false fail f g h k = let e = g refl in rw e (refl, refl)

truth_rises : (p q : Bool) → (p ≡ true → q ≡ true) → truth p ≤ℤ truth q
truth_rises true q f = let e = f refl in rw e (omega (arith, ints))
truth_rises false true f = omega (arith, ints)
truth_rises false false f = omega (arith, ints)

truth_falls : (p q : Bool) → (p ≡ true → q ≡ true) → truth (not q) ≤ℤ truth (not p)
truth_falls true q f = let e = f refl in rw e (omega (arith, ints))
truth_falls false true f = omega (arith, ints)
truth_falls false false f = omega (arith, ints)

carries_test : (op : NOp) (test : ℤ → ℤ → Bool) (rule fails : Span → Span → Bool) (a b r : Interval) (hold fail : Bool) → ((x y : ℤ) → binary_value op x y ≡ Some (truth (test x y))) → ((s t : Span) → binary_span op s t ≡ Some (tests (rule s t) (fails s t))) → Tells test rule a b hold → Tells (opposite test) fails a b fail → IsTests hold fail r → Carries op a b r
carries_test op test rule fails a b r hold fail value plain holding failing answer = record {
  holds = λ x y n p q e.
      let between = truth_between (test x y) hold fail (holding.some x y p q) (failing.some x y p q) in
      subst (λ (z : ℤ). Admits r z) (some_same _ _ (sym (value x y) ∙ e))
      (subst (λ (v : Ext). Below v (truth (test x y))) (sym answer.low) between.0, subst (λ (v : Ext). Above v (truth (test x y))) (sym answer.high) between.1);
  point = λ x y n p q e g.
      let same = same_truth (test x y) hold fail (holding.some x y (has_number a x p) (has_number b y q)) (failing.some x y (has_number a x p) (has_number b y q)) (holding.exact x y p q) (failing.exact x y p q) in
      subst (λ (z : ℤ). IsPoint r z) (some_same _ _ (sym (value x y) ∙ e))
      (answer.low ∙ ap Fin same.0, answer.high ∙ ap Fin same.1);
  plain = λ s t u not_by_zero fits_s p fits_t q e g.
      subst (λ (v : Span). IsWithin v r) (some_same _ _ (sym (plain s t) ∙ e)) (
        subst (λ (v : Ext). AtMost (Fin (tests (rule s t) (fails s t)).lo) v) (sym answer.low) (truth_falls fail (fails s t) (failing.only s t p q)),
        subst (λ (v : Ext). AtMost v (Fin (tests (rule s t) (fails s t)).hi)) (sym answer.high) (truth_rises hold (rule s t) (holding.only s t p q)),
      );
}

-- ---- the comparisons

-- the opposite of a comparison tells the same as another comparison
tells_same : (test other : ℤ → ℤ → Bool) (rule : Span → Span → Bool) (a b : Interval) (may : Bool) → ((x y : ℤ) → test x y ≡ other x y) → Tells test rule a b may → Tells other rule a b may
tells_same test other rule a b may same tells = record {
  some = λ x y p q e. tells.some x y p q (same x y ∙ e);
  only = tells.only;
  exact = λ x y p q e. sym (same x y) ∙ tells.exact x y p q e;
}

-- and so does one with the sides exchanged
tells_turned : (test : ℤ → ℤ → Bool) (rule : Span → Span → Bool) (a b : Interval) (may : Bool) → Tells test rule a b may → Tells (λ x y. test y x) (λ s t. rule t s) b a may
tells_turned test rule a b may tells = record {
  some = λ x y p q e. tells.some y x q p e;
  only = λ s t p q e. tells.only t s q p e;
  exact = λ x y p q e. tells.exact y x q p e;
}

not-not : (b : Bool) → b ≡ not (not b)
not-not true = refl
not-not false = refl

not_less : (x y : ℤ) → int_le y x ≡ not (int_lt x y)
not_less x y = grind (arith, ints)

not_at_most : (x y : ℤ) → int_lt y x ≡ not (int_le x y)
not_at_most x y = grind (arith, ints)

pub carries_equal : (a b r : Interval) → IsTests (may_equal a b) (may_differ a b) r → Carries Eq a b r
carries_equal a b r = carries_test Eq int_eq spans.may_equal spans.may_differ a b r _ _ (λ x y. refl) (λ s t. refl) (tells_equal a b) (tells_other a b)

pub carries_other : (a b r : Interval) → IsTests (may_differ a b) (may_equal a b) r → Carries Ne a b r
carries_other a b r = carries_test Ne other spans.may_differ spans.may_equal a b r _ _ (λ x y. refl) (λ s t. refl) (tells_other a b)
    (tells_same int_eq (opposite other) spans.may_equal a b (may_equal a b) (λ x y. not-not (int_eq x y)) (tells_equal a b))

pub carries_less : (a b r : Interval) → IsTests (may_be_less a b) (may_be_at_most b a) r → Carries Lt a b r
carries_less a b r = carries_test Lt int_lt spans.may_be_less (λ s t. spans.may_be_at_most t s) a b r _ _ (λ x y. refl) (λ s t. refl) (tells_less a b)
    (tells_same (λ x y. int_le y x) (opposite int_lt) (λ s t. spans.may_be_at_most t s) a b (may_be_at_most b a) not_less (tells_turned int_le spans.may_be_at_most b a (may_be_at_most b a) (tells_at_most b a)))

pub carries_at_most : (a b r : Interval) → IsTests (may_be_at_most a b) (may_be_less b a) r → Carries Le a b r
carries_at_most a b r = carries_test Le int_le spans.may_be_at_most (λ s t. spans.may_be_less t s) a b r _ _ (λ x y. refl) (λ s t. refl) (tells_at_most a b)
    (tells_same (λ x y. int_lt y x) (opposite int_le) (λ s t. spans.may_be_less t s) a b (may_be_less b a) not_at_most (tells_turned int_lt spans.may_be_less b a (may_be_less b a) (tells_less b a)))
