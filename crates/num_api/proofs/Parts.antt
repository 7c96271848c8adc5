-- Facts of ranges, spans and options, one by one.
use Rattle.std.proofs.Common.{arith, ℕ, ℤ, pos, ◌≡◌, ◌⊎◌, inl, inr, Some, None, refl, sym, subst, ap, Bool, true, false, Option, int_le, ◌≤ℤ◌, if◌then◌else◌, ◌&&◌}
use Rattle.std.specs.Prelude.{IsTrue, IsSomeAnd, IfSome, IfNone}
use Rattle.std.proofs.lemmas.Option.{none-some}
use Rattle.std.proofs.lemmas.Int.{ints}
use Rattle.num_api.specs.declared.message.Range.{Range}
use Rattle.num_api.specs.declared.expr.NOp.{NOp}
use Rattle.num_api.specs.declared.expr.NOp.TheVariants.{Quot, Mul, Add}
use Rattle.num_api.specs.Exprs.{NExprTree, Const, Read, Unary, Binary}
use Rattle.num_api.specs.Value.{of_one, of_two, binary_value}
use Rattle.num_api.specs.Ranges.{InRange, IsPoint, NoWider, holds_some, all_numbers}
use Rattle.num_api.specs.Spans.{Span, span, point, FitsSpan, span_between, range_of, may_equal}
use Rattle.num_api.specs.Plain.{plain, IsPlain}
use Rattle.num_api.specs.Residues.{IsMultiple}
use Rattle.num_api.specs.Fold.{IsFold, constant, left_factor, right_factor, sum}
use Rattle.ext_int.specs.declared.Ext.{Ext}
use Rattle.ext_int.specs.declared.Ext.TheVariants.{Low, Fin, High}
use Rattle.ext_int.specs.Ext.{Below, Above, AtMost, holds_number}
use Rattle.ext_int.proofs.Ends.{AtMost_trans, AtMost_refl, le-from_int_le, int_le-true}

-- ---- options

pub some_and : {A : Type 0} (P : A → Type 0) (o : Option A) (n : A) → o ≡ Some n → IsSomeAnd o P → P n
some_and P None n e h = absurd (none-some n e)
some_and P (Some m) n e h = let same : m ≡ n = cc in subst P same h

pub of_one-some : {A : Type 0} (f : A → Option A) (o : Option A) (n : A) → of_one f o ≡ Some n → (x : A) × (o ≡ Some x) × (f x ≡ Some n)
of_one-some f None n e = absurd (none-some n e)
of_one-some f (Some x) n e = (x, refl, e)

pub of_two-some : {A : Type 0} (f : A → A → Option A) (o p : Option A) (n : A) → of_two f o p ≡ Some n → (x : A) × (y : A) × (o ≡ Some x) × (p ≡ Some y) × (f x y ≡ Some n)
of_two-some f None p n e = absurd (none-some n e)
of_two-some f (Some x) None n e = absurd (none-some n e)
of_two-some f (Some x) (Some y) n e = (x, y, refl, refl, e)

-- ---- the plain rule

pub fits : (given : ℕ → Range) (e : NExprTree) (s : Span) → IsPlain given e → plain given e ≡ Some s → FitsSpan s
fits given (Const n) s p e = some_and FitsSpan (plain given (Const n)) s e p
fits given (Read x) s p e = some_and FitsSpan (plain given (Read x)) s e p
fits given (Unary op a) s p e = some_and FitsSpan (plain given (Unary op a)) s e p.0
fits given (Binary op a b) s p e = some_and FitsSpan (plain given (Binary op a b)) s e p.0

pub whole_range : (a b : Ext) (s : Span) → span_between a b ≡ Some s → (a ≡ Fin s.lo) × (b ≡ Fin s.hi)
whole_range Low b s e = absurd (none-some s e)
whole_range (Fin x) Low s e = absurd (none-some s e)
whole_range (Fin x) High s e = absurd (none-some s e)
whole_range High b s e = absurd (none-some s e)
whole_range (Fin x) (Fin y) s e = from (int_le x y) e
  where
    from : (t : Bool) → (if t then Some (span x y) else None) ≡ Some s → (Fin x ≡ Fin s.lo) × (Fin y ≡ Fin s.hi)
    from false f = absurd (none-some s f)
    from true f = let same : span x y ≡ s = cc in (ap (λ (v : Span). Fin v.lo) same, ap (λ (v : Span). Fin v.hi) same)

-- ---- ranges

pub wider : (r s t : Range) → NoWider r s → NoWider s t → NoWider r t
wider r s t p q = record { low = AtMost_trans t.lo s.lo r.lo q.low p.low; high = AtMost_trans r.hi s.hi t.hi p.high q.high }

pub as_wide : (r : Range) → NoWider r r
as_wide r = record { low = AtMost_refl r.lo; high = AtMost_refl r.hi }

pub inside : (r : Range) (s : Span) → (r.lo ≡ Fin s.lo) × (r.hi ≡ Fin s.hi) → NoWider r (range_of s)
inside r s p = record {
  low = subst (λ (e : Ext). AtMost (Fin s.lo) e) (sym p.0) (AtMost_refl (Fin s.lo));
  high = subst (λ (e : Ext). AtMost e (Fin s.hi)) (sym p.1) (AtMost_refl (Fin s.hi));
}

in_all : (b : Ext) → AtMost b High
in_all Low = tt
in_all (Fin x) = tt
in_all High = tt

pub under_all : (r : Range) → NoWider r all_numbers
under_all r = record { low = tt; high = in_all r.hi }

ends_of_point : (a b : Ext) (n : ℤ) → IsTrue (holds_number a b) → AtMost (Fin n) a → AtMost b (Fin n) → (a ≡ Fin n) × (b ≡ Fin n)
ends_of_point Low b n h k l = absurd k
ends_of_point (Fin x) Low n h k l = cc
ends_of_point (Fin x) (Fin y) n h k l =
    let order : x ≤ℤ y = le-from_int_le x y h in
    (ap Fin (omega (arith, ints)), ap Fin (omega (arith, ints)))
ends_of_point (Fin x) High n h k l = absurd l
ends_of_point High b n h k l = cc

-- a range that holds a number and lies inside a point is that point
pub still_point : (r s : Range) (n : ℤ) → IsTrue (holds_some r) → NoWider r s → IsPoint s n → IsPoint r n
still_point r s n h w p =
    let low = subst (λ (e : Ext). AtMost e r.lo) p.low w.low in
    let high = subst (λ (e : Ext). AtMost r.hi e) p.high w.high in
    let ends = ends_of_point r.lo r.hi n h low high in
    record { low = ends.0; high = ends.1 }

pub only_number : (r : Range) (n m : ℤ) → IsPoint r n → InRange r m → m ≡ n
only_number r n m p i =
    let low = subst (λ (e : Ext). Below e m) p.low i.low in
    let high = subst (λ (e : Ext). Above e m) p.high i.high in
    omega (arith, ints)

pub in_point : (n m : ℤ) → n ≡ m → InRange (range_of (point n)) m
in_point n m e = record { low = omega (arith, ints); high = omega (arith, ints) }

pub is_point : (n : ℤ) → IsPoint (range_of (point n)) n
is_point n = record { low = refl; high = refl }

-- ---- divisors

pub by_zero : (x n : ℤ) → binary_value Quot x (pos 0) ≡ Some n → ⊥
by_zero x n e = none-some n e

-- a point inside a span is a number that the span may equal
pub may_be_zero : (r : Range) (s : Span) → IsPoint r (pos 0) → NoWider r (range_of s) → may_equal s (point (pos 0)) ≡ false → ⊥
may_be_zero r s p w e =
    let low : s.lo ≤ℤ pos 0 = subst (λ (a : Ext). AtMost (Fin s.lo) a) p.low w.low in
    let high : pos 0 ≤ℤ s.hi = subst (λ (a : Ext). AtMost a (Fin s.hi)) p.high w.high in
    let first : int_le s.lo (pos 0) ≡ true = int_le-true s.lo (pos 0) low in
    let second : int_le (pos 0) s.hi ≡ true = int_le-true (pos 0) s.hi high in
    both (int_le s.lo (pos 0)) (int_le (pos 0) s.hi) first second e
  where
    both : (a b : Bool) → a ≡ true → b ≡ true → (a && b) ≡ false → ⊥
    both false b f g h = cc
    both true false f g h = cc
    both true true f g h = cc

-- ---- folds

pub fold_const : (c n : ℤ) → IsFold c (Const n) → IsMultiple c n
fold_const c n (constant m h) = h

pub fold_read : (c : ℤ) (x : ℕ) → IsFold c (Read x) → ⊥
fold_read c x h = elim h [ ]

pub fold_unary : (c : ℤ) (op : NOp) (a : NExprTree) → IsFold c (Unary op a) → ⊥
fold_unary c op a h = elim h [ ]

-- a constant that is a multiple
abbrev pub IsFactor : ℤ → NExprTree → Type 0
IsFactor c e = (n : ℤ) × (e ≡ Const n) × IsMultiple c n

pub fold_binary : (c : ℤ) (op : NOp) (a b : NExprTree) → IsFold c (Binary op a b) → ((op ≡ Mul) × IsFactor c a) ⊎ (((op ≡ Mul) × IsFactor c b) ⊎ ((op ≡ Add) × IsFold c a × IsFold c b))
fold_binary c op a b (left_factor n e m) = inl (refl, (n, refl, m))
fold_binary c op a b (right_factor e n m) = inr (inl (refl, (n, refl, m)))
fold_binary c op a b (sum p q h k) = inr (inr (refl, h, k))

-- a value that admits 1 is not known to be 0
pub not_only_zero : (r : Range) → IsPoint r (pos 0) → InRange r (pos 1) → ⊥
not_only_zero r p i = let same : pos 1 ≡ pos 0 = only_number r (pos 0) (pos 1) p i in cc

pub some_of_three : {A : Type 0} (P Q R S : A → Type 0) (o : Option A) → IfSome o P → IfSome o Q → IfSome o R → ((a : A) → P a → Q a → R a → S a) → IfSome o S
some_of_three P Q R S None p q r f = tt
some_of_three P Q R S (Some a) p q r f = f a p q r

pub none_of : {A : Type 0} (P Q : Type 0) (o : Option A) → IfNone o P → (P → Q) → IfNone o Q
none_of P Q None p f = f p
none_of P Q (Some a) p f = tt
