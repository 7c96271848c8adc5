-- Ranges wrapped into a type.
use Rattle.std.proofs.Common.{◌≡◌, ◌^◌, ◌+ℤ◌, ◌-ℤ◌, ◌*ℤ◌, ◌≤ℤ◌, ℤ, pos, arith, refl, sym, subst, ◌∙◌, ap}
use Rattle.std.proofs.lemmas.Int.{ints}
use Rattle.c_syntax_written.specs.declared.int_type.IntType.{IntType}
use Rattle.c_syntax_written.specs.declared.int_type.IntType.TheVariants.{LLong}
use Rattle.c_syntax_written.specs.Integer.{HasNumber, width, least, greatest, wrapped}
use Rattle.ext_int.specs.declared.Ext.{Ext}
use Rattle.ext_int.specs.declared.Ext.TheVariants.{Fin}
use Rattle.ext_int.specs.Ext.{Below, Above, AtMost}
use Rattle.ext_int.proofs.Ends.{AtMost_trans, AtMost-from_below, AtMost-from_above, holds_number_from}
use Rattle.num_api.specs.declared.message.Range.{Range}
use Rattle.num_api.specs.Ranges.{InRange, IsPoint, NoWider}
use Rattle.num_api.specs.Residues.{IsMultiple}
use Rattle.num_api.specs.Spans.{point, range_of}
use Rattle.num_api.proofs.Multiples.{multiple_along, multiple_times, times_multiple, self_multiple, in_from_off, off_from_in, in_product}
use Rattle.num_api.proofs.Parts.{only_number, still_point, in_point}
use Rattle.machine_nums.specs.Rule.{type_span}
use Rattle.machine_nums.proofs.Values.{has-wrapped, wrapped-has}
use Rattle.machine_nums.proofs.ExprTypes.{has_between, between_has, is_wrapped, wrapped_moves}
use Rattle.machine_nums.specs.declared.wrapping.Way.TheVariants.{Kept, Shifted, Only, ByBits}
use Rattle.machine_nums.specs.Wrapping.{IsTaken}

-- ---- ranges and numbers

pub in_between : (r s : Range) (n : ℤ) (a b : ℤ) → NoWider r s → s.lo ≡ Fin a → s.hi ≡ Fin b → InRange r n → (a ≤ℤ n) × (n ≤ℤ b)
in_between r s n a b w e f i =
    let low : AtMost (Fin a) r.lo = subst (λ (x : Ext). AtMost x r.lo) e w.low in
    let high : AtMost r.hi (Fin b) = subst (λ (x : Ext). AtMost r.hi x) f w.high in
    (AtMost_trans (Fin a) r.lo (Fin n) low (AtMost-from_below r.lo n i.low), AtMost_trans (Fin n) r.hi (Fin b) (AtMost-from_above r.hi n i.high) high)

pub inside_has : (t : IntType) (r : Range) (n : ℤ) → NoWider r (range_of (type_span t)) → InRange r n → HasNumber t n
inside_has t r n w i = let ends = in_between r (range_of (type_span t)) n (least t) (pos (greatest t)) w refl refl i in has_between t n ends.0 ends.1

pub has_inside : (t : IntType) (n : ℤ) → HasNumber t n → InRange (range_of (type_span t)) n
has_inside t n h = let ends = between_has t n h in record { low = ends.0; high = ends.1 }

pub point_holds : (r : Range) (n : ℤ) → IsPoint r n → InRange r n
point_holds r n p = record {
  low = subst (λ (e : Ext). Below e n) (sym p.low) (omega (arith, ints));
  high = subst (λ (e : Ext). Above e n) (sym p.high) (omega (arith, ints));
}

-- what lies inside a point and holds a number is that point
pub point_from : (r s : Range) (n m : ℤ) → InRange r m → NoWider r s → IsPoint s n → IsPoint r n
point_from r s n m i w p = still_point r s n (holds_number_from r.lo r.hi m i.low i.high) w p

-- ---- the ways

pub taken_kept : (t : IntType) (r : Range) → NoWider r (range_of (type_span t)) → IsTaken t r Kept r
taken_kept t r w = record {
  right = w;
  holds = λ n i. subst (InRange r) (sym (wrapped-has t n (inside_has t r n w i))) i;
  inside = w;
}

pub kept_point : (t : IntType) (r : Range) (n : ℤ) → NoWider r (range_of (type_span t)) → IsPoint r n → IsPoint r (wrapped t n)
kept_point t r n w p = subst (IsPoint r) (sym (wrapped-has t n (inside_has t r n w (point_holds r n p)))) p

module _ (t : IntType) (r : Range) (lo hi low shift high : ℤ) (is : r.lo ≡ Fin lo) (also : r.hi ≡ Fin hi) (first : low ≡ wrapped t lo)
    (moved : shift ≡ low -ℤ lo) (last : high ≡ hi +ℤ shift) (fit : high ≤ℤ pos (greatest t)) where
  has : (n : ℤ) → InRange r n → (low ≤ℤ (n +ℤ shift)) × ((n +ℤ shift) ≤ℤ high)
  has n i =
      let above : lo ≤ℤ n = subst (λ (e : Ext). Below e n) is i.low in
      let below : n ≤ℤ hi = subst (λ (e : Ext). Above e n) also i.high in
      (omega (arith, ints), omega (arith, ints))

  least_is : least t ≤ℤ low
  least_is = subst (λ (x : ℤ). least t ≤ℤ x) (sym first) (between_has t (wrapped t lo) (has-wrapped t lo)).0

  number : (n : ℤ) → InRange r n → HasNumber t (n +ℤ shift)
  number n i = let ends = has n i in let l = least_is in has_between t (n +ℤ shift) (omega (arith, ints, l, ends.0)) (omega (arith, ints, fit, ends.1))

  multiple : IsMultiple (pos (2 ^ width t)) shift
  multiple = subst (IsMultiple (pos (2 ^ width t))) (sym (moved ∙ ap (λ (x : ℤ). x -ℤ lo) first)) (wrapped_moves t lo)

  value : (n : ℤ) → InRange r n → n +ℤ shift ≡ wrapped t n
  value n i = is_wrapped t n (n +ℤ shift) (multiple_along (pos (2 ^ width t)) shift ((n +ℤ shift) -ℤ n) (omega (arith, ints)) multiple) (number n i)

  pub taken_shift : IsTaken t r (Shifted shift) (record { lo = Fin low; hi = Fin high })
  taken_shift = record {
    right = (multiple, number);
    holds = λ n i. let ends = has n i in subst (InRange (record { lo = Fin low; hi = Fin high })) (value n i) (record { low = ends.0; high = ends.1 });
    inside = record { low = least_is; high = fit };
  }

  pub shift_point : (n : ℤ) → IsPoint r n → IsPoint (record { lo = Fin low; hi = Fin high }) (wrapped t n)
  shift_point n p =
      let a : Fin lo ≡ Fin n = sym is ∙ p.low in let b : Fin hi ≡ Fin n = sym also ∙ p.high in
      let c : lo ≡ n = cc in let d : hi ≡ n = cc in
      let e : low ≡ wrapped t n = first ∙ ap (wrapped t) c in
      let f : high ≡ low = omega (arith, ints) in
      record { low = ap Fin e; high = ap Fin (f ∙ e) }

pub taken_all : (t : IntType) (r s : Range) → ((n : ℤ) → IsPoint r n → ⊥) → s ≡ range_of (type_span t) → IsTaken t r ByBits s
taken_all t r s none e = subst (IsTaken t r ByBits) (sym e) (record {
  right = none;
  holds = λ n i. has_inside t (wrapped t n) (has-wrapped t n);
  inside = record { low = (omega (arith, ints)); high = (omega (arith, ints)) };
})

pub taken_point : (t : IntType) (r s : Range) (n m : ℤ) → IsPoint r n → m ≡ wrapped t n → s ≡ range_of (point m) → IsTaken t r (Only m) s
taken_point t r s n m p e f =
    let ends = between_has t (wrapped t n) (has-wrapped t n) in
    let same : (k : ℤ) → InRange r k → wrapped t k ≡ m = λ k i. ap (wrapped t) (only_number r n k p i) ∙ sym e in
    record {
      right = same;
      holds = λ k i. subst (λ (x : Range). InRange x (wrapped t k)) (sym f) (in_point m (wrapped t k) (sym (same k i)));
      inside = subst (λ (x : Range). NoWider x (range_of (type_span t))) (sym (f ∙ ap (λ (x : ℤ). range_of (point x)) e))
          (record { low = ends.0; high = ends.1 });
    }

pub point_point : (t : IntType) (r s : Range) (n m k : ℤ) → IsPoint r n → m ≡ wrapped t n → s ≡ range_of (point m) → IsPoint r k → IsPoint s (wrapped t k)
point_point t r s n m k p e f q =
    let a : Fin n ≡ Fin k = sym p.low ∙ q.low in let b : n ≡ k = cc in
    subst (λ (x : Range). IsPoint x (wrapped t k)) (sym (f ∙ ap (λ (x : ℤ). range_of (point x)) (e ∙ ap (wrapped t) b))) (record { low = refl; high = refl })

-- ---- products up to multiples of 2^64

pub like_product_off : (x y : ℤ) → IsMultiple (pos (2 ^ 64)) ((wrapped LLong x *ℤ wrapped LLong y) -ℤ (x *ℤ y))
like_product_off x y =
    let m = pos (2 ^ 64) in let a = wrapped LLong x in let b = wrapped LLong y in
    off_from_in (x *ℤ y) m (a *ℤ b)
    (in_product x m y m (pos 1) (pos 1) m a b (times_multiple m m (pos 1) (self_multiple m)) (multiple_times m (pos 1) m (self_multiple m))
    (x, omega (arith, ints)) (b, omega (arith, ints))
    (in_from_off x m a (wrapped_moves LLong x)) (in_from_off y m b (wrapped_moves LLong y)))
