-- The range of an expression in a set that may remember it.
use Rattle.std.proofs.Common.{◌≡◌, ℤ, Bool, true, false, refl, sym, subst, ap, ◌∙◌, List, Option, Some, None}
use Rattle.std.specs.Prelude.{if◌then◌else◌}
use Rattle.block_mem.specs.declared.types.Value.{Value}
use Rattle.num_api.specs.declared.message.Range.{Range}
use Rattle.num_api.specs.Ranges.{InRange, NoWider, hull}
use Rattle.num_api.proofs.Parts.{wider}
use Rattle.machine_nums.proofs.Wrapped.{point_from}
use Rattle.csharp.specs.Trees.{CsExprTree}
use Rattle.csharp.specs.States.{State, value_of}
use Rattle.csharp.specs.SameExprs.{is_same_expr}
use Rattle.csharp.proofs.Equal.{one_expr}
use Rattle.mem_temps.specs.Values.{number_of}
use Rattle.mem_temps.specs.Exprs.{IsRangeOf}
use Rattle.mem_intervals.specs.Passed.{Remembered, IsPassed, passed_range, with_hull, joined_passed}
use Rattle.mem_intervals.specs.Known.{IsKnownRange}
use Rattle.mem_intervals.proofs.Joins.{in_wider, hull_first, hull_second}

-- ---- what is remembered of an expression

at_true : {A : Type 0} (b : Bool) (x y : A) → (if b then Some x else None) ≡ Some y → (b ≡ true) × (x ≡ y)
at_true true x y h = (refl, cc)
at_true false x y h = absurd (cc)

pub remembered_is : (passed : Option Remembered) (e : CsExprTree) (r : Range) → passed_range passed e ≡ Some r
    → (x : Remembered) × (passed ≡ Some x) × (x.expr ≡ e) × (x.range ≡ r)
remembered_is None e r h = absurd (cc)
remembered_is (Some x) e r h = let k = at_true (is_same_expr x.expr e) x.range r h in (x, refl, one_expr x.expr e k.0, k.1)

pub range_there : (passed : Option Remembered) (e : CsExprTree) (x : Remembered) → passed ≡ Some x → is_same_expr x.expr e ≡ true → passed_range passed e ≡ Some x.range
range_there passed e x is same = ap (λ o. passed_range o e) is ∙ ap (λ b. if b then Some x.range else None) same

in_remembered : (passed : Option Remembered) (x : Remembered) (e : CsExprTree) (s : State) (v : Value) → passed ≡ Some x → x.expr ≡ e → IsPassed passed s
    → value_of e s ≡ Some v → InRange x.range (number_of v)
in_remembered passed x e s v is same k h =
    let own : IsPassed (Some x) s = subst (λ o. IsPassed o s) is k in own v (subst (λ (y : CsExprTree). value_of y s ≡ Some v) (sym same) h)

-- ---- ranges

pub known_alone : (rs : List Range) (passed : Option Remembered) (e : CsExprTree) (r : Range) → IsRangeOf rs e r → passed_range passed e ≡ None
    → IsKnownRange rs passed e r
known_alone rs passed e r f none = record {
  holds = λ s v all k h. f.holds s v all h;
  point = λ q s v typed ins points all k h. f.point q s v typed ins points h;
  inside = f.inside;
  plain = f.plain;
  passes = λ x is same. let there = range_there passed e x is same in absurd (cc);
}

pub known_met : (rs : List Range) (passed : Option Remembered) (e : CsExprTree) (r w found : Range) → IsRangeOf rs e r → passed_range passed e ≡ Some w
    → ((n : ℤ) → InRange r n → InRange w n → InRange found n) → NoWider found r → NoWider found w → IsKnownRange rs passed e found
known_met rs passed e r w found f is holds first second = record {
  holds = λ s v all k h. both s v k h (f.holds s v all h);
  point = λ q s v typed ins points all k h.
      let p = f.point q s v typed ins points h in
      (point_from found r (number_of v) (number_of v) (both s v k h (f.holds s v all h)) first p.0, p.1);
  inside = λ q t typed ins h. wider found r _ first (f.inside q t typed ins h);
  plain = λ q p m typed ins und h. wider found r _ first (f.plain q p m typed ins und h);
  passes = λ x there same. let own : Some w ≡ Some x.range = sym is ∙ range_there passed e x there same in
      let one : w ≡ x.range = cc in subst (NoWider found) one second;
}
  where
    both : (s : State) (v : Value) → IsPassed passed s → value_of e s ≡ Some v → InRange r (number_of v) → InRange found (number_of v)
    both s v k h i =
        let x = remembered_is passed e w is in
        holds (number_of v) i (subst (λ (y : Range). InRange y (number_of v)) x.3 (in_remembered passed x.0 e s v x.1 x.2 k h))

-- ---- joins, and what is covered

pub joined_left : (passed other : Option Remembered) (s : State) → IsPassed passed s → IsPassed (joined_passed passed other) s
joined_left None other s k = tt
joined_left (Some x) other s k = by (passed_range other x.expr) where
  by : (o : Option Range) → IsPassed (with_hull x o) s
  by None = tt
  by (Some r) = λ v h. in_wider x.range (hull x.range r) (number_of v) (hull_first x.range r) (k v h)

pub joined_right : (passed other : Option Remembered) (s : State) → IsPassed other s → IsPassed (joined_passed passed other) s
joined_right None other s k = tt
joined_right (Some x) other s k = by (passed_range other x.expr) refl where
  by : (o : Option Range) → passed_range other x.expr ≡ o → IsPassed (with_hull x o) s
  by None e = tt
  by (Some r) e = λ v h.
      let y = remembered_is other x.expr r e in
      in_wider r (hull x.range r) (number_of v) (hull_second x.range r)
      (subst (λ (w : Range). InRange w (number_of v)) y.3 (in_remembered other y.0 x.expr s v y.1 y.2 k h))

pub covered_passed : (x : Remembered) (other : Option Remembered) (r : Range) → passed_range other x.expr ≡ Some r → ((n : ℤ) → InRange r n → InRange x.range n)
    → (s : State) → IsPassed other s → IsPassed (Some x) s
covered_passed x other r is holds s k = λ v h.
    let y = remembered_is other x.expr r is in
    holds (number_of v) (subst (λ (w : Range). InRange w (number_of v)) y.3 (in_remembered other y.0 x.expr s v y.1 y.2 k h))

pub none_passed : (passed : Option Remembered) → passed ≡ None → (s : State) → IsPassed passed s
none_passed passed is s = subst (λ o. IsPassed o s) (sym is) tt
