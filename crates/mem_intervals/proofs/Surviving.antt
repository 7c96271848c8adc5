-- What passes a check is under what a plain run leaves behind it.
use Rattle.std.proofs.Common.{◌≡◌, ℕ, pos, Bool, true, false, refl, sym, subst, ap, ◌∙◌, ⊎_elim, List, [], ◌∷◌, Option, Some, None}
use Rattle.std.specs.Prelude.{All, IsTrue, ◌&&◌, ◌==◌, if◌then◌else◌, option_map, slice_get}
use Rattle.std.specs.Ordering.{int_eq}
use Rattle.std.proofs.lemmas.Bool.{cases_eq, cond-true, cond-false, eq-eqb, ne_eqb, and_parts}
use Rattle.std.proofs.lemmas.List.Elements.{All-head}
use Rattle.c_syntax_written.specs.declared.int_type.IntType.{IntType}
use Rattle.c_syntax_written.specs.Integer.{least}
use Rattle.c_syntax.specs.declared.alarm.Check.{Check}
use Rattle.c_syntax.specs.declared.alarm.WrongKind.{WrongKind}
use Rattle.c_syntax.specs.declared.alarm.WrongKind.TheVariants as kinds
use Rattle.c_syntax.specs.declared.operator.Arithmetic.TheVariants as arithmetics
use Rattle.c_syntax.specs.declared.operator.TBinaryOp.TheVariants as binaries
use Rattle.block_mem.specs.declared.types.Scalar.{Scalar}
use Rattle.block_mem.specs.declared.types.Scalar.TheVariants as scalars
use Rattle.num_api.specs.declared.message.Range.{Range}
use Rattle.num_api.specs.Plain.{without}
use Rattle.num_api.specs.Ranges.{NoWider, holds_some}
use Rattle.num_api.specs.Spans.{Span, span, range_of}
use Rattle.num_api.proofs.Narrowing.{in_common}
use Rattle.num_api.proofs.Parts.{wider, as_wide}
use Rattle.machine_nums.specs.Rule.{value_span, exact_span}
use Rattle.csharp.specs.Trees.{CsExprTree, CsProgramTree, CsCheckTree, Temp, Binary, Checked}
use Rattle.csharp.specs.Formed.{AreOperandsTyped, FieldsAre, result_check}
use Rattle.mem_api.specs.Given.{IsOf}
use Rattle.plain_runs.specs.States.{Passed, Plain, given, span_of}
use Rattle.plain_runs.specs.Changes.{within, has_numbers}
use Rattle.plain_runs.specs.Numbers.{number_expr}
use Rattle.plain_runs.specs.Checks.{of_one, exact_of, quotient_of, allowed, passing, with_passed, pass_result, pass_quotient, with_operand, if_reached, if_some, pass_operand, pass_assertion, suspect_of, passes_by, plain_pass}
use Rattle.mem_temps.specs.Checks.{IsExactOf}
use Rattle.mem_temps.specs.Exprs.{IsRangeOf}
use Rattle.mem_temps.specs.Ranges.{range_at, AreInside, AreUnder}
use Rattle.mem_temps.proofs.Ranged.{map_some, and_then_some}
use Rattle.mem_temps.specs.Cuts.{IsCutTo, IsCutNonzero, IsKeptIn}
use Rattle.mem_temps.proofs.Kept.{inside_below, kept_narrow, kept_here}
use Rattle.mem_intervals.specs.Passed.{Remembered}
use Rattle.mem_intervals.specs.Passing.{own_temp, is_a_remainder, KeepsResult, KeepsOperand, KeepsPassing}
use Rattle.mem_intervals.specs.Under.{IsUnderPlain}
use Rattle.mem_intervals.proofs.Beneath.{under_anew, some_numbers}
use Rattle.mem_intervals.proofs.Outcomes.{IsResultOf, signed_is}

-- a remainder is checked by the quotient, and any other operator by itself
quotient_itself : (types : List Scalar) (p : Plain) (check : Check) (e : CsExprTree) → is_a_remainder e ≡ false
    → (pass_quotient types p check e ≡ pass_result types p check e) × (quotient_of e ≡ e)
quotient_itself types p check (Binary (binaries.Arithmetic arithmetics.Remainder t) a b) h = absurd (cc)
quotient_itself types p check e h = (refl, refl)

pub quotient_alone : (e : CsExprTree) → is_a_remainder e ≡ false → quotient_of e ≡ e
quotient_alone (Binary (binaries.Arithmetic arithmetics.Remainder t) a b) h = absurd (cc)
quotient_alone e h = refl

remainder_stays : (types : List Scalar) (p : Plain) (check : Check) (e : CsExprTree) → is_a_remainder e ≡ true
    → pass_quotient types p check e ≡ Some (Some (record p { passed = None }))
remainder_stays types p check (Binary (binaries.Arithmetic arithmetics.Remainder t) a b) h = refl
remainder_stays types p check e h = absurd (cc)

-- what a plain run leaves lies in what is allowed
in_passing : (check : Check) (r exact : Range) (o : Option Span) → NoWider r exact → ((z : Span) → o ≡ Some z → NoWider exact (range_of z))
    → NoWider r (range_of (span check.lo check.hi)) → NoWider r (range_of (passing check o))
in_passing check r exact None first plain second = second
in_passing check r exact (Some z) first plain second =
    in_common r (range_of z) (range_of (span check.lo check.hi)) (wider r exact (range_of z) first (plain z refl)) second

pub not_rest : (e : CsExprTree) (check : Check) → result_check e ≡ Some check → (check.kind ≡ kinds.Quotient → ⊥) → is_a_remainder e ≡ false
not_rest (Binary (binaries.Arithmetic arithmetics.Remainder t) a b) check h out = absurd (out (sym (ap Check.kind (signed_is kinds.Quotient t (least t) check h).1)))
not_rest e check h out = refl

-- a plain state knows the same of objects
abbrev pub KeepsObjects : Plain → Plain → Type 0
KeepsObjects p x = (x.objects ≡ p.objects) × (x.copies ≡ p.copies)

module _ (q : CsProgramTree) (rs new : List Range) (passed left : Option Remembered) (p : Plain) (h : IsUnderPlain q.temps rs passed p) where
  -- the plain run goes on, with no less
  abbrev GoesOn : Option Plain → Type 0
  GoesOn r = (x : Plain) × (r ≡ Some x) × IsUnderPlain q.temps new left x × KeepsObjects p x

  narrow_goes : (x : Plain) → ((d : ℕ) → NoWider (range_at new d) (range_at rs d)) → ((d : ℕ) → x.temps d ≡ p.temps d)
      → x.passed ≡ None → IsUnderPlain q.temps new left x
  narrow_goes x narrow temps gone = under_anew q.temps rs new passed left p x h
      (λ d t g. wider (range_at new d) (range_at rs d) _ (narrow d) (h.inside d t g))
      (λ d t g. subst (λ (s : Span). NoWider (range_at new d) (range_of s)) (sym (temps d))
      (wider (range_at new d) (range_at rs d) _ (narrow d) (h.under d t g)))
      gone

  same_goes : new ≡ rs → (r : Option Plain) → Some (record p { passed = None }) ≡ r → GoesOn r
  same_goes is r e = (
    record p { passed = None },
    sym e,
    narrow_goes (record p { passed = None }) (λ d. subst (λ (xs : List Range). NoWider (range_at xs d) (range_at rs d)) (sym is) (as_wide (range_at rs d)))
        (λ d. refl) refl,
    (refl, refl),
  )

  module _ (check : Check) (e : CsExprTree) (value exact : Range) (some : Bool) (typed : AreOperandsTyped q e) (fv : IsRangeOf rs e value) (fe : IsExactOf rs e exact)
      (here : IsTrue some) where
    -- ---- results

    result_goes : KeepsResult check e exact rs some new left → result_check e ≡ Some check → quotient_of e ≡ e → is_a_remainder e ≡ false → (r : Option Plain)
        → pass_result q.temps p check e ≡ Some r → GoesOn r
    result_goes k c quotient rest r g = (
      leaves,
      sym o.2 ∙ cond-true (has_numbers s) (Some leaves) None numbers_left,
      record {
        inside = subst (AreInside q.temps) (sym k.3) h.inside;
        under = subst (λ (xs : List Range). AreUnder q.temps xs p) (sym k.3) h.under;
        passes = λ x is. let same : record { expr = e; numbers = s } ≡ x = one x is in (
          record { expr = e; range = k.0 },
          k.4 ∙ cond-false (is_a_remainder e) None (Some (record { expr = e; range = k.0 })) rest,
          ap Passed.expr same,
          subst (λ (y : Passed). NoWider k.0 (range_of y.numbers)) same wide,
        );
      },
      (refl, refl),
    )
      where
        o : (o : Option Span) × (exact_of q.temps p e ≡ Some o) × (with_passed p e (passing check o) ≡ r)
        o = map_some (λ s. with_passed p e (passing check s)) (exact_of q.temps p e) r g

        s : Span
        s = passing check o.0

        leaves : Plain
        leaves = record p { passed = Some (record { expr = e; numbers = s }) }

        ruled : (z : Span) → o.0 ≡ Some z → NoWider exact (range_of z)
        ruled z is =
            let m = map_some (exact_span (given p)) (number_expr q.temps e) o.0 o.1 in
            fe.plain q check p m.0 z typed c h.inside h.under (ap (number_expr q.temps) quotient ∙ m.1) (m.2 ∙ is)

        wide : NoWider k.0 (range_of s)
        wide = in_passing check k.0 exact o.0 k.1.first ruled k.1.second

        numbers_left : has_numbers s ≡ true
        numbers_left = some_numbers k.0 s (sym k.2 ∙ here) wide

        one : (x : Passed) → Some (record { expr = e; numbers = s }) ≡ Some x → record { expr = e; numbers = s } ≡ x
        one x is = cc

    quotient_goes : KeepsResult check e exact rs some new left → result_check e ≡ Some check → (r : Option Plain) → pass_quotient q.temps p check e ≡ Some r → GoesOn r
    quotient_goes k c r g = by (is_a_remainder e) refl where
      by : (b : Bool) → is_a_remainder e ≡ b → GoesOn r
      by true rest = same_goes k.3 r (one (sym (remainder_stays q.temps p check e rest) ∙ g)) where
        one : Some (Some (record p { passed = None })) ≡ Some r → Some (record p { passed = None }) ≡ r
        one i = cc
      by false rest = let u = quotient_itself q.temps p check e rest in result_goes k c u.1 rest r (sym u.0 ∙ g)

    -- ---- operands

    -- the numbers of the value by the rule
    value_ruled : (s : Span) → span_of q.temps p e ≡ Some s → NoWider value (range_of s)
    value_ruled s g =
        let m = map_some (value_span (given p)) (number_expr q.temps e) s g in
        subst (λ (z : Span). NoWider value (range_of z)) m.2 (fv.plain q p m.0 typed h.inside h.under m.1)

    cut_goes : (e : CsExprTree) (r : Range) (kept : Bool) (s t : Span) (x : Plain) → IsKeptIn rs (own_temp e) r kept new → NoWider r (range_of t)
        → with_operand p e s t ≡ Some x → IsUnderPlain q.temps new left x × KeepsObjects p x
    cut_goes (Temp d) r kept s t x k wide g = subst (λ (y : Plain). IsUnderPlain q.temps new left y × KeepsObjects p y) same (
      under_anew q.temps rs new passed left p cut h (λ n ty i. wider (range_at new n) (range_at rs n) _ (kept_narrow rs r kept new (Some d) k n) (h.inside n ty i))
          (λ n ty i. ⊎_elim (λ is. at_d n ty i is) (λ apart. elsewhere n ty i apart) (cases_eq n d)) refl,
      (refl, refl),
    )
      where
        cut : Plain
        cut = record p { temps = λ k. if k == d then t else p.temps k; passed = None }

        same : cut ≡ x
        same = cc (g)

        at_d : (n : ℕ) (ty : IntType) → slice_get q.temps n ≡ Some (scalars.Int ty) → n ≡ d → NoWider (range_at new n) (range_of (cut.temps n))
        at_d n ty i is =
            let own : slice_get q.temps d ≡ Some (scalars.Int ty) = subst (λ (y : ℕ). slice_get q.temps y ≡ Some (scalars.Int ty)) is i in
            let narrow = kept_here rs r kept new d k (inside_below q.temps rs d ty h.inside own) in
            subst (λ (z : Span). NoWider (range_at new n) (range_of z)) (sym (cond-true (n == d) t (p.temps n) (eq-eqb n d is)))
            (subst (λ (y : ℕ). NoWider (range_at new y) (range_of t)) (sym is) (wider (range_at new d) r (range_of t) narrow wide))

        elsewhere : (n : ℕ) (ty : IntType) → slice_get q.temps n ≡ Some (scalars.Int ty) → (n ≡ d → ⊥) → NoWider (range_at new n) (range_of (cut.temps n))
        elsewhere n ty i apart =
            subst (λ (z : Span). NoWider (range_at new n) (range_of z)) (sym (cond-false (n == d) t (p.temps n) (ne_eqb n d apart)))
            (wider (range_at new n) (range_at rs n) _ (kept_narrow rs r kept new (Some d) k n) (h.under n ty i))
    cut_goes e r kept s t x k wide g = subst (λ (y : Plain). IsUnderPlain q.temps new left y × KeepsObjects p y) (only (int_eq s.lo t.lo && int_eq s.hi t.hi) g) (
      narrow_goes (record p { passed = None }) (kept_narrow rs r kept new None k) (λ d. refl) refl,
      (refl, refl),
    )
      where
        only : (b : Bool) → (if b then Some (record p { passed = None }) else None) ≡ Some x → record p { passed = None } ≡ x
        only true i = cc
        only false i = absurd (cc)

    operand_goes : (IsCut : Range → Type 0) (cut : Span → Span) → KeepsOperand IsCut e rs some new left
        → ((found : Range) → IsCut found → (s : Span) → NoWider value (range_of s) → NoWider found (range_of (cut s)))
        → (r : Option Plain) → pass_operand q.temps p e cut ≡ Some r → GoesOn r
    operand_goes IsCut cut k narrow r g =
        let s = and_then_some (λ s. if_reached (cut s) (with_operand p e s (cut s))) (span_of q.temps p e) r g in
        let wide = narrow k.0 k.1 s.0 (value_ruled s.0 s.1) in
        let parts = and_parts k.2.0 (holds_some k.0) (sym k.2.2 ∙ here) in
        let reached = some_numbers k.0 (cut s.0) parts.1 wide in
        let x = map_some (λ (y : Plain). Some y) (with_operand p e s.0 (cut s.0)) r
        (sym (cond-true (has_numbers (cut s.0)) (option_map (λ (y : Plain). Some y) (with_operand p e s.0 (cut s.0))) (Some None) reached) ∙ s.2) in
        let left = cut_goes e k.0 k.2.0 s.0 (cut s.0) x.0 k.2.1 wide x.1 in
        (x.0, sym x.2, left.0, left.1)

    assertion_goes : (found : Range) × IsCutNonzero value found × (some ≡ holds_some found) × (new ≡ rs) × (left ≡ None) → (r : Option Plain)
        → pass_assertion q.temps p e ≡ Some r → GoesOn r
    assertion_goes k r g =
        let s = map_some (λ s. if_some (without (pos 0) s) (record p { passed = None })) (span_of q.temps p e) r g in
        let numbers_left = some_numbers k.0 (without (pos 0) s.0) (sym k.2 ∙ here) (k.1.plain s.0 (value_ruled s.0 s.1)) in
        same_goes k.3 r (sym (cond-true (has_numbers (without (pos 0) s.0)) (Some (record p { passed = None })) None numbers_left) ∙ s.2)

  -- a kind that cuts nothing
  uncut_goes : (o : Option Bool) → new ≡ rs → (r : Option Plain) → option_map (λ suspect. Some (record p { passed = None })) o ≡ Some r → GoesOn r
  uncut_goes o is r g = let u = map_some (λ (suspect : Bool). Some (record p { passed = None })) o r g in same_goes is r u.2

  module _ (c : CsCheckTree) where
    one_goes : (e : CsExprTree) (value exact : Range) (some : Bool) → c.operands ≡ e ∷ [] → AreOperandsTyped q e → IsRangeOf rs e value → IsExactOf rs e exact
        → IsTrue some → IsResultOf c.check.kind e c.check → KeepsPassing c.check.kind c.check e value exact rs some new left → (r : Option Plain)
        → plain_pass q.temps p c ≡ Some r → GoesOn r
    one_goes e value exact some are typed fv fe here of_check k r g = by c.check.kind refl of_check k g where
      look : {A : Type 0} (f : CsExprTree → Option A) (x : A) → of_one c.operands f ≡ Some x → f e ≡ Some x
      look f x i = ap (λ es. of_one es f) (sym are) ∙ i

      -- a result that is checked as one is no remainder
      result : result_check e ≡ Some c.check → (c.check.kind ≡ kinds.Quotient → ⊥) → KeepsResult c.check e exact rs some new left
          → of_one c.operands (pass_result q.temps p c.check) ≡ Some r → GoesOn r
      result i out k g =
          let rest = not_rest e c.check i out in
          result_goes c.check e value exact some typed fv fe here k i (quotient_itself q.temps p c.check e rest).1 rest r (look (pass_result q.temps p c.check) r g)

      by : (kind : WrongKind) → c.check.kind ≡ kind → IsResultOf kind e c.check → KeepsPassing kind c.check e value exact rs some new left
          → passes_by q.temps p c kind ≡ Some r → GoesOn r
      by kinds.Overflow is i k g = result i (λ other. clash is other) k g where
        clash : c.check.kind ≡ kinds.Overflow → c.check.kind ≡ kinds.Quotient → ⊥
        clash is other = let e : kinds.Overflow ≡ kinds.Quotient = sym is ∙ other in absurd (cc)
      by kinds.Quotient is i k g = quotient_goes c.check e value exact some typed fv fe here k i r (look (pass_quotient q.temps p c.check) r g)
      by kinds.ShiftResult is i k g = result i (λ other. clash is other) k g where
        clash : c.check.kind ≡ kinds.ShiftResult → c.check.kind ≡ kinds.Quotient → ⊥
        clash is other = let e : kinds.ShiftResult ≡ kinds.Quotient = sym is ∙ other in absurd (cc)
      by kinds.ShiftAmount is i k g = operand_goes c.check e value exact some typed fv fe here (IsCutTo value (span c.check.lo c.check.hi))
          (λ s. within s (allowed c.check)) k
          (λ found cut s w. in_common found (range_of s) (range_of (span c.check.lo c.check.hi)) (wider found value (range_of s) cut.first w) cut.second) r
          (look (λ e. pass_operand q.temps p e (λ s. within s (allowed c.check))) r g)
      by kinds.DivideByZero is i k g = operand_goes c.check e value exact some typed fv fe here (IsCutNonzero value) (without (pos 0)) k
          (λ found cut s w. cut.plain s w) r (look (λ e. pass_operand q.temps p e (without (pos 0))) r g)
      by kinds.AssertFailed is i k g = assertion_goes c.check e value exact some typed fv fe here k r (look (pass_assertion q.temps p) r g)
      by kinds.NullUse is i k g = uncut_goes (suspect_of q.temps p c kinds.NullUse) k.1 r g
      by kinds.Dangling is i k g = uncut_goes (suspect_of q.temps p c kinds.Dangling) k.1 r g
      by kinds.Bounds is i k g = uncut_goes (suspect_of q.temps p c kinds.Bounds) k.1 r g
      by kinds.Access is i k g = uncut_goes (suspect_of q.temps p c kinds.Access) k.1 r g
      by kinds.Alignment is i k g = uncut_goes (suspect_of q.temps p c kinds.Alignment) k.1 r g
      by kinds.ReadOnly is i k g = uncut_goes (suspect_of q.temps p c kinds.ReadOnly) k.1 r g
      by kinds.Unrelated is i k g = uncut_goes (suspect_of q.temps p c kinds.Unrelated) k.1 r g
      by kinds.NoValue is i k g = uncut_goes (suspect_of q.temps p c kinds.NoValue) k.1 r g
      by kinds.Indeterminate is i k g = uncut_goes (suspect_of q.temps p c kinds.Indeterminate) k.1 r g
      by kinds.Fragment is i k g = uncut_goes (suspect_of q.temps p c kinds.Fragment) k.1 r g

    -- of two operands nothing is kept but what was there
    two_goes : (a b : CsExprTree) → c.operands ≡ a ∷ b ∷ [] → new ≡ rs → (r : Option Plain) → plain_pass q.temps p c ≡ Some r → GoesOn r
    two_goes a b are is r g = by c.check.kind g where
      none : {A : Type 0} (f : CsExprTree → Option A) (x : A) → of_one c.operands f ≡ Some x → ⊥
      none f x i = let e = ap (λ es. of_one es f) (sym are) ∙ i in cc

      by : (kind : WrongKind) → passes_by q.temps p c kind ≡ Some r → GoesOn r
      by kinds.Overflow g = absurd (none (pass_result q.temps p c.check) r g)
      by kinds.Quotient g = absurd (none (pass_quotient q.temps p c.check) r g)
      by kinds.ShiftResult g = absurd (none (pass_result q.temps p c.check) r g)
      by kinds.ShiftAmount g = absurd (none (λ e. pass_operand q.temps p e (λ s. within s (allowed c.check))) r g)
      by kinds.DivideByZero g = absurd (none (λ e. pass_operand q.temps p e (without (pos 0))) r g)
      by kinds.AssertFailed g = absurd (none (pass_assertion q.temps p) r g)
      by kinds.NullUse g = uncut_goes (suspect_of q.temps p c kinds.NullUse) is r g
      by kinds.Dangling g = uncut_goes (suspect_of q.temps p c kinds.Dangling) is r g
      by kinds.Bounds g = uncut_goes (suspect_of q.temps p c kinds.Bounds) is r g
      by kinds.Access g = uncut_goes (suspect_of q.temps p c kinds.Access) is r g
      by kinds.Alignment g = uncut_goes (suspect_of q.temps p c kinds.Alignment) is r g
      by kinds.ReadOnly g = uncut_goes (suspect_of q.temps p c kinds.ReadOnly) is r g
      by kinds.Unrelated g = uncut_goes (suspect_of q.temps p c kinds.Unrelated) is r g
      by kinds.NoValue g = uncut_goes (suspect_of q.temps p c kinds.NoValue) is r g
      by kinds.Indeterminate g = uncut_goes (suspect_of q.temps p c kinds.Indeterminate) is r g
      by kinds.Fragment g = uncut_goes (suspect_of q.temps p c kinds.Fragment) is r g

-- the operand of a check of one expression, as it stands in a formed program
pub check_result : (q : CsProgramTree) (c : CsCheckTree) (e : CsExprTree) → c.operands ≡ e ∷ [] → IsOf q (Checked c) → IsResultOf c.check.kind e c.check
check_result q c e are given = by c.check.kind c.operands are given.check.2 where
  by : (kind : WrongKind) (es : List CsExprTree) → es ≡ e ∷ [] → FieldsAre kind es c.check → IsResultOf kind e c.check
  by kinds.Overflow es is h = subst (λ (l : List CsExprTree). FieldsAre kinds.Overflow l c.check) is h
  by kinds.Quotient es is h = subst (λ (l : List CsExprTree). FieldsAre kinds.Quotient l c.check) is h
  by kinds.ShiftResult es is h = subst (λ (l : List CsExprTree). FieldsAre kinds.ShiftResult l c.check) is h
  by kind es is h = tt

pub check_typed : (q : CsProgramTree) (c : CsCheckTree) (e : CsExprTree) → c.operands ≡ e ∷ [] → IsOf q (Checked c) → AreOperandsTyped q e
check_typed q c e are given = All-head (AreOperandsTyped q) e [] (subst (All (AreOperandsTyped q)) are given.typed.0)

pub pass_under : (q : CsProgramTree) (types : List Scalar) (rs new : List Range) (passed left : Option Remembered) (c : CsCheckTree) (e : CsExprTree)
    (value exact : Range) (some : Bool) → q.temps ≡ types → IsOf q (Checked c) → c.operands ≡ e ∷ [] → IsRangeOf rs e value → IsExactOf rs e exact
    → KeepsPassing c.check.kind c.check e value exact rs some new left → (p : Plain) (r : Option Plain) → IsUnderPlain types rs passed p
    → plain_pass types p c ≡ Some r → IsTrue some → (x : Plain) × (r ≡ Some x) × IsUnderPlain types new left x × KeepsObjects p x
pass_under q types rs new passed left c e value exact some same given are fv fe k p r h g here =
    subst (λ (ts : List Scalar). IsUnderPlain ts rs passed p → plain_pass ts p c ≡ Some r → (x : Plain) × (r ≡ Some x) × IsUnderPlain ts new left x × KeepsObjects p x) same
    (λ h g. one_goes q rs new passed left p h c e value exact some are (check_typed q c e are given) fv fe here (check_result q c e are given) k r g) h g
