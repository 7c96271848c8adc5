-- Where a plain run has no suspect nothing is shown that fails.
use Rattle.std.proofs.Common.{◌≡◌, ◌≤ℤ◌, ◌<ℤ◌, ◌⊎◌, ℤ, pos, Bool, true, false, arith, inl, inr, refl, sym, subst, ap, ◌∙◌, List, [], ◌∷◌, Option, Some, None}
use Rattle.std.specs.Prelude.{not, option_map}
use Rattle.std.specs.Int.RustNames.{int_le}
use Rattle.std.proofs.lemmas.Int.{ints}
use Rattle.std.proofs.lemmas.Bool.{and_parts}
use Rattle.c_syntax_written.specs.declared.int_type.IntType.{IntType}
use Rattle.c_syntax_written.specs.declared.int_type.IntType.TheVariants as types
use Rattle.c_syntax_written.specs.Integer.{least, greatest}
use Rattle.c_layout.specs.Checks.{amount_check}
use Rattle.c_syntax.specs.declared.alarm.Check.{Check}
use Rattle.c_syntax.specs.declared.alarm.Shown.{Shown}
use Rattle.c_syntax.specs.declared.alarm.WrongKind.{WrongKind}
use Rattle.c_syntax.specs.declared.alarm.WrongKind.TheVariants as kinds
use Rattle.c_syntax.specs.declared.operator.Arithmetic.{Arithmetic}
use Rattle.c_syntax.specs.declared.operator.Arithmetic.TheVariants as arithmetics
use Rattle.c_syntax.specs.declared.operator.Shift.TheVariants as shifts
use Rattle.c_syntax.specs.declared.operator.TUnaryOp.TheVariants as unaries
use Rattle.c_syntax.specs.declared.operator.TBinaryOp.TheVariants as binaries
use Rattle.c_syntax.specs.Types.{ObjectTree}
use Rattle.c_syntax.specs.Operand.{Operand, Number, Point, Points, Mark, End}
use Rattle.c_syntax.specs.Admission.{IsInShown, IsOutside, IsZero, FailsKind, Fails}
use Rattle.block_mem.specs.declared.types.Scalar.{Scalar}
use Rattle.num_api.specs.declared.message.Range.{Range}
use Rattle.num_api.specs.Ranges.{NoWider}
use Rattle.num_api.specs.Spans.{Span, span, range_of}
use Rattle.num_api.proofs.Parts.{wider}
use Rattle.machine_nums.specs.Rule.{value_span, exact_span}
use Rattle.csharp.specs.Trees.{CsExprTree, CsProgramTree, CsCheckTree, Unary, Binary, Checked}
use Rattle.csharp.specs.Formed.{AreOperandsTyped, FieldsAre, result_check, arithmetic_check, signed_check}
use Rattle.mem_api.specs.Given.{IsOf}
use Rattle.plain_runs.specs.States.{Plain, given, span_of}
use Rattle.plain_runs.specs.Numbers.{number_expr}
use Rattle.plain_runs.specs.Checks.{of_one, exact_of, quotient_of, is_inside, holds_zero, may_leave, suspect_of, plain_suspect}
use Rattle.mem_temps.specs.Checks.{IsExactOf, IsSmall}
use Rattle.mem_temps.specs.Exprs.{IsRangeOf}
use Rattle.mem_temps.specs.Shows.{ShowsNumbers, ShowsWithin, ShowsNonzero}
use Rattle.mem_temps.proofs.Ranged.{map_some}
use Rattle.mem_intervals.specs.Passed.{Remembered}
use Rattle.mem_intervals.specs.Under.{IsUnderPlain}
use Rattle.mem_intervals.proofs.Outcomes.{IsResultOf, signed_is}
use Rattle.mem_intervals.proofs.Surviving.{check_result, check_typed, not_rest, quotient_alone}

-- ---- the ends of checks are small

abbrev AreEndsSmall : Check → Type 0
AreEndsSmall check = IsSmall check.lo × IsSmall check.hi

signed_small : (kind : WrongKind) (t : IntType) (low : ℤ) (check : Check) → IsSmall low → IsSmall (pos (greatest t)) → signed_check kind t low ≡ Some check
    → AreEndsSmall check
signed_small kind t low check h k e = subst AreEndsSmall (signed_is kind t low check e).1 (h, k)

least_small : (t : IntType) → IsSmall (least t)
least_small types.Char = (omega (arith, ints), omega (arith, ints))
least_small types.SChar = (omega (arith, ints), omega (arith, ints))
least_small types.UChar = (omega (arith, ints), omega (arith, ints))
least_small types.Short = (omega (arith, ints), omega (arith, ints))
least_small types.UShort = (omega (arith, ints), omega (arith, ints))
least_small types.Int = (omega (arith, ints), omega (arith, ints))
least_small types.UInt = (omega (arith, ints), omega (arith, ints))
least_small types.Long = (omega (arith, ints), omega (arith, ints))
least_small types.ULong = (omega (arith, ints), omega (arith, ints))
least_small types.LLong = (omega (arith, ints), omega (arith, ints))
least_small types.ULLong = (omega (arith, ints), omega (arith, ints))

greatest_small : (t : IntType) → IsSmall (pos (greatest t))
greatest_small types.Char = (omega (arith, ints), omega (arith, ints))
greatest_small types.SChar = (omega (arith, ints), omega (arith, ints))
greatest_small types.UChar = (omega (arith, ints), omega (arith, ints))
greatest_small types.Short = (omega (arith, ints), omega (arith, ints))
greatest_small types.UShort = (omega (arith, ints), omega (arith, ints))
greatest_small types.Int = (omega (arith, ints), omega (arith, ints))
greatest_small types.UInt = (omega (arith, ints), omega (arith, ints))
greatest_small types.Long = (omega (arith, ints), omega (arith, ints))
greatest_small types.ULong = (omega (arith, ints), omega (arith, ints))
greatest_small types.LLong = (omega (arith, ints), omega (arith, ints))
greatest_small types.ULLong = (omega (arith, ints), omega (arith, ints))

zero_small : IsSmall (pos 0)
zero_small = (omega (arith, ints), omega (arith, ints))

amount_small : (t : IntType) → AreEndsSmall (amount_check t)
amount_small types.Char = (zero_small, (omega (arith, ints), omega (arith, ints)))
amount_small types.SChar = (zero_small, (omega (arith, ints), omega (arith, ints)))
amount_small types.UChar = (zero_small, (omega (arith, ints), omega (arith, ints)))
amount_small types.Short = (zero_small, (omega (arith, ints), omega (arith, ints)))
amount_small types.UShort = (zero_small, (omega (arith, ints), omega (arith, ints)))
amount_small types.Int = (zero_small, (omega (arith, ints), omega (arith, ints)))
amount_small types.UInt = (zero_small, (omega (arith, ints), omega (arith, ints)))
amount_small types.Long = (zero_small, (omega (arith, ints), omega (arith, ints)))
amount_small types.ULong = (zero_small, (omega (arith, ints), omega (arith, ints)))
amount_small types.LLong = (zero_small, (omega (arith, ints), omega (arith, ints)))
amount_small types.ULLong = (zero_small, (omega (arith, ints), omega (arith, ints)))

arithmetic_small : (op : Arithmetic) (t : IntType) (check : Check) → arithmetic_check op t ≡ Some check → AreEndsSmall check
arithmetic_small arithmetics.Multiply t check h = signed_small kinds.Overflow t (least t) check (least_small t) (greatest_small t) h
arithmetic_small arithmetics.Divide t check h = signed_small kinds.Quotient t (least t) check (least_small t) (greatest_small t) h
arithmetic_small arithmetics.Remainder t check h = signed_small kinds.Quotient t (least t) check (least_small t) (greatest_small t) h
arithmetic_small arithmetics.Add t check h = signed_small kinds.Overflow t (least t) check (least_small t) (greatest_small t) h
arithmetic_small arithmetics.Subtract t check h = signed_small kinds.Overflow t (least t) check (least_small t) (greatest_small t) h
arithmetic_small op t check h = absurd (cc)

result_small : (e : CsExprTree) (check : Check) → result_check e ≡ Some check → AreEndsSmall check
result_small (Unary (unaries.Minus t) e) check h = signed_small kinds.Overflow t (least t) check (least_small t) (greatest_small t) h
result_small (Binary (binaries.Arithmetic op t) e f) check h = arithmetic_small op t check h
result_small (Binary (binaries.Shift shifts.Left t) e f) check h = signed_small kinds.ShiftResult t (pos 0) check zero_small (greatest_small t) h
result_small e check h = absurd (cc)

-- ---- what is no suspect

not_false : (b : Bool) → not b ≡ false → b ≡ true
not_false true h = refl
not_false false h = absurd (cc)

le_from : (a b : ℤ) → int_le a b ≡ true → a ≤ℤ b
le_from a b h = omega (arith, ints, h)

inside_ends : (check : Check) (z : Span) → is_inside check z ≡ true → NoWider (range_of z) (range_of (span check.lo check.hi))
inside_ends check z h =
    let e = and_parts (int_le check.lo z.lo) (int_le z.hi check.hi) h in record { low = le_from check.lo z.lo e.0; high = le_from z.hi check.hi e.1 }

-- a result that may not leave is known
stays_in : (check : Check) (o : Option Span) → may_leave check o ≡ false → (z : Span) × (o ≡ Some z) × (is_inside check z ≡ true)
stays_in check None h = absurd (cc)
stays_in check (Some z) h = (z, refl, not_false (is_inside check z) h)

not_outside : (lo hi n : ℤ) → (lo ≤ℤ n) × (n ≤ℤ hi) → (n <ℤ lo) ⊎ (hi <ℤ n) → ⊥
not_outside lo hi n b (inl k) = let low = b.0 in omega (arith, ints)
not_outside lo hi n b (inr k) = let high = b.1 in omega (arith, ints)

within_safe : (objects : List ObjectTree) (check : Check) (r : Range) (w : Shown) (x : Operand) → ShowsWithin r w → AreEndsSmall check
    → NoWider r (range_of (span check.lo check.hi)) → IsInShown objects x w → IsOutside check.lo check.hi x → ⊥
within_safe objects check r w (Number n) f small narrow h out =
    not_outside check.lo check.hi n (f objects n check.lo check.hi small.0 small.1 narrow h) out
within_safe objects check r w (Point s) f small narrow h out = out
within_safe objects check r w (Points s t) f small narrow h out = out
within_safe objects check r w (Mark m) f small narrow h out = out
within_safe objects check r w (End e) f small narrow h out = out

nonzero_safe : (objects : List ObjectTree) (r : Range) (w : Shown) (x : Operand) (s : Span) → ShowsNonzero r w → NoWider r (range_of s) → holds_zero s ≡ false
    → IsInShown objects x w → IsZero x → ⊥
nonzero_safe objects r w (Number n) s f narrow no_zero h out = f objects n s narrow (ap not no_zero) h out
nonzero_safe objects r w (Point p) s f narrow no_zero h out = out
nonzero_safe objects r w (Points p t) s f narrow no_zero h out = out
nonzero_safe objects r w (Mark m) s f narrow no_zero h out = out
nonzero_safe objects r w (End e) s f narrow no_zero h out = out

-- the checks that look at no number
abbrev pub LooksAtNoNumber : WrongKind → Type 0
LooksAtNoNumber kinds.Overflow = ⊥
LooksAtNoNumber kinds.Quotient = ⊥
LooksAtNoNumber kinds.ShiftResult = ⊥
LooksAtNoNumber kinds.ShiftAmount = ⊥
LooksAtNoNumber kinds.DivideByZero = ⊥
LooksAtNoNumber kinds.AssertFailed = ⊥
LooksAtNoNumber kind = Unit {0}

module _ (q : CsProgramTree) (os : List ObjectTree) (rs : List Range) (passed : Option Remembered) (p : Plain) (h : IsUnderPlain q.temps rs passed p) (c : CsCheckTree)
    (e : CsExprTree) (value exact : Range) (are : c.operands ≡ e ∷ []) (given_check : IsOf q (Checked c)) (fv : IsRangeOf rs e value) (fe : IsExactOf rs e exact) where
  typed : AreOperandsTyped q e
  typed = check_typed q c e are given_check

  look : {A B : Type 0} (f : CsExprTree → Option A) (g : A → B) (b : B) → option_map g (of_one c.operands f) ≡ Some b → (a : A) × (f e ≡ Some a) × (g a ≡ b)
  look f g b i = let a = map_some g (of_one c.operands f) b i in (a.0, ap (λ es. of_one es f) (sym are) ∙ a.1, a.2)

  -- the numbers by the rule lie in what is allowed
  exact_inside : (looked : CsExprTree → CsExprTree) → result_check e ≡ Some c.check → looked e ≡ quotient_of e
      → option_map (may_leave c.check) (of_one c.operands (λ e. exact_of q.temps p (looked e))) ≡ Some false → NoWider exact (range_of (span c.check.lo c.check.hi))
  exact_inside looked i same g =
      let o = look (λ e. exact_of q.temps p (looked e)) (may_leave c.check) false g in
      let z = stays_in c.check o.0 o.2 in
      let m = map_some (exact_span (given p)) (number_expr q.temps (looked e)) o.0 o.1 in
      wider exact (range_of z.0) (range_of (span c.check.lo c.check.hi))
      (fe.plain q c.check p m.0 z.0 typed i h.inside h.under (ap (number_expr q.temps) (sym same) ∙ m.1) (m.2 ∙ z.1))
      (inside_ends c.check z.0 z.2)

  value_ruled : (s : Span) → span_of q.temps p e ≡ Some s → NoWider value (range_of s)
  value_ruled s g =
      let m = map_some (value_span (given p)) (number_expr q.temps e) s g in
      subst (λ (z : Span). NoWider value (range_of z)) m.2 (fv.plain q p m.0 typed h.inside h.under m.1)

  result_safe : (w : Shown) (x : Operand) → result_check e ≡ Some c.check → (c.check.kind ≡ kinds.Quotient → ⊥) → ShowsWithin exact w
      → option_map (may_leave c.check) (of_one c.operands (exact_of q.temps p)) ≡ Some false → IsInShown os x w → IsOutside c.check.lo c.check.hi x → ⊥
  result_safe w x i out f g s k = within_safe os c.check exact w x f (result_small e c.check i)
      (exact_inside (λ e. e) i (sym (quotient_alone e (not_rest e c.check i out))) g) s k

  amount_small_here : FieldsAre kinds.ShiftAmount c.operands c.check → AreEndsSmall c.check
  amount_small_here f = subst AreEndsSmall (sym f.1) (amount_small f.0)

  one_safe : (w : Shown) (x : Operand) → ((kind : WrongKind) → c.check.kind ≡ kind → LooksAtNoNumber kind → suspect_of q.temps p c kind ≡ Some false → ⊥) → ShowsNumbers c.check.kind value exact w → plain_suspect q.temps p c ≡ Some false → IsInShown os x w
      → Fails os c.check x → ⊥
  one_safe w x untold f g s k = by c.check.kind refl (check_result q c e are given_check) given_check.check.2 f g k where
    zero_safe : ShowsNonzero value w → option_map holds_zero (of_one c.operands (span_of q.temps p)) ≡ Some false → IsZero x → ⊥
    zero_safe f g k = let z = look (span_of q.temps p) holds_zero false g in nonzero_safe os value w x z.0 f (value_ruled z.0 z.1) z.2 s k

    by : (kind : WrongKind) → c.check.kind ≡ kind → IsResultOf kind e c.check → FieldsAre kind c.operands c.check → ShowsNumbers kind value exact w
        → suspect_of q.temps p c kind ≡ Some false → FailsKind os c.check kind x → ⊥
    by kinds.Overflow is i fields f g k = result_safe w x i (λ other. clash is other) f g s k where
      clash : c.check.kind ≡ kinds.Overflow → c.check.kind ≡ kinds.Quotient → ⊥
      clash is other = let e : kinds.Overflow ≡ kinds.Quotient = sym is ∙ other in absurd (cc)
    by kinds.ShiftResult is i fields f g k = result_safe w x i (λ other. clash is other) f g s k where
      clash : c.check.kind ≡ kinds.ShiftResult → c.check.kind ≡ kinds.Quotient → ⊥
      clash is other = let e : kinds.ShiftResult ≡ kinds.Quotient = sym is ∙ other in absurd (cc)
    by kinds.Quotient is i fields f g k =
        within_safe os c.check exact w x f (result_small e c.check i) (exact_inside quotient_of i refl g) s k
    by kinds.ShiftAmount is i fields f g k =
        let z = look (span_of q.temps p) (λ s. not (is_inside c.check s)) false g in
        within_safe os c.check value w x f (amount_small_here fields)
        (wider value (range_of z.0) (range_of (span c.check.lo c.check.hi)) (value_ruled z.0 z.1) (inside_ends c.check z.0 (not_false (is_inside c.check z.0) z.2))) s k
    by kinds.DivideByZero is i fields f g k = zero_safe f g k
    by kinds.AssertFailed is i fields f g k = zero_safe f g k
    by kinds.NullUse is i fields f g k = untold kinds.NullUse is tt g
    by kinds.Bounds is i fields f g k = untold kinds.Bounds is tt g
    by kinds.Access is i fields f g k = untold kinds.Access is tt g
    by kinds.Alignment is i fields f g k = untold kinds.Alignment is tt g
    by kinds.Dangling is i fields f g k = untold kinds.Dangling is tt g
    by kinds.ReadOnly is i fields f g k = untold kinds.ReadOnly is tt g
    by kinds.Indeterminate is i fields f g k = untold kinds.Indeterminate is tt g
    by kinds.Fragment is i fields f g k = untold kinds.Fragment is tt g
    by kinds.Unrelated is i fields f g k = untold kinds.Unrelated is tt g
    by kinds.NoValue is i fields f g k = untold kinds.NoValue is tt g

pub suspect_safe : (q : CsProgramTree) (os : List ObjectTree) (types : List Scalar) (rs : List Range) (passed : Option Remembered) (c : CsCheckTree) (e : CsExprTree)
    (value exact : Range) (w : Shown) → q.temps ≡ types → IsOf q (Checked c) → c.operands ≡ e ∷ [] → IsRangeOf rs e value → IsExactOf rs e exact
    → ShowsNumbers c.check.kind value exact w → (p : Plain) (x : Operand)
    → ((kind : WrongKind) → c.check.kind ≡ kind → LooksAtNoNumber kind → suspect_of types p c kind ≡ Some false → ⊥) → IsUnderPlain types rs passed p
    → plain_suspect types p c ≡ Some false → IsInShown os x w → Fails os c.check x → ⊥
suspect_safe q os types rs passed c e value exact w same given_check are fv fe f p x untold h g =
    subst (λ (ts : List Scalar). ((kind : WrongKind) → c.check.kind ≡ kind → LooksAtNoNumber kind → suspect_of ts p c kind ≡ Some false → ⊥) → IsUnderPlain ts rs passed p
    → plain_suspect ts p c ≡ Some false → IsInShown os x w → Fails os c.check x → ⊥) same
    (λ untold h g. one_safe q os rs passed p h c e value exact are given_check fv fe w x untold f g) untold h g
