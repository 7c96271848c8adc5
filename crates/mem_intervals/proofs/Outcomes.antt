-- What passes a check of one expression.
use Rattle.std.proofs.Common.{◌≡◌, ◌≤ℤ◌, ℤ, pos, Bool, true, false, arith, refl, sym, subst, ap, ◌∙◌, List, [], ◌∷◌, Option, Some, None}
use Rattle.std.specs.Prelude.{IsTrue, ◌&&◌, ◌||◌, int_lt, if◌then◌else◌, option_and_then, slice_get}
use Rattle.std.specs.Ordering.{int_eq}
use Rattle.std.proofs.lemmas.Int.{ints}
use Rattle.std.proofs.lemmas.Bool.Decides.{Decides-int_eq}
use Rattle.c_syntax_written.specs.declared.int_type.IntType.{IntType}
use Rattle.c_syntax_written.specs.declared.int_type.IntType.TheVariants as types
use Rattle.c_syntax_written.specs.Integer.{is_signed, least, greatest, wrapped}
use Rattle.c_layout.specs.Checks.{range_check}
use Rattle.c_syntax.specs.declared.alarm.Check.{Check}
use Rattle.c_syntax.specs.declared.alarm.WrongKind.{WrongKind}
use Rattle.c_syntax.specs.declared.alarm.WrongKind.TheVariants as kinds
use Rattle.c_syntax.specs.declared.operator.Arithmetic.{Arithmetic}
use Rattle.c_syntax.specs.declared.operator.Arithmetic.TheVariants as arithmetics
use Rattle.c_syntax.specs.declared.operator.Shift.TheVariants as shifts
use Rattle.c_syntax.specs.declared.operator.TUnaryOp.TheVariants as unaries
use Rattle.c_syntax.specs.declared.operator.TBinaryOp.{TBinaryOp}
use Rattle.c_syntax.specs.declared.operator.TBinaryOp.TheVariants as binaries
use Rattle.c_syntax.specs.Types.{ObjectTree}
use Rattle.c_syntax.specs.Operand.{Operand, Number}
use Rattle.c_syntax.specs.Failing.{is_outside, fails_kind}
use Rattle.block_mem.specs.declared.types.Scalar.{Scalar}
use Rattle.block_mem.specs.declared.types.Value.{Value}
use Rattle.block_mem.specs.declared.types.Value.TheVariants as values
use Rattle.c_values.specs.Numbers.{arithmetic, exact_arithmetic}
use Rattle.c_values.specs.Operators.{binary_result, unary_result, number, exact_binary, unary_operand}
use Rattle.ext_int.proofs.Ends.{holds_number_from}
use Rattle.num_api.specs.declared.message.Range.{Range}
use Rattle.num_api.specs.Ranges.{InRange, NoWider, holds_some}
use Rattle.num_api.specs.Spans.{span, range_of}
use Rattle.num_api.proofs.Parts.{as_wide, wider}
use Rattle.machine_nums.specs.Rule.{type_span}
use Rattle.machine_nums.proofs.Values.{wrapped-has}
use Rattle.machine_nums.proofs.Wrapped.{inside_has, point_from}
use Rattle.csharp.specs.Trees.{CsExprTree, Temp, Unary, Binary}
use Rattle.csharp.specs.Formed.{result_check, signed_check, arithmetic_check}
use Rattle.csharp.specs.States.{State, value_of, exact_of, operand_of, takes_right, if_taken}
use Rattle.mem_temps.specs.Values.{number_of}
use Rattle.mem_temps.specs.Ranges.{range_at, AreIn}
use Rattle.mem_temps.specs.Sets.{IsSharp, Stands}
use Rattle.mem_temps.specs.Shows.{OperandIn, truth_of}
use Rattle.mem_temps.proofs.Ranged.{and_then_some}
use Rattle.mem_temps.proofs.Valued.{taken_value}
use Rattle.mem_temps.specs.Cuts.{IsCutTo, IsCutNonzero}
use Rattle.mem_temps.proofs.Kept.{kept_narrow, kept_holds}
use Rattle.mem_intervals.specs.Passed.{Remembered, IsPassed}
use Rattle.mem_intervals.specs.Passing.{own_temp, is_rest, is_a_remainder, KeepsResult, KeepsOperand, KeepsPassing}

-- ---- narrower ranges of the same states

pub stands_narrow : (objects : _) (types : List Scalar) (rs new : List Range) (s : State) → Stands objects types rs s → AreIn new s → Stands objects types new s
stands_narrow objects types rs new s h all = record { owned = h.owned; places = h.places; size = h.size; kinds = h.kinds; temps = all }

pub sharp_narrow : (objects : _) (types : List Scalar) (rs new : List Range) (s : State) → IsSharp objects types rs s
    → ((d : _) → NoWider (range_at new d) (range_at rs d)) → AreIn new s → IsSharp objects types new s
sharp_narrow objects types rs new s h narrow all = record {
  stands = stands_narrow objects types rs new s h.stands all;
  none = h.none;
  all = record {
    temps = λ d v f. let p = h.all.temps d v f in
        (point_from (range_at new d) (range_at rs d) (number_of v) (number_of v) (all d v f) (narrow d) p.0, p.1);
    places = h.all.places;
  };
  inside = λ d t f. wider (range_at new d) (range_at rs d) _ (narrow d) (h.inside d t f);
  inputs = h.inputs;
}

-- ---- numbers between two ends

neither : (a b : Bool) → (a || b) ≡ false → (a ≡ false) × (b ≡ false)
neither false false e = (refl, refl)
neither true b e = absurd (cc)
neither false true e = absurd (cc)

at_least : (a b : ℤ) → int_lt a b ≡ false → b ≤ℤ a
at_least a b h = omega (arith, ints, h)

pub between_ends : (lo hi n : ℤ) → is_outside lo hi n ≡ false → (lo ≤ℤ n) × (n ≤ℤ hi)
between_ends lo hi n h = let e = neither (int_lt n lo) (int_lt hi n) h in (at_least n lo e.0, at_least hi n e.1)

-- ---- results that are the values

-- the check of a signed operator asks for numbers of its type
pub signed_is : (kind : WrongKind) (t : IntType) (low : ℤ) (check : Check) → signed_check kind t low ≡ Some check
    → (is_signed t ≡ true) × (range_check kind low (pos (greatest t)) ≡ check)
signed_is kind t low check h = by (is_signed t) refl h where
  by : (b : Bool) → is_signed t ≡ b → (if b then Some (range_check kind low (pos (greatest t))) else None) ≡ Some check
      → (is_signed t ≡ true) × (range_check kind low (pos (greatest t)) ≡ check)
  by true e h = (e, cc)
  by false e h = absurd (cc)

least_below : (t : IntType) → least t ≤ℤ pos 0
least_below types.Char = omega (arith, ints)
least_below types.SChar = omega (arith, ints)
least_below types.UChar = omega (arith, ints)
least_below types.Short = omega (arith, ints)
least_below types.UShort = omega (arith, ints)
least_below types.Int = omega (arith, ints)
least_below types.UInt = omega (arith, ints)
least_below types.Long = omega (arith, ints)
least_below types.ULong = omega (arith, ints)
least_below types.LLong = omega (arith, ints)
least_below types.ULLong = omega (arith, ints)

kept_number : (kind : WrongKind) (t : IntType) (low n : ℤ) (check : Check) → least t ≤ℤ low → signed_check kind t low ≡ Some check
    → is_outside check.lo check.hi n ≡ false → wrapped t n ≡ n
kept_number kind t low n check above h out =
    let c = (signed_is kind t low check h).1 in
    let ends = between_ends low (pos (greatest t)) n (subst (λ (k : Check). is_outside k.lo k.hi n ≡ false) (sym c) out) in
    wrapped-has t n (inside_has t (range_of (type_span t)) n (as_wide (range_of (type_span t)))
    (record { low = lower (least t) low n above ends.0; high = ends.1 }))
  where
    lower : (a b c : ℤ) → a ≤ℤ b → b ≤ℤ c → a ≤ℤ c
    lower a b c h k = omega (arith, ints)

itself : (n : ℤ) → n ≤ℤ n
itself n = omega (arith, ints)

same_number : (m n : ℤ) → Some (Number m) ≡ Some (Number n) → m ≡ n
same_number m n e = cc

-- of an operator that has the check, but for remainders
wraps_exact : (op : Arithmetic) (t : IntType) (check : Check) (a b : ℤ) → arithmetic_check op t ≡ Some check → is_rest (binaries.Arithmetic op t) ≡ false
    → (arithmetic op t a b ≡ wrapped t (exact_arithmetic op a b)) × (kind : WrongKind) × (signed_check kind t (least t) ≡ Some check)
wraps_exact arithmetics.Multiply t check a b h rest = (refl, kinds.Overflow, h)
wraps_exact arithmetics.Divide t check a b h rest = (refl, kinds.Quotient, h)
wraps_exact arithmetics.Remainder t check a b h rest = absurd (cc)
wraps_exact arithmetics.Add t check a b h rest = (refl, kinds.Overflow, h)
wraps_exact arithmetics.Subtract t check a b h rest = (refl, kinds.Overflow, h)
wraps_exact arithmetics.BitAnd t check a b h rest = absurd (cc)
wraps_exact arithmetics.BitXor t check a b h rest = absurd (cc)
wraps_exact arithmetics.BitOr t check a b h rest = absurd (cc)

one_value : (o : Option Value) (v u : Value) → o ≡ Some v → o ≡ Some u → v ≡ u
one_value o v u h k = let e : Some v ≡ Some u = sym h ∙ k in cc

-- both operands of what a binary operator gives, of either kind
operands : {A : Type 0} (op : TBinaryOp) (act : Value → Value → Option A) (e f : CsExprTree) (s : State) (x : A)
    → option_and_then (λ v. option_and_then (if_taken op act v) (value_of f s)) (value_of e s) ≡ Some x
    → (v : Value) × (u : Value) × (value_of e s ≡ Some v) × (value_of f s ≡ Some u) × (act v u ≡ Some x)
operands op act e f s x h =
    let v = and_then_some (λ v. option_and_then (if_taken op act v) (value_of f s)) (value_of e s) x h in
    let u = and_then_some (if_taken op act v.0) (value_of f s) x v.2 in (v.0, u.0, v.1, u.1, (taken_value (takes_right op u.0) (act v.0 u.0) x u.2).1)

-- where the exact result is one that the check allows, it is the value
module _ (check : Check) (s : State) (n : ℤ) (v : Value) (out : is_outside check.lo check.hi n ≡ false) where
  minus_value : (t : IntType) (e : CsExprTree) → signed_check kinds.Overflow t (least t) ≡ Some check → exact_of (Unary (unaries.Minus t) e) s ≡ Some (Number n)
      → value_of (Unary (unaries.Minus t) e) s ≡ Some v → number_of v ≡ n
  minus_value t e c h k =
      let x = and_then_some (λ v. unary_operand s.memory (unaries.Minus t) v kinds.Overflow) (value_of e s) (Number n) h in
      let y = and_then_some (unary_result (unaries.Minus t)) (value_of e s) v k in
      by x.0 x.2 (subst (λ (w : Value). unary_result (unaries.Minus t) w ≡ Some v) (one_value (value_of e s) y.0 x.0 y.1 x.1) y.2)
    where
      by : (w : Value) → unary_operand s.memory (unaries.Minus t) w kinds.Overflow ≡ Some (Number n) → unary_result (unaries.Minus t) w ≡ Some v → number_of v ≡ n
      by (values.Int u a) f g =
          let same = same_number _ n f in
          let is : values.Int t (wrapped t _) ≡ v = cc in
          sym (ap number_of is) ∙ ap (wrapped t) same ∙ kept_number kinds.Overflow t (least t) n check (itself (least t)) c out
      by (values.Ptr p) f g = absurd (cc)
      by values.Null f g = absurd (cc)

  arithmetic_value : (op : Arithmetic) (t : IntType) (e f : CsExprTree) → arithmetic_check op t ≡ Some check → is_rest (binaries.Arithmetic op t) ≡ false
      → exact_of (Binary (binaries.Arithmetic op t) e f) s ≡ Some (Number n) → value_of (Binary (binaries.Arithmetic op t) e f) s ≡ Some v → number_of v ≡ n
  arithmetic_value op t e f c rest h k =
      let x = operands (binaries.Arithmetic op t) (exact_binary (binaries.Arithmetic op t)) e f s (Number n) h in
      let y = operands (binaries.Arithmetic op t) (binary_result (binaries.Arithmetic op t)) e f s v k in
      by x.0 x.1 x.4 (subst (λ (w : Value). binary_result (binaries.Arithmetic op t) w x.1 ≡ Some v) (one_value (value_of e s) y.0 x.0 y.2 x.2)
      (subst (λ (w : Value). binary_result (binaries.Arithmetic op t) y.0 w ≡ Some v) (one_value (value_of f s) y.1 x.1 y.3 x.3) y.4))
    where
      by : (w u : Value) → exact_binary (binaries.Arithmetic op t) w u ≡ Some (Number n) → binary_result (binaries.Arithmetic op t) w u ≡ Some v → number_of v ≡ n
      by (values.Int ta a) (values.Int tb b) f g =
          let same = same_number (exact_arithmetic op a b) n f in
          let is : values.Int t (arithmetic op t a b) ≡ v = cc in
          let w = wraps_exact op t check a b c rest in
          sym (ap number_of is) ∙ w.0 ∙ ap (wrapped t) same ∙ kept_number w.1 t (least t) n check (itself (least t)) w.2 out
      by (values.Int ta a) (values.Ptr p) f g = absurd (cc)
      by (values.Int ta a) values.Null f g = absurd (cc)
      by (values.Ptr p) u f g = absurd (cc)
      by values.Null u f g = absurd (cc)

  shift_value : (t : IntType) (e f : CsExprTree) → signed_check kinds.ShiftResult t (pos 0) ≡ Some check
      → exact_of (Binary (binaries.Shift shifts.Left t) e f) s ≡ Some (Number n) → value_of (Binary (binaries.Shift shifts.Left t) e f) s ≡ Some v → number_of v ≡ n
  shift_value t e f c h k =
      let x = operands (binaries.Shift shifts.Left t) (exact_binary (binaries.Shift shifts.Left t)) e f s (Number n) h in
      let y = operands (binaries.Shift shifts.Left t) (binary_result (binaries.Shift shifts.Left t)) e f s v k in
      by x.0 x.1 x.4 (subst (λ (w : Value). binary_result (binaries.Shift shifts.Left t) w x.1 ≡ Some v) (one_value (value_of e s) y.0 x.0 y.2 x.2)
      (subst (λ (w : Value). binary_result (binaries.Shift shifts.Left t) y.0 w ≡ Some v) (one_value (value_of f s) y.1 x.1 y.3 x.3) y.4))
    where
      by : (w u : Value) → exact_binary (binaries.Shift shifts.Left t) w u ≡ Some (Number n) → binary_result (binaries.Shift shifts.Left t) w u ≡ Some v → number_of v ≡ n
      by (values.Int ta a) (values.Int tb b) f g =
          let same = same_number _ n f in
          let is : values.Int t (wrapped t _) ≡ v = cc in
          sym (ap number_of is) ∙ ap (wrapped t) same ∙ kept_number kinds.ShiftResult t (pos 0) n check (least_below t) c out
      by (values.Int ta a) (values.Ptr p) f g = absurd (cc)
      by (values.Int ta a) values.Null f g = absurd (cc)
      by (values.Ptr p) u f g = absurd (cc)
      by values.Null u f g = absurd (cc)

  pub exact_value : (e : CsExprTree) → result_check e ≡ Some check → is_a_remainder e ≡ false → exact_of e s ≡ Some (Number n) → value_of e s ≡ Some v
      → number_of v ≡ n
  exact_value (Unary (unaries.Minus t) e) c rest h k = minus_value t e c h k
  exact_value (Binary (binaries.Arithmetic op t) e f) c rest h k = arithmetic_value op t e f c rest h k
  exact_value (Binary (binaries.Shift shifts.Left t) e f) c rest h k = shift_value t e f c h k
  exact_value e c rest h k = absurd (cc)

-- ---- what is kept of a state that passes

-- what formed checks ask of results
abbrev pub IsResultOf : WrongKind → CsExprTree → Check → Type 0
IsResultOf kinds.Overflow e check = result_check e ≡ Some check
IsResultOf kinds.Quotient e check = result_check e ≡ Some check
IsResultOf kinds.ShiftResult e check = result_check e ≡ Some check
IsResultOf kind e check = Unit {0}

-- a state of the new ranges, of which what has passed is true
pub record IsKept (some : Bool) (new : List Range) (passed : Option Remembered) (s : State) : Type 0 where
  pub some_left : IsTrue some
  pub all : AreIn new s
  pub passes : IsPassed passed s

no_passed : (passed : Option Remembered) (s : State) → passed ≡ None → IsPassed passed s
no_passed passed s is = subst (λ o. IsPassed o s) (sym is) tt

there : (r : Range) (n : ℤ) (some : Bool) → some ≡ holds_some r → InRange r n → IsTrue some
there r n some is i = is ∙ holds_number_from r.lo r.hi n i.low i.high

module _ (check : Check) (e : CsExprTree) (rs : List Range) (some : Bool) (new : List Range) (passed : Option Remembered) (s : State) (all : AreIn rs s) where
  result_kept : (exact : Range) (n : ℤ) → result_check e ≡ Some check → KeepsResult check e exact rs some new passed → InRange exact n
      → exact_of e s ≡ Some (Number n) → is_outside check.lo check.hi n ≡ false → IsKept some new passed s
  result_kept exact n c k i h out =
      let ends = between_ends check.lo check.hi n out in
      let j = k.1.holds n i (record { low = ends.0; high = ends.1 }) in record {
        some_left = there k.0 n some k.2 j;
        all = subst (λ (xs : List Range). AreIn xs s) (sym k.3) all;
        passes = subst (λ o. IsPassed o s) (sym k.4) (remembers (is_a_remainder e) refl j);
      }
    where
      remembers : (b : Bool) → is_a_remainder e ≡ b → InRange k.0 n → IsPassed (if b then None else Some (record { expr = e; range = k.0 })) s
      remembers true is j = tt
      remembers false is j = λ v g. subst (InRange k.0) (sym (exact_value check s n v out e c is h g)) j

  operand_kept : (IsCut : Range → Type 0) (v : Value) → KeepsOperand IsCut e rs some new passed → value_of e s ≡ Some v
      → ((passing : Range) → IsCut passing → InRange passing (number_of v)) → IsKept some new passed s
  operand_kept IsCut v k h holds =
      let i = holds k.0 k.1 in
      let kept = kept_holds rs k.0 k.2.0 new (own_temp e) k.2.1 s all (λ d is. (v, own e d is h, i)) in record {
        some_left = k.2.2 ∙ both k.2.0 (holds_some k.0) kept.0 (holds_number_from k.0.lo k.0.hi (number_of v) i.low i.high);
        all = kept.1;
        passes = no_passed passed s k.3;
      }
    where
      both : (a b : Bool) → a ≡ true → b ≡ true → (a && b) ≡ true
      both true true f g = refl
      both true false f g = absurd (cc)
      both false b f g = absurd (cc)

      own : (e : CsExprTree) (d : _) → own_temp e ≡ Some d → value_of e s ≡ Some v → slice_get s.temps d ≡ Some v
      own (Temp k) d is h = let same : k ≡ d = cc in subst (λ x. slice_get s.temps x ≡ Some v) same h
      own e d is h = absurd (cc)

  -- a state in which nothing is cut
  same_kept : (some ≡ true) × (new ≡ rs) × (passed ≡ None) → IsKept some new passed s
  same_kept k = record { some_left = k.0; all = subst (λ (xs : List Range). AreIn xs s) (sym k.1) all; passes = no_passed passed s k.2 }

  -- the number of an operand
  number_value : (v : Value) (n : ℤ) → number v ≡ Some (Number n) → number_of v ≡ n
  number_value (values.Int t m) n h = same_number m n h
  number_value (values.Ptr p) n h = absurd (cc)
  number_value values.Null n h = absurd (cc)

  amount_kept : (value : Range) (x : Operand) → KeepsOperand (IsCutTo value (span check.lo check.hi)) e rs some new passed
      → ((v : Value) → value_of e s ≡ Some v → InRange value (number_of v)) → option_and_then number (value_of e s) ≡ Some x
      → (n : ℤ) → x ≡ Number n → is_outside check.lo check.hi n ≡ false → IsKept some new passed s
  amount_kept value x k in_value h n is out =
      let v = and_then_some number (value_of e s) x h in
      let same = number_value v.0 n (v.2 ∙ ap Some is) in
      let ends = between_ends check.lo check.hi n out in
      operand_kept (IsCutTo value (span check.lo check.hi)) v.0 k v.1 (λ passing cut. cut.holds (number_of v.0) (in_value v.0 v.1)
      (subst (InRange (range_of (span check.lo check.hi))) (sym same) (record { low = ends.0; high = ends.1 })))

  divisor_kept : (value : Range) (x : Operand) → KeepsOperand (IsCutNonzero value) e rs some new passed
      → ((v : Value) → value_of e s ≡ Some v → InRange value (number_of v)) → option_and_then number (value_of e s) ≡ Some x
      → (n : ℤ) → x ≡ Number n → int_eq n (pos 0) ≡ false → IsKept some new passed s
  divisor_kept value x k in_value h n is out =
      let v = and_then_some number (value_of e s) x h in
      let same = number_value v.0 n (v.2 ∙ ap Some is) in
      operand_kept (IsCutNonzero value) v.0 k v.1 (λ passing cut. cut.holds (number_of v.0) (in_value v.0 v.1) (λ zero. clash (sym same ∙ zero)))
    where
      clash : n ≡ pos 0 → ⊥
      clash zero = let yes = (Decides-int_eq n (pos 0)).1 zero in cc

  assertion_kept : (value : Range) (n : ℤ) → (passing : Range) × IsCutNonzero value passing × (some ≡ holds_some passing) × (new ≡ rs) × (passed ≡ None)
      → InRange value n → int_eq (truth_of n) (pos 0) ≡ false → IsKept some new passed s
  assertion_kept value n k i out = record {
    some_left = there k.0 n some k.2 (k.1.holds n i (λ zero. clash zero));
    all = subst (λ (xs : List Range). AreIn xs s) (sym k.3) all;
    passes = no_passed passed s k.4;
  }
    where
      clash : n ≡ pos 0 → ⊥
      clash zero = let same = ap (λ (x : ℤ). int_eq (truth_of x) (pos 0)) zero in absurd (cc)

  pub passing_kept : (kind : WrongKind) (objects : List ObjectTree) (value exact : Range) (ty : Option Scalar) (x : Operand) → IsResultOf kind e check
      → KeepsPassing kind check e value exact rs some new passed → ((v : Value) → value_of e s ≡ Some v → InRange value (number_of v))
      → OperandIn kind objects value exact x → operand_of kind ty (e ∷ []) s ≡ Some x → fails_kind objects check kind x ≡ false → IsKept some new passed s
  passing_kept kinds.Overflow objects value exact ty (Number n) c k in_value i h out = result_kept exact n c k i h out
  passing_kept kinds.Overflow objects value exact ty x c k in_value i h out = absurd i
  passing_kept kinds.Quotient objects value exact ty (Number n) c k in_value i h out = result_kept exact n c k i h out
  passing_kept kinds.Quotient objects value exact ty x c k in_value i h out = absurd i
  passing_kept kinds.ShiftResult objects value exact ty (Number n) c k in_value i h out = result_kept exact n c k i h out
  passing_kept kinds.ShiftResult objects value exact ty x c k in_value i h out = absurd i
  passing_kept kinds.ShiftAmount objects value exact ty (Number n) c k in_value i h out = amount_kept value (Number n) k in_value h n refl out
  passing_kept kinds.ShiftAmount objects value exact ty x c k in_value i h out = absurd i
  passing_kept kinds.DivideByZero objects value exact ty (Number n) c k in_value i h out = divisor_kept value (Number n) k in_value h n refl out
  passing_kept kinds.DivideByZero objects value exact ty x c k in_value i h out = absurd i
  passing_kept kinds.AssertFailed objects value exact ty x c k in_value i h out =
      assertion_kept value i.0 k i.1 (subst (λ (y : Operand). fails_kind objects check kinds.AssertFailed y ≡ false) i.2 out)
  passing_kept kinds.NullUse objects value exact ty x c k in_value i h out = same_kept k
  passing_kept kinds.Dangling objects value exact ty x c k in_value i h out = same_kept k
  passing_kept kinds.Bounds objects value exact ty x c k in_value i h out = same_kept k
  passing_kept kinds.Access objects value exact ty x c k in_value i h out = same_kept k
  passing_kept kinds.Alignment objects value exact ty x c k in_value i h out = same_kept k
  passing_kept kinds.ReadOnly objects value exact ty x c k in_value i h out = same_kept k
  passing_kept kinds.Unrelated objects value exact ty x c k in_value i h out = same_kept k
  passing_kept kinds.NoValue objects value exact ty x c k in_value i h out = same_kept k
  passing_kept kinds.Indeterminate objects value exact ty x c k in_value i h out = same_kept k
  passing_kept kinds.Fragment objects value exact ty x c k in_value i h out = same_kept k

-- ranges only get narrower
pub passing_narrow : (kind : WrongKind) (check : Check) (e : CsExprTree) (value exact : Range) (rs : List Range) (some : Bool) (new : List Range)
    (passed : Option Remembered) → KeepsPassing kind check e value exact rs some new passed → (d : _) → NoWider (range_at new d) (range_at rs d)
passing_narrow kind check e value exact rs some new passed k d = by kind k where
  same : new ≡ rs → NoWider (range_at new d) (range_at rs d)
  same is = subst (λ (xs : List Range). NoWider (range_at xs d) (range_at rs d)) (sym is) (as_wide (range_at rs d))

  by : (kind : WrongKind) → KeepsPassing kind check e value exact rs some new passed → NoWider (range_at new d) (range_at rs d)
  by kinds.Overflow k = same k.3
  by kinds.Quotient k = same k.3
  by kinds.ShiftResult k = same k.3
  by kinds.ShiftAmount k = kept_narrow rs k.0 k.2.0 new (own_temp e) k.2.1 d
  by kinds.DivideByZero k = kept_narrow rs k.0 k.2.0 new (own_temp e) k.2.1 d
  by kinds.AssertFailed k = same k.3
  by kinds.NullUse k = same k.1
  by kinds.Dangling k = same k.1
  by kinds.Bounds k = same k.1
  by kinds.Access k = same k.1
  by kinds.Alignment k = same k.1
  by kinds.ReadOnly k = same k.1
  by kinds.Unrelated k = same k.1
  by kinds.NoValue k = same k.1
  by kinds.Indeterminate k = same k.1
  by kinds.Fragment k = same k.1
