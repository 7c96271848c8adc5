-- Operators: what their checks look at in both languages is judged alike, and where it passes they have a value.
use Rattle.std.proofs.Common.{◌≡◌, ℕ, ◌-◌, ◌≤◌, List, [], ◌∷◌, map, Option, Some, None, refl, pos, Bool, true, false, ap, ℤ, ◌*ℤ◌, ◌∙◌, arith}
use Rattle.std.specs.Prelude.{if◌then◌else◌, ◌&&◌, ◌||◌, int_le, int_lt, option_and_then, option_map}
use Rattle.std.proofs.lemmas.Int.{ints}
use Rattle.c_syntax_written.specs.declared.int_type.IntType.{IntType}
use Rattle.c_syntax_written.specs.declared.int_type.IntType.TheVariants as int_types
use Rattle.c_syntax_written.specs.declared.place.Pos.{Pos}
use Rattle.c_syntax_written.specs.Integer.{is_signed, greatest, least, width}
use Rattle.c_syntax.specs.declared.alarm.WrongKind.{WrongKind}
use Rattle.c_syntax.specs.declared.alarm.WrongKind.TheVariants as kinds
use Rattle.c_syntax.specs.declared.operator.Comparison.{Comparison}
use Rattle.c_syntax.specs.declared.operator.Comparison.TheVariants as compares
use Rattle.c_syntax.specs.declared.operator.Shift.{Shift}
use Rattle.c_syntax.specs.declared.operator.Shift.TheVariants as shifts
use Rattle.c_syntax.specs.declared.operator.TUnaryOp.{TUnaryOp}
use Rattle.c_syntax.specs.declared.operator.TUnaryOp.TheVariants as unaries
use Rattle.c_syntax.specs.declared.operator.TBinaryOp.{TBinaryOp}
use Rattle.c_syntax.specs.declared.operator.TBinaryOp.TheVariants as binaries
use Rattle.c_syntax.specs.declared.program.Plan.{Plan}
use Rattle.c_syntax.specs.Types.{ObjectTree}
use Rattle.c_syntax.specs.Operand.{Operand, Number, Point}
use Rattle.c_syntax.specs.Failing.{is_outside}
use Rattle.c_syntax.specs.Program.{TProgramTree}
use Rattle.c_layout.specs.Checks.{range_check, binary_checks, unary_checks, move_checks}
use Rattle.c_layout.specs.Plans.{IsPlanFor}
use Rattle.c_layout.specs.WellTyped.{IsWellTyped}
use Rattle.block_mem.specs.declared.types.Scalar.{Scalar}
use Rattle.block_mem.specs.declared.types.Scalar.TheVariants as scalars
use Rattle.block_mem.specs.declared.types.Value.{Value}
use Rattle.block_mem.specs.declared.types.Value.TheVariants as values
use Rattle.c_values.specs.Looks.{looks, Judged, Passes, FailsAs, judge}
use Rattle.c_values.specs.Operators.{binary_looks, binary_result, unary_looks, unary_operand, unary_result, member_looks, moved}
use Rattle.c_values.specs.Places.{ObjectMemory, spot, point}
use Rattle.c_values.specs.Values.{plain_type, converted_to}
use Rattle.c_steps.specs.Work.{Item, Bin, Un, Move}
use Rattle.c_steps.specs.States.{Held, State, state, goes, held, with_some}
use Rattle.c_steps.specs.Steps.{step}
use Rattle.c_steps.specs.Runs.{calls_in}
use Rattle.c_steps_laws.specs.Fits.{Fits}
use Rattle.c_steps_laws.proofs.NeededRuns.{fitting_states_step}
use Rattle.csharp.specs.Trees.{CsExprTree, Unary, Binary}
use Rattle.csharp.specs.States as low
use Rattle.csharp.specs.States.{value_of, look_of, takes_right}
use Rattle.csharp.specs.Outcomes.{Normal}
use Rattle.lower_trees.specs.Checking as checking
use Rattle.lower_trees.specs.Checking.{checks, binary_one, binary_list, unary_one, unary_list, move_one, move_list}
use Rattle.lower_trees.specs.LowerExpr.{to_scalar}
use Rattle.lower_rows.proofs.Steps.{one}
use Rattle.lower_rows.proofs.Rows.{ValueGoal, ValueFollows, no_way, run, all_mapped, checks_end, outcome_judged, as_it_is}
use Rattle.lower_rows.proofs.Operators.{arithmetic_alike, arithmetic_taken, signed_same, value_taken}

-- ---- the amount of a shift is asked first

amount_first : (k : WrongKind) (x : Operand) (z : Bool) (r r' : Judged) → (z ≡ false → r ≡ r') → (if z then FailsAs k x else r) ≡ (if z then FailsAs k x else r')
amount_first k x true r r' h = refl
amount_first k x false r r' h = h refl

or_false : (a b : Bool) → a || b ≡ false → (a ≡ false) × (b ≡ false)
or_false true b e = absurd (cc)
or_false false b e = (refl, e)

and_true : (a b : Bool) → a ≡ true → b ≡ true → a && b ≡ true
and_true a b e f = rw e f

not_below : (k : ℤ) → int_lt k (pos 0) ≡ false → int_le (pos 0) k ≡ true
not_below k e = grind (arith, ints)

not_past : (w : ℕ) (k : ℤ) → 1 ≤ w → int_lt (pos (w - 1)) k ≡ false → int_lt k (pos w) ≡ true
not_past w k h e = grind (arith, ints)

some_bits : (t : IntType) → 1 ≤ width t
some_bits int_types.Char = omega arith
some_bits int_types.SChar = omega arith
some_bits int_types.UChar = omega arith
some_bits int_types.Short = omega arith
some_bits int_types.UShort = omega arith
some_bits int_types.Int = omega arith
some_bits int_types.UInt = omega arith
some_bits int_types.Long = omega arith
some_bits int_types.ULong = omega arith
some_bits int_types.LLong = omega arith
some_bits int_types.ULLong = omega arith

-- an amount that passes is taken
in_width : (t : IntType) (k : ℤ) → is_outside (pos 0) (pos (width t - 1)) k ≡ false → int_le (pos 0) k && int_lt k (pos (width t)) ≡ true
in_width t k e =
    let parts = or_false (int_lt k (pos 0)) (int_lt (pos (width t - 1)) k) e in
    and_true (int_le (pos 0) k) (int_lt k (pos (width t))) (not_below k parts.0) (not_past (width t) k (some_bits t) parts.1)

passed : (k : WrongKind) (x : Operand) (z : Bool) (r : Judged) → (if z then FailsAs k x else r) ≡ Passes → z ≡ false
passed k x true r e = absurd (cc)
passed k x false r e = refl

-- a pointer that is there
point_of : (m : ObjectMemory) (o : Option Value) → option_and_then (point m) o ≡ option_map Point (option_and_then (spot m) o)
point_of m None = refl
point_of m (Some v) = refl

module _ (objects : List ObjectTree) (at : Pos) (a b : CsExprTree) (s : low.State) (v : Value) (ea : value_of a s ≡ Some v) where
  abbrev pub Alike : TBinaryOp → Value → Type 0
  Alike op u = judge objects (map (λ c. look_of c s) (binary_list at op a b)) ≡ judge objects (binary_looks s.memory op v u)

  left_alike : (t tu : IntType) (k : ℤ) → value_of b s ≡ Some (values.Int tu k) → Alike (binaries.Shift shifts.Left t) (values.Int tu k)
  left_alike t tu k eb =
      rw eb (amount_first kinds.ShiftAmount (Number k) (is_outside (pos 0) (pos (width t - 1)) k) _ _
      (λ z. ap (judge objects) (signed_same (is_signed t) kinds.ShiftResult (pos 0) (pos (greatest t)) at (binaries.Shift shifts.Left t) a b s v (values.Int tu k) (rw ea (rw eb (rw (in_width t k z) refl))))))

  shift_alike : (way : Shift) (t : IntType) (u : Value) → value_of b s ≡ Some u → Alike (binaries.Shift way t) u
  shift_alike shifts.Left t (values.Int tu k) eb = left_alike t tu k eb
  shift_alike shifts.Left t (values.Ptr q) eb = rw eb refl
  shift_alike shifts.Left t values.Null eb = rw eb refl
  shift_alike shifts.Right t u eb = rw eb refl

  pointers_alike : (c : Comparison) (u : Value) → value_of b s ≡ Some u → Alike (binaries.ComparePointers c) u
  pointers_alike compares.Less u eb = rw ea (rw eb refl)
  pointers_alike compares.Greater u eb = rw ea (rw eb refl)
  pointers_alike compares.AtMost u eb = rw ea (rw eb refl)
  pointers_alike compares.AtLeast u eb = rw ea (rw eb refl)
  pointers_alike compares.Equal u eb = rw ea (rw eb refl)
  pointers_alike compares.Unequal u eb = rw ea (rw eb refl)

  pub alike : (op : TBinaryOp) (u : Value) → value_of b s ≡ Some u → Alike op u
  alike (binaries.Arithmetic op t) u eb = arithmetic_alike objects at t a b s v ea op u eb
  alike (binaries.Shift way t) u eb = shift_alike way t u eb
  alike (binaries.CompareInts c t) u eb = refl
  alike (binaries.ComparePointers c) u eb = pointers_alike c u eb
  alike (binaries.PointerPlusInt n) u eb = rw ea (rw eb (rw (point_of s.memory (binary_result (binaries.PointerPlusInt n) v u)) refl))
  alike (binaries.IntPlusPointer n) u eb = rw ea (rw eb (rw (point_of s.memory (binary_result (binaries.IntPlusPointer n) v u)) refl))
  alike (binaries.PointerMinusInt n) u eb = rw ea (rw eb (rw (point_of s.memory (binary_result (binaries.PointerMinusInt n) v u)) refl))
  alike (binaries.PointerMinusPointer n) u eb = rw ea (rw eb refl)

shift_taken : (objects : List ObjectTree) (m : ObjectMemory) (way : Shift) (t : IntType) (v u : Value) → judge objects (binary_looks m (binaries.Shift way t) v u) ≡ Passes → takes_right (binaries.Shift way t) u ≡ true
shift_taken objects m shifts.Left t v (values.Int tu k) e = in_width t k (passed kinds.ShiftAmount (Number k) (is_outside (pos 0) (pos (width t - 1)) k) _ e)
shift_taken objects m shifts.Left t v (values.Ptr q) e = absurd (cc)
shift_taken objects m shifts.Left t v values.Null e = absurd (cc)
shift_taken objects m shifts.Right t v (values.Int tu k) e = in_width t k (passed kinds.ShiftAmount (Number k) (is_outside (pos 0) (pos (width t - 1)) k) _ e)
shift_taken objects m shifts.Right t v (values.Ptr q) e = absurd (cc)
shift_taken objects m shifts.Right t v values.Null e = absurd (cc)

-- what passes is taken
pub taken : (objects : List ObjectTree) (m : ObjectMemory) (op : TBinaryOp) (v u : Value) → judge objects (binary_looks m op v u) ≡ Passes → takes_right op u ≡ true
taken objects m (binaries.Arithmetic op t) v u e = arithmetic_taken objects m op t v u e
taken objects m (binaries.Shift way t) v u e = shift_taken objects m way t v u e
taken objects m (binaries.CompareInts c t) v u e = refl
taken objects m (binaries.ComparePointers c) v u e = refl
taken objects m (binaries.PointerPlusInt n) v u e = refl
taken objects m (binaries.IntPlusPointer n) v u e = refl
taken objects m (binaries.PointerMinusInt n) v u e = refl
taken objects m (binaries.PointerMinusPointer n) v u e = refl

-- ---- one operand

signed_unary : (z : Bool) (lo hi : ℤ) (at : Pos) (op : TUnaryOp) (a : CsExprTree) (s : low.State) (v : Value)
    → (look_of (unary_one at op a (range_check kinds.Overflow lo hi)) s).operand ≡ unary_operand s.memory op v kinds.Overflow
    → map (λ c. look_of c s) (map (unary_one at op a) (if z then range_check kinds.Overflow lo hi ∷ [] else []))
    ≡ looks (unary_operand s.memory op v) (if z then range_check kinds.Overflow lo hi ∷ [] else [])
signed_unary true lo hi at op a s v e = rw e refl
signed_unary false lo hi at op a s v e = refl

pub unary_alike : (at : Pos) (op : TUnaryOp) (ty : Option Scalar) (a : CsExprTree) (s : low.State) (v : Value) → value_of a s ≡ Some v
    → map (λ c. look_of c s) (unary_list at op ty a) ≡ unary_looks s.memory op ty v
unary_alike at (unaries.Plus t) ty a s v e = refl
unary_alike at (unaries.Minus t) ty a s v e = signed_unary (is_signed t) (least t) (pos (greatest t)) at (unaries.Minus t) a s v (rw e refl)
unary_alike at (unaries.Complement t) ty a s v e = refl
unary_alike at unaries.Not None a s v e = refl
unary_alike at unaries.Not (Some (scalars.Int t)) a s v e = refl
unary_alike at unaries.Not (Some scalars.Pointer) a s v e = rw e refl

-- ---- a member

one_element : (k : ℕ) → pos 1 *ℤ pos k ≡ pos k
one_element k = omega (arith, ints)

moved_value : (a : CsExprTree) (offset : ℕ) (s : low.State) (v : Value) → value_of a s ≡ Some v → value_of (checking.moved a offset) s ≡ moved v (pos offset)
moved_value a offset s v e = rw e (ap (moved v) (one_element offset))

move_alike : (at : Pos) (a : CsExprTree) (offset : ℕ) (s : low.State) (v : Value) → value_of a s ≡ Some v → map (λ c. look_of c s) (move_list at a offset) ≡ member_looks s.memory v offset
move_alike at a offset s v e = rw (moved_value a offset s v e) (rw e (rw (point_of s.memory (moved v (pos offset))) refl))

module _ (over : ℕ → Bool) (p : TProgramTree) (plan : Plan) (n : ℕ) (ok : IsWellTyped p) (planned : IsPlanFor p plan) where
  -- the machine does not stand, so there is a value
  pub operated : (s0 : State) (w : List Item) (s : List Held) (a : CsExprTree) (t : low.State) (o : Option Value) → Fits p s0 → value_of a t ≡ o
      → step p s0 ≡ with_some o (λ v. goes w (held v ∷ s) t.memory t.inputs) → ValueFollows over p n s0 w s a (Normal t)
  operated s0 w s a t None fits e f = absurd (fitting_states_step p plan ok planned s0 fits f)
  operated s0 w s a t (Some v) fits e f = as_it_is over p plan n s0 w s a t v e (one p _ _ f)

  pub binary_row : (at : Pos) (op : TBinaryOp) (w : List Item) (s : List Held) (a b : CsExprTree) (t : low.State) (v u : Value)
      → value_of a t ≡ Some v → value_of b t ≡ Some u → Fits p (state (Bin at op ∷ w) (held u ∷ held v ∷ s) t.memory t.inputs)
      → ValueFollows over p n (state (Bin at op ∷ w) (held u ∷ held v ∷ s) t.memory t.inputs) w s (Binary op a b) (run over p plan n (checks (binary_list at op a b)) t)
  binary_row at op w s a b t v u ea eb fits =
      checks_end over p plan n (Bin at op) w (held u ∷ held v ∷ s) t at (binary_list at op a b) (binary_looks t.memory op v u)
      (with_some (binary_result op v u) (λ new. goes w (held new ∷ s) t.memory t.inputs)) (calls_in w) (ValueGoal (Binary op a b) w s) no_way
      (all_mapped over p plan n at (binary_one at op a b) (λ c. refl) (binary_checks op)) (alike p.objects at a b t v ea op u eb) refl
      (outcome_judged (judge p.objects (binary_looks t.memory op v u)) (binary_result op v u) at _)
      (λ passes f. operated _ w s (Binary op a b) t (binary_result op v u) fits (value_taken op a b t v u ea eb (taken p.objects t.memory op v u passes)) f)

  pub unary_row : (at : Pos) (op : TUnaryOp) (ty : Option Scalar) (w : List Item) (s : List Held) (a : CsExprTree) (t : low.State) (v : Value)
      → value_of a t ≡ Some v → Fits p (state (Un at op ty ∷ w) (held v ∷ s) t.memory t.inputs)
      → ValueFollows over p n (state (Un at op ty ∷ w) (held v ∷ s) t.memory t.inputs) w s (Unary op a) (run over p plan n (checks (unary_list at op ty a)) t)
  unary_row at op ty w s a t v ea fits =
      checks_end over p plan n (Un at op ty) w (held v ∷ s) t at (unary_list at op ty a) (unary_looks t.memory op ty v)
      (with_some (unary_result op v) (λ new. goes w (held new ∷ s) t.memory t.inputs)) (calls_in w) (ValueGoal (Unary op a) w s) no_way
      (all_mapped over p plan n at (unary_one at op a) (λ c. refl) (unary_checks op (plain_type ty))) (ap (judge p.objects) (unary_alike at op ty a t v ea)) refl
      (outcome_judged (judge p.objects (unary_looks t.memory op ty v)) (unary_result op v) at _)
      (λ passes f. operated _ w s (Unary op a) t (unary_result op v) fits (rw ea refl) f)

  pub move_row : (at : Pos) (offset : ℕ) (w : List Item) (s : List Held) (a : CsExprTree) (t : low.State) (v : Value)
      → value_of a t ≡ Some v → Fits p (state (Move at offset ∷ w) (held v ∷ s) t.memory t.inputs)
      → ValueFollows over p n (state (Move at offset ∷ w) (held v ∷ s) t.memory t.inputs) w s (checking.moved a offset) (run over p plan n (checks (move_list at a offset)) t)
  move_row at offset w s a t v ea fits =
      checks_end over p plan n (Move at offset) w (held v ∷ s) t at (move_list at a offset) (member_looks t.memory v offset)
      (with_some (moved v (pos offset)) (λ new. goes w (held new ∷ s) t.memory t.inputs)) (calls_in w) (ValueGoal (checking.moved a offset) w s) no_way
      (all_mapped over p plan n at (move_one at a offset) (λ c. refl) move_checks) (ap (judge p.objects) (move_alike at a offset t v ea)) refl
      (outcome_judged (judge p.objects (member_looks t.memory v offset)) (moved v (pos offset)) at _)
      (λ passes f. operated _ w s (checking.moved a offset) t (moved v (pos offset)) fits (moved_value a offset t v ea) f)

  -- a conversion to a scalar type
  converted_value : (ty : Scalar) (a : CsExprTree) (t : low.State) (v : Value) → value_of a t ≡ Some v → (z : Value) → converted_to ty v ≡ Some z → value_of (to_scalar (Some ty) a) t ≡ Some z
  converted_value (scalars.Int k) a t v e z f = rw e f
  converted_value scalars.Pointer a t (values.Int k m) e z f = absurd (cc)
  converted_value scalars.Pointer a t (values.Ptr q) e z f = e ∙ f
  converted_value scalars.Pointer a t values.Null e z f = e ∙ f

  pub convert_case : (s0 : State) (w : List Item) (s : List Held) (ty : Scalar) (a : CsExprTree) (t : low.State) (v : Value) (o : Option Value) → value_of a t ≡ Some v → converted_to ty v ≡ o
      → Fits p s0 → step p s0 ≡ with_some o (λ new. goes w (held new ∷ s) t.memory t.inputs) → ValueFollows over p n s0 w s (to_scalar (Some ty) a) (Normal t)
  convert_case s0 w s ty a t v None e f fits g = absurd (fitting_states_step p plan ok planned s0 fits g)
  convert_case s0 w s ty a t v (Some z) e f fits g = as_it_is over p plan n s0 w s (to_scalar (Some ty) a) t z (converted_value ty a t v e z f) (one p _ _ g)
