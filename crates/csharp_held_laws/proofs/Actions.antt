-- What typed statements look at and store is held, but for pointers that are moved too far and bytes that cannot be read.
use Rattle.std.proofs.Common.{◌≡◌, ◌⊎◌, inl, inr, ℕ, suc, ℤ, Bool, true, false, List, [], ◌∷◌, length, Option, Some, None, refl, sym, ap, ◌∙◌, subst}
use Rattle.std.specs.Prelude.{◌==◌, ◌&&◌, ◌||◌, not, if◌then◌else◌, All, IsSome, int_le, int_lt, pos}
use Rattle.std.specs.Option.{option_map_or}
use Rattle.std.proofs.lemmas.Bool.{eq-eqb, lt-ltb}
use Rattle.std.proofs.lemmas.List.Elements.{All-head, All-tail}
use Rattle.c_syntax_written.specs.declared.int_type.IntType.{IntType}
use Rattle.c_syntax_written.specs.Integer.{HasNumber, is_signed, width}
use Rattle.c_syntax.specs.declared.alarm.Check.{Check}
use Rattle.c_syntax.specs.declared.alarm.WrongKind.{WrongKind}
use Rattle.c_syntax.specs.declared.alarm.WrongKind.TheVariants as kinds
use Rattle.c_syntax.specs.declared.operator.Arithmetic.{Arithmetic}
use Rattle.c_syntax.specs.declared.operator.Arithmetic.TheVariants.{Multiply, Divide, Remainder, Add, Subtract, BitAnd, BitXor, BitOr}
use Rattle.c_syntax.specs.declared.operator.TBinaryOp.{TBinaryOp}
use Rattle.c_syntax.specs.declared.operator.TBinaryOp.TheVariants as binaries
use Rattle.block_mem.specs.declared.types.Scalar.{Scalar}
use Rattle.block_mem.specs.declared.types.Scalar.TheVariants as scalars
use Rattle.block_mem.specs.declared.types.Value.{Value}
use Rattle.block_mem.specs.declared.types.Value.TheVariants as values
use Rattle.block_mem.specs.Bytes.{size_of}
use Rattle.c_values.specs.Numbers.{exact_arithmetic, exact_shift}
use Rattle.c_values.specs.Places.{ObjectMemory}
use Rattle.c_values.specs.Typed.{TakesBoth}
use Rattle.csharp.specs.Trees.{CsExprTree, Const, Null, Temp, Address, Unary, Binary, Convert, CsProgramTree, CsStmtTree, Nothing, Set, Load, Store, CopyBytes}
use Rattle.csharp.specs.Trees.{Undefine, Checked, Input, Assume, Sequence, If, Loop, Block, Exit, Scope, Switch, Goto, Call, Return, Label, Case, Default}
use Rattle.csharp.specs.States.{State, takes_right, value_of}
use Rattle.csharp.specs.Formed.{AreOperandsTyped, ArgsFit, FieldsAre, HasLoadType, HasOperands, IsCheckFormed, IsOperator, IsTyped, One, Two, arithmetic_check, result_check}
use Rattle.csharp_typed_laws.specs.TypedStates.{IsTypedState, IsTypedValue}
use Rattle.csharp_typed_laws.proofs.Steps.{values_are_typed}
use Rattle.csharp_state.specs.Unheld.{has_number, if_taken, is_no_number, is_storable, unheld, unheld_all, unheld_both, unheld_exact, unheld_exact_binary, unheld_moved, unheld_operand, unheld_pass, unheld_point, unheld_stored}
use Rattle.csharp_state.specs.Reading.{can_read}
use Rattle.csharp_exec.specs.Meets.{unheld_action}
use Rattle.csharp_held_laws.specs.Far.{far_action, is_far, looks_at_unread, looks_far, move_far, moves_far, point_far, points_far}
use Rattle.csharp_held_laws.specs.Held.{ActionsAreHeld}
use Rattle.csharp_held_laws.proofs.Numbers.{and_false, and_true, and_where, exact_is, has_own, shift_is}
use Rattle.csharp_held_laws.proofs.Values.{both_held, held, or_none, same_or, same_test, tests_none}

-- ---- values that are stored

storable : (m : ObjectMemory) (ty : Scalar) (v : Value) → IsTypedValue (length m.blocks) ty v → is_storable m ty v ≡ true
storable m (scalars.Int t) (values.Int u n) h =
    let sized : (size_of (scalars.Int u) == size_of (scalars.Int t)) ≡ true =
    eq-eqb (size_of (scalars.Int u)) (size_of (scalars.Int t)) (ap (λ w. size_of (scalars.Int w)) h.typed.0) in
    and_true (size_of (scalars.Int u) == size_of (scalars.Int t)) (has_number u n) sized (has_own u n (subst (λ w. HasNumber w n) (sym h.typed.0) h.typed.1))
storable m (scalars.Int t) (values.Ptr p) h = absurd h.typed
storable m (scalars.Int t) values.Null h = absurd h.typed
storable m scalars.Pointer (values.Int u n) h = absurd h.typed
storable m scalars.Pointer (values.Ptr p) h = lt-ltb p.block (length m.blocks) h.of_made
storable m scalars.Pointer values.Null h = refl

not_unheld : (z w : Bool) → w ≡ true → (z && not w) ≡ false
not_unheld z w e = rw e (and_false z)

-- ---- operands of checks

chosen : (z : Bool) (a check : Check) → (if z then Some a else None) ≡ Some check → z ≡ true
chosen true a check e = refl
chosen false a check e = absurd (cc)

-- the check of an arithmetic result stands at a signed operator
signed_of : (op : Arithmetic) (t : IntType) (check : Check) → arithmetic_check op t ≡ Some check → is_signed t ≡ true
signed_of Multiply t check e = chosen (is_signed t) _ check e
signed_of Divide t check e = chosen (is_signed t) _ check e
signed_of Remainder t check e = chosen (is_signed t) _ check e
signed_of Add t check e = chosen (is_signed t) _ check e
signed_of Subtract t check e = chosen (is_signed t) _ check e
signed_of BitAnd t check e = absurd (cc)
signed_of BitXor t check e = absurd (cc)
signed_of BitOr t check e = absurd (cc)

exact_arithmetic_held : (z : Bool) (op : Arithmetic) (t : IntType) (a b : ℤ) → is_signed t ≡ true → HasNumber t a → HasNumber t b
    → (z && is_no_number (exact_arithmetic op a b)) ≡ false
exact_arithmetic_held z op t a b s h k = rw (exact_is op t a b s h k) (and_false z)

exact_binary_held : (op : TBinaryOp) (a b : CsExprTree) (check : Check) (v u : Value) → result_check (Binary op a b) ≡ Some check → TakesBoth op v u
    → if_taken op (unheld_exact_binary op) v u ≡ is_far op v u
exact_binary_held (binaries.Arithmetic op t) a b check (values.Int ta x) (values.Int tb y) e h =
    exact_arithmetic_held (takes_right (binaries.Arithmetic op t) (values.Int tb y)) op t x y (signed_of op t check e) h.0.1 h.1.1
exact_binary_held (binaries.Arithmetic op t) a b check (values.Int ta x) (values.Ptr p) e h = absurd h.1
exact_binary_held (binaries.Arithmetic op t) a b check (values.Int ta x) values.Null e h = absurd h.1
exact_binary_held (binaries.Arithmetic op t) a b check (values.Ptr p) u e h = absurd h.0
exact_binary_held (binaries.Arithmetic op t) a b check values.Null u e h = absurd h.0
exact_binary_held (binaries.Shift way t) a b check (values.Int ta x) (values.Int tb y) e h =
    and_where (int_le (pos 0) y && int_lt y (pos (width t))) (is_no_number (exact_shift x y)) (λ took. shift_is t x y h.0.1 took)
exact_binary_held (binaries.Shift way t) a b check (values.Int ta x) (values.Ptr p) e h = absurd h.1
exact_binary_held (binaries.Shift way t) a b check (values.Int ta x) values.Null e h = absurd h.1
exact_binary_held (binaries.Shift way t) a b check (values.Ptr p) u e h = absurd h.0
exact_binary_held (binaries.Shift way t) a b check values.Null u e h = absurd h.0
exact_binary_held (binaries.CompareInts c t) a b check v u e h = absurd (cc)
exact_binary_held (binaries.ComparePointers c) a b check v u e h = absurd (cc)
exact_binary_held (binaries.PointerPlusInt element) a b check v u e h = absurd (cc)
exact_binary_held (binaries.IntPlusPointer element) a b check v u e h = absurd (cc)
exact_binary_held (binaries.PointerMinusInt element) a b check v u e h = absurd (cc)
exact_binary_held (binaries.PointerMinusPointer element) a b check v u e h = absurd (cc)

module _ (q : CsProgramTree) (s : State) (typed : IsTypedState q s) where
  abbrev AllTyped : List CsExprTree → Type 0
  AllTyped es = All (AreOperandsTyped q) es

  abbrev first_of : (e : CsExprTree) (es : List CsExprTree) → AllTyped (e ∷ es) → AreOperandsTyped q e
  first_of e es h = All-head (AreOperandsTyped q) e es h

  abbrev second_of : (e f : CsExprTree) → AllTyped (e ∷ f ∷ []) → AreOperandsTyped q f
  second_of e f h = All-head (AreOperandsTyped q) f [] (All-tail (AreOperandsTyped q) e (f ∷ []) h)

  alone : (e : CsExprTree) → move_far (e ∷ []) s ≡ moves_far e s
  alone e = or_none (moves_far e s) (option_map_or (λ v. false) (value_of e s) false) (tests_none (value_of e s) (λ v. false) (λ v is. refl))

  one_held : (e : CsExprTree) → AllTyped (e ∷ []) → unheld e s ≡ move_far (e ∷ []) s
  one_held e h = held q s typed e (first_of e [] h) ∙ sym (alone e)

  two_held : (e f : CsExprTree) (test : Value → Value → Bool) → AllTyped (e ∷ f ∷ [])
      → ((v u : Value) → value_of e s ≡ Some v → value_of f s ≡ Some u → test v u ≡ false) → unheld_both e f s test ≡ move_far (e ∷ f ∷ []) s
  two_held e f test h none =
      both_held q s typed e f test (λ v u. false) (held q s typed e (first_of e (f ∷ []) h)) (held q s typed f (second_of e f h)) none

  exact_held : (e : CsExprTree) (check : Check) → AreOperandsTyped q e → IsOperator q e → result_check e ≡ Some check → unheld_exact e s ≡ moves_far e s
  exact_held (Unary op a) check h operator e = held q s typed (Unary op a) h
  exact_held (Binary op a b) check (left, right, (ty, has, takes)) operator e =
      both_held q s typed a b (if_taken op (unheld_exact_binary op)) (is_far op) (held q s typed a left) (held q s typed b right) (λ v u is own.
      let first = takes v (values_are_typed q s ty a v typed left has is).typed in
      exact_binary_held op a b check v u e (first.2 u (values_are_typed q s first.0 b u typed right first.1 own).typed))
  exact_held (Const t n) check h operator e = absurd operator
  exact_held Null check h operator e = absurd operator
  exact_held (Temp d) check h operator e = absurd operator
  exact_held (Address x) check h operator e = absurd operator
  exact_held (Convert t a) check h operator e = absurd operator

  -- what a check without bytes looks at
  looks_none : (z w : Bool) → z ≡ w → z ≡ (w || false)
  looks_none z w e = e ∙ sym (or_none w false refl)

  exact_kind : (es : List CsExprTree) (check : Check) → AllTyped es → One (IsOperator q) es → One (λ e. result_check e ≡ Some check) es
      → unheld_operand kinds.Overflow None es s ≡ (move_far es s || false)
  exact_kind [] check h operator e = absurd operator
  exact_kind (a ∷ []) check h operator e =
      looks_none (unheld_exact a s) (move_far (a ∷ []) s) (exact_held a check (first_of a [] h) operator e ∙ sym (alone a))
  exact_kind (a ∷ b ∷ rest) check h operator e = absurd operator

  one_kind : (P : CsExprTree → Type 0) (es : List CsExprTree) → AllTyped es → One P es
      → unheld_operand kinds.DivideByZero None es s ≡ (move_far es s || false)
  one_kind P [] h one = absurd one
  one_kind P (a ∷ []) h one = looks_none (unheld a s) (move_far (a ∷ []) s) (one_held a h)
  one_kind P (a ∷ b ∷ rest) h one = absurd one

  two_kind : (P : CsExprTree → Type 0) (es : List CsExprTree) → AllTyped es → Two P es
      → unheld_operand kinds.Unrelated None es s ≡ (point_far es s || false)
  two_kind P [] h two = absurd two
  two_kind P (a ∷ []) h two = absurd two
  two_kind P (a ∷ b ∷ []) h two =
      looks_none (unheld_both a b s (λ v u. false)) (move_far (a ∷ b ∷ []) s) (two_held a b (λ v u. false) h (λ v u is own. refl))
  two_kind P (a ∷ b ∷ c ∷ rest) h two = absurd two

  -- the place of one pointer
  point_held : (e : CsExprTree) → AreOperandsTyped q e → unheld_point e s ≡ points_far e s
  point_held (Const t n) h = refl
  point_held Null h = refl
  point_held (Temp d) h = refl
  point_held (Address x) h = refl
  point_held (Unary op a) h = held q s typed (Unary op a) h
  point_held (Binary op a b) (left, right, takes) =
      both_held q s typed a b (unheld_moved op) (unheld_moved op) (held q s typed a left) (held q s typed b right) (λ v u is own. refl)
  point_held (Convert t a) h = held q s typed (Convert t a) h

  -- one pointer or two
  pointed_kind : (P : CsExprTree → Type 0) (es : List CsExprTree) → AllTyped es → One P es
      → unheld_operand kinds.Unrelated None es s ≡ (point_far es s || false)
  pointed_kind P [] h one = absurd one
  pointed_kind P (a ∷ []) h one = looks_none (unheld_point a s) (points_far a s) (point_held a (first_of a [] h))
  pointed_kind P (a ∷ b ∷ rest) h one = absurd one

  either_kind : (P : CsExprTree → Type 0) (es : List CsExprTree) → AllTyped es → One P es ⊎ Two P es
      → unheld_operand kinds.Unrelated None es s ≡ (point_far es s || false)
  either_kind P es h (inl one) = pointed_kind P es h one
  either_kind P es h (inr two) = two_kind P es h two

  mark_kind : (P : CsExprTree → Type 0) (ty : Option Scalar) (es : List CsExprTree) → AllTyped es → One P es → IsSome ty
      → unheld_operand kinds.Indeterminate ty es s ≡ (move_far es s || looks_at_unread kinds.Indeterminate ty es s)
  mark_kind P None es h one some = absurd (cc)
  mark_kind P (Some ty) [] h one some = absurd one
  mark_kind P (Some ty) (a ∷ []) h one some = same_or (unheld a s) (move_far (a ∷ []) s) _ _ (one_held a h) refl
  mark_kind P (Some ty) (a ∷ b ∷ rest) h one some = absurd one

  pub operand_held : (kind : WrongKind) (ty : Option Scalar) (es : List CsExprTree) (check : Check) → AllTyped es → HasOperands q kind es
      → HasLoadType kind ty → FieldsAre kind es check → unheld_operand kind ty es s ≡ (looks_far kind es s || looks_at_unread kind ty es s)
  operand_held kinds.Overflow ty es check h has load fields = exact_kind es check h has fields
  operand_held kinds.Quotient ty es check h has load fields = exact_kind es check h has fields
  operand_held kinds.ShiftResult ty es check h has load fields = exact_kind es check h has fields
  operand_held kinds.DivideByZero ty es check h has load fields = one_kind _ es h has
  operand_held kinds.ShiftAmount ty es check h has load fields = one_kind _ es h has
  operand_held kinds.AssertFailed ty es check h has load fields = one_kind _ es h has
  operand_held kinds.NoValue ty es check h has load fields = one_kind _ es h has
  operand_held kinds.Indeterminate ty es check h has load fields = mark_kind _ ty es h has load
  operand_held kinds.Fragment ty es check h has load fields = mark_kind _ ty es h has load
  operand_held kinds.NullUse ty es check h has load fields = either_kind _ es h has
  operand_held kinds.Dangling ty es check h has load fields = either_kind _ es h has
  operand_held kinds.Unrelated ty es check h has load fields = two_kind _ es h has
  operand_held kinds.Bounds ty es check h has load fields = pointed_kind _ es h has
  operand_held kinds.Access ty es check h has load fields = pointed_kind _ es h has
  operand_held kinds.Alignment ty es check h has load fields = pointed_kind _ es h has
  operand_held kinds.ReadOnly ty es check h has load fields = pointed_kind _ es h has

  -- ---- arguments

  all_held : (es : List CsExprTree) → AllTyped es → unheld_all es s ≡ move_far es s
  all_held [] h = refl
  all_held (e ∷ es) h =
      same_or (unheld e s) (moves_far e s) _ _ (held q s typed e (first_of e es h))
      (same_test {A = Value} (value_of e s) (λ v. unheld_all es s) (λ v. move_far es s) (λ v is. all_held es (All-tail (AreOperandsTyped q) e es h)))

  as_many : (es : List CsExprTree) (ds : List ℕ) → ArgsFit q es ds → length es ≡ length ds
  as_many [] [] fit = refl
  as_many [] (d ∷ ds) fit = absurd fit
  as_many (e ∷ es) [] fit = absurd fit
  as_many (e ∷ es) (d ∷ ds) fit = ap suc (as_many es ds fit.1)

  both_true : (z w y : Bool) → z ≡ true → w ≡ y → (z && w) ≡ y
  both_true z w y e f = rw e f

  pub pass_held : (es : List CsExprTree) (ds : List ℕ) → AllTyped es → ArgsFit q es ds → unheld_pass es ds s ≡ move_far es s
  pass_held es ds h fit =
      both_true (length es == length ds) (unheld_all es s) (move_far es s) (eq-eqb (length es) (length ds) (as_many es ds fit)) (all_held es h)

  -- ---- statements

  pub action_held : (a : CsStmtTree) → IsTyped q a → IsCheckFormed q a → unheld_action a s ≡ far_action a s
  action_held (Set d e) h k = held q s typed e (first_of e [] h.0)
  action_held (Load d ty e) h k = held q s typed e (first_of e [] h.0)
  action_held (Store ty e f) h k =
      two_held e f (unheld_stored s.memory ty) h.0 (λ v u is own.
      not_unheld (can_read s.memory v (size_of ty) (size_of ty)) (is_storable s.memory ty u)
      (storable s.memory ty u (values_are_typed q s ty f u typed (second_of e f h.0) h.1.1 own)))
  action_held (CopyBytes n to from) h k = two_held to from (λ v u. false) h.0 (λ v u is own. refl)
  action_held (Checked c) h k = operand_held c.check.kind c.ty c.operands c.check h.0 k.0 k.1 k.2
  action_held (Assume e) h k = held q s typed e (first_of e [] h.0)
  action_held (Return (Some e)) h k = held q s typed e (first_of e [] h.0)
  action_held (Return None) h k = refl
  action_held Nothing h k = refl
  action_held (Undefine x) h k = refl
  action_held (Input d t) h k = refl
  action_held (Sequence a b) h k = refl
  action_held (If e a b) h k = refl
  action_held (Loop at a) h k = refl
  action_held (Block a) h k = refl
  action_held (Exit level) h k = refl
  action_held (Scope xs items) h k = refl
  action_held (Switch e xs items) h k = refl
  action_held (Goto label) h k = refl
  action_held (Call c) h k = refl
  action_held (Label at l) h k = refl
  action_held (Case n) h k = refl
  action_held Default h k = refl

pub actions_held : ActionsAreHeld
actions_held q s a typed h k = action_held q s typed a h k
