-- Values of typed expressions are held, but for pointers that are moved too far.
use Rattle.std.proofs.Common.{◌≡◌, ℤ, Bool, true, false, Option, Some, None, refl, ap, ◌∙◌}
use Rattle.std.specs.Prelude.{◌&&◌, ◌||◌, not, int_le, int_lt, pos}
use Rattle.std.specs.Option.{option_map_or}
use Rattle.c_syntax_written.specs.declared.int_type.IntType.{IntType}
use Rattle.c_syntax_written.specs.Integer.{width}
use Rattle.c_syntax.specs.declared.operator.Shift.TheVariants as shifts
use Rattle.c_syntax.specs.declared.operator.TUnaryOp.{TUnaryOp}
use Rattle.c_syntax.specs.declared.operator.TUnaryOp.TheVariants as unaries
use Rattle.c_syntax.specs.declared.operator.TBinaryOp.{TBinaryOp}
use Rattle.c_syntax.specs.declared.operator.TBinaryOp.TheVariants as binaries
use Rattle.block_mem.specs.declared.types.Scalar.{Scalar}
use Rattle.block_mem.specs.declared.types.Scalar.TheVariants as scalars
use Rattle.block_mem.specs.declared.types.Value.{Value}
use Rattle.block_mem.specs.declared.types.Value.TheVariants as values
use Rattle.block_mem.specs.Bytes.{IsOf}
use Rattle.c_values.specs.Numbers.{exact_shift}
use Rattle.c_values.specs.Typed.{TakesBoth, TakesOne}
use Rattle.csharp.specs.Trees.{CsExprTree, Const, Null, Temp, Address, Unary, Binary, Convert, CsProgramTree}
use Rattle.csharp.specs.States.{State, takes_right, value_of}
use Rattle.csharp.specs.Formed.{AreOperandsTyped}
use Rattle.csharp_typed_laws.specs.TypedStates.{IsTypedState}
use Rattle.csharp_typed_laws.proofs.Steps.{values_are_typed}
use Rattle.csharp_typed_laws.proofs.Values.{plus_typed}
use Rattle.csharp_state.specs.Unheld.{has_number, if_taken, is_no_number, unheld, unheld_binary, unheld_both, unheld_unary, wraps_past}
use Rattle.csharp_held_laws.specs.Far.{is_far, moves_far}
use Rattle.csharp_held_laws.specs.Held.{ValuesAreHeld}
use Rattle.csharp_held_laws.proofs.Numbers.{and_false, and_true, and_where, has_own, negated, shift_is}

-- ---- operators

no_or : (z : Bool) → z ≡ false → not z ≡ true
no_or z h = rw h refl

-- arithmetic on numbers of the operator's type
arithmetic_held : (z w : Bool) (t ta tb : IntType) (a b : ℤ) → IsOf (scalars.Int t) (values.Int ta a) → IsOf (scalars.Int t) (values.Int tb b)
    → (z && (w && not (has_number t a && has_number t b))) ≡ false
arithmetic_held z w t ta tb a b h k =
    let both = and_true (has_number t a) (has_number t b) (has_own t a h.1) (has_own t b k.1) in
    let none : not (has_number t a && has_number t b) ≡ false = ap not both in
    rw none (rw (and_false w) (and_false z))

pub binary_held : (op : TBinaryOp) (v u : Value) → TakesBoth op v u → if_taken op (unheld_binary op) v u ≡ is_far op v u
binary_held (binaries.Arithmetic op t) (values.Int ta a) (values.Int tb b) h =
    arithmetic_held (takes_right (binaries.Arithmetic op t) (values.Int tb b)) (wraps_past op a b) t ta tb a b h.0 h.1
binary_held (binaries.Arithmetic op t) (values.Int ta a) (values.Ptr p) h = absurd h.1
binary_held (binaries.Arithmetic op t) (values.Int ta a) values.Null h = absurd h.1
binary_held (binaries.Arithmetic op t) (values.Ptr p) u h = absurd h.0
binary_held (binaries.Arithmetic op t) values.Null u h = absurd h.0
binary_held (binaries.Shift shifts.Left t) (values.Int ta a) (values.Int tb b) h =
    and_where (int_le (pos 0) b && int_lt b (pos (width t))) (is_no_number (exact_shift a b)) (λ e. shift_is t a b h.0.1 e)
binary_held (binaries.Shift shifts.Right t) (values.Int ta a) (values.Int tb b) h = and_false (int_le (pos 0) b && int_lt b (pos (width t)))
binary_held (binaries.Shift way t) (values.Int ta a) (values.Ptr p) h = absurd h.1
binary_held (binaries.Shift way t) (values.Int ta a) values.Null h = absurd h.1
binary_held (binaries.Shift way t) (values.Ptr p) u h = absurd h.0
binary_held (binaries.Shift way t) values.Null u h = absurd h.0
binary_held (binaries.CompareInts c t) v u h = refl
binary_held (binaries.ComparePointers c) v u h = refl
binary_held (binaries.PointerPlusInt element) v (values.Int t k) h = refl
binary_held (binaries.PointerPlusInt element) v (values.Ptr p) h = absurd h.1
binary_held (binaries.PointerPlusInt element) v values.Null h = absurd h.1
binary_held (binaries.IntPlusPointer element) (values.Int t k) u h = refl
binary_held (binaries.IntPlusPointer element) (values.Ptr p) u h = absurd h.1
binary_held (binaries.IntPlusPointer element) values.Null u h = absurd h.1
binary_held (binaries.PointerMinusInt element) v (values.Int t k) h = refl
binary_held (binaries.PointerMinusInt element) v (values.Ptr p) h = absurd h.1
binary_held (binaries.PointerMinusInt element) v values.Null h = absurd h.1
binary_held (binaries.PointerMinusPointer element) v u h = refl

pub unary_held : (op : TUnaryOp) (ty : Scalar) (v : Value) → TakesOne op ty v → unheld_unary op v ≡ false
unary_held (unaries.Plus t) ty v h = refl
unary_held (unaries.Minus t) ty (values.Int u k) h = negated t k (plus_typed 0 t u k ty h.0 h.1)
unary_held (unaries.Minus t) ty (values.Ptr p) h = refl
unary_held (unaries.Minus t) ty values.Null h = refl
unary_held (unaries.Complement t) ty v h = refl
unary_held unaries.Not ty v h = refl

-- ---- expressions

-- a test of a value that does not pass
pub tests_none : (o : Option Value) (test : Value → Bool) → ((v : Value) → o ≡ Some v → test v ≡ false) → option_map_or test o false ≡ false
tests_none None test h = refl
tests_none (Some v) test h = h v refl

pub or_none : (z w : Bool) → w ≡ false → (z || w) ≡ z
or_none true w h = refl
or_none false w h = h

-- tests that are one on the value
pub same_test : {A : Type 0} (o : Option A) (test other : A → Bool) → ((a : A) → o ≡ Some a → test a ≡ other a)
    → option_map_or test o false ≡ option_map_or other o false
same_test None test other h = refl
same_test (Some a) test other h = h a refl

pub same_or : (a b c d : Bool) → a ≡ b → c ≡ d → (a || c) ≡ (b || d)
same_or a b c d h g = ap (λ z. z || c) h ∙ ap (λ z. b || z) g

module _ (q : CsProgramTree) (s : State) (typed : IsTypedState q s) where
  -- two expressions, and a test of their values
  pub both_held : (e f : CsExprTree) (test other : Value → Value → Bool) → unheld e s ≡ moves_far e s → unheld f s ≡ moves_far f s
      → ((v u : Value) → value_of e s ≡ Some v → value_of f s ≡ Some u → test v u ≡ other v u)
      → unheld_both e f s test
      ≡ (moves_far e s || option_map_or (λ v. moves_far f s || option_map_or (other v) (value_of f s) false) (value_of e s) false)
  both_held e f test other h k same =
      same_or (unheld e s) (moves_far e s) _ _ h
      (same_test (value_of e s) (λ v. unheld f s || option_map_or (test v) (value_of f s) false)
      (λ v. moves_far f s || option_map_or (other v) (value_of f s) false)
      (λ v is. same_or (unheld f s) (moves_far f s) _ _ k (same_test (value_of f s) (test v) (other v) (λ u own. same v u is own))))

  pub held : (e : CsExprTree) → AreOperandsTyped q e → unheld e s ≡ moves_far e s
  held (Const t n) h = refl
  held Null h = refl
  held (Temp d) h = refl
  held (Address x) h = refl
  held (Unary op e) (inner, (ty, has, takes)) =
      or_none (unheld e s) (option_map_or (unheld_unary op) (value_of e s) false)
      (tests_none (value_of e s) (unheld_unary op) (λ v is. unary_held op ty v (takes v (values_are_typed q s ty e v typed inner has is).typed)))
      ∙ held e inner
  held (Binary op e f) (left, right, (ty, has, takes)) =
      both_held e f (if_taken op (unheld_binary op)) (is_far op) (held e left) (held f right) (λ v u is own.
      let first = takes v (values_are_typed q s ty e v typed left has is).typed in
      binary_held op v u (first.2 u (values_are_typed q s first.0 f u typed right first.1 own).typed))
  held (Convert t e) h = held e h.0

pub values_held : ValuesAreHeld
values_held q s e typed h = held q s typed e h
