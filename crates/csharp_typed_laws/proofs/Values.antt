-- What operators give on operands that they take is of their type, and so is what an expression gives.
use Rattle.std.proofs.Common.{◌≡◌, ℕ, ◌-◌, ◌<◌, ℤ, pos, negsuc, neg_ℤ, Bool, true, false, [], length, Option, Some, None, refl, subst, arith}
use Rattle.std.specs.Prelude.{◌==◌, ◌&&◌, int_le, int_lt, if◌then◌else◌, IsSomeAnd, option_and_then, option_map, slice_get}
use Rattle.std.proofs.lemmas.Int.{ints as int_facts}
use Rattle.c_syntax_written.specs.declared.int_type.IntType.{IntType}
use Rattle.c_syntax_written.specs.declared.int_type.IntType.TheVariants as ints
use Rattle.c_syntax_written.specs.Integer.{HasNumber, width}
use Rattle.c_syntax.specs.declared.alarm.WrongKind.{WrongKind}
use Rattle.c_syntax.specs.declared.operator.Arithmetic.{Arithmetic}
use Rattle.c_syntax.specs.declared.operator.Arithmetic.TheVariants.{Multiply, Divide, Remainder, Add, Subtract, BitAnd, BitXor, BitOr}
use Rattle.c_syntax.specs.declared.operator.Comparison.{Comparison}
use Rattle.c_syntax.specs.declared.operator.Shift.{Shift}
use Rattle.c_syntax.specs.declared.operator.Shift.TheVariants as shifts
use Rattle.c_syntax.specs.declared.operator.TUnaryOp.{TUnaryOp}
use Rattle.c_syntax.specs.declared.operator.TUnaryOp.TheVariants as unaries
use Rattle.c_syntax.specs.declared.operator.TBinaryOp.{TBinaryOp}
use Rattle.c_syntax.specs.declared.operator.TBinaryOp.TheVariants as binaries
use Rattle.c_syntax.specs.Operand.{Operand, Number}
use Rattle.c_syntax.specs.Failing.{fails, is_outside}
use Rattle.c_layout.specs.Checks.{amount_check}
use Rattle.block_mem.specs.declared.types.Scalar.{Scalar}
use Rattle.block_mem.specs.declared.types.Scalar.TheVariants as scalars
use Rattle.block_mem.specs.declared.types.Value.{Value}
use Rattle.block_mem.specs.declared.types.Value.TheVariants as values
use Rattle.block_mem.specs.Bytes.{IsOf}
use Rattle.block_mem.specs.Proper.{IsMade}
use Rattle.c_values.specs.Looks.{Passes, FailsAs, outcome}
use Rattle.c_values.specs.Numbers.{arithmetic, shifted}
use Rattle.c_values.specs.Operators.{binary_result, compare_pointers, compared, elements, moved, unary_result}
use Rattle.c_values.specs.Places.{place_of}
use Rattle.c_values.specs.Typed.{IsSettled, TakesBoth, TakesOne, binary_type, unary_type}
use Rattle.c_values.specs.Values.{bit, converted_to}
use Rattle.c_values.proofs.Ranges.{width_some}
use Rattle.c_values.proofs.Settled.{binary_settles, wrapped_is_of}
use Rattle.c_objects.specs.Opening.{address, no_objects}
use Rattle.c_objects.proofs.Keeping.{Keeps}
use Rattle.csharp.specs.Trees.{CsExprTree, Const, Null, Temp, Address, Unary, Binary, Convert, CsProgramTree}
use Rattle.csharp.specs.States.{State, if_taken, takes_right, value_of}
use Rattle.csharp.specs.Formed.{AreOperandsTyped, HasType}
use Rattle.csharp_typed_laws.specs.TypedStates.{AreTempsTyped, IsTypedValue}

-- ---- options

pub given : {A : Type 0} (P : A → Type 0) (a x : A) → ◌≡◌ {A = Option A} (Some a) (Some x) → P a → P x
given P a x e h = let same : a ≡ x = cc in subst P same h

pub bound : {A B : Type 0} (f : A → Option B) (o : Option A) (x : B) → option_and_then f o ≡ Some x → (a : A) × (o ≡ Some a) × (f a ≡ Some x)
bound f None x e = absurd (cc)
bound f (Some a) x e = (a, refl, e)

pub mapped : {A B : Type 0} (f : A → B) (o : Option A) (x : B) → option_map f o ≡ Some x → (a : A) × (o ≡ Some a) × (f a ≡ x)
mapped f None x e = absurd (cc)
mapped f (Some a) x e = (a, refl, cc)

pub some_with : {A : Type 0} (P : A → Type 0) (o : Option A) (a : A) → IsSomeAnd o P → o ≡ Some a → P a
some_with P None a h e = absurd h
some_with P (Some b) a h e = given P b a e h

either : {A : Type 0} (P : A → Type 0) (z : Bool) (o p : Option A) (x : A) → (o ≡ Some x → P x) → (p ≡ Some x → P x) → (if z then o else p) ≡ Some x → P x
either P true o p x f g e = f e
either P false o p x f g e = g e

-- ---- operators

module _ (n : ℕ) where
  abbrev Is : Scalar → Value → Type 0
  Is ty v = IsTypedValue n ty v

  abbrev IsInt : IntType → Value → Type 0
  IsInt t v = IsTypedValue n (scalars.Int t) v

  int_typed : (t : IntType) (k : ℤ) → HasNumber t k → IsTypedValue n (scalars.Int t) (values.Int t k)
  int_typed t k h = record { typed = (refl, h); of_made = tt }

  pub bit_typed : (z : Bool) → IsTypedValue n (scalars.Int ints.Int) (bit z)
  bit_typed true = record { typed = (refl, omega (arith, int_facts)); of_made = tt }
  bit_typed false = record { typed = (refl, omega (arith, int_facts)); of_made = tt }

  result_typed : (op : Arithmetic) (t : IntType) (a b : ℤ) → HasNumber t (arithmetic op t a b)
  result_typed Multiply t a b = wrapped_is_of t _
  result_typed Divide t a b = wrapped_is_of t _
  result_typed Remainder t a b = wrapped_is_of t _
  result_typed Add t a b = wrapped_is_of t _
  result_typed Subtract t a b = wrapped_is_of t _
  result_typed BitAnd t a b = wrapped_is_of t _
  result_typed BitXor t a b = wrapped_is_of t _
  result_typed BitOr t a b = wrapped_is_of t _

  -- an amount that is taken passes its check
  not_outside : (w : ℕ) (b : ℤ) → 0 < w → int_le (pos 0) b && int_lt b (pos w) ≡ true → is_outside (pos 0) (pos (w - 1)) b ≡ false
  not_outside w (pos k) h e = grind (arith, int_facts)
  not_outside w (negsuc k) h e = absurd (cc)

  passed : (t : IntType) (kind : WrongKind) (x : Operand) (v : Value) (z : Bool) → z ≡ false
      → IsSettled (scalars.Int t) (outcome (if z then FailsAs kind x else Passes) (Some v)) → IsOf (scalars.Int t) v
  passed t kind x v true e h = absurd (cc)
  passed t kind x v false e h = h

  shift_typed : (way : Shift) (t ta tb : IntType) (a b : ℤ) → TakesBoth (binaries.Shift way t) (values.Int ta a) (values.Int tb b)
      → int_le (pos 0) b && int_lt b (pos (width t)) ≡ true → IsTypedValue n (scalars.Int t) (values.Int t (shifted way t a b))
  shift_typed shifts.Left t ta tb a b h e = int_typed t _ (wrapped_is_of t _)
  shift_typed shifts.Right t ta tb a b h e =
      let settled = binary_settles [] (no_objects 0) (binaries.Shift shifts.Right t) (values.Int ta a) (values.Int tb b) h in
      record {
        typed = passed t (amount_check t).kind (Number b) (values.Int t (shifted shifts.Right t a b)) (fails [] (amount_check t) (Number b))
            (not_outside (width t) b (width_some t) e) settled;
        of_made = tt;
      }

  moved_typed : (v : Value) (d : ℤ) (x : Value) → IsOf scalars.Pointer v → IsMade n v → moved v d ≡ Some x → IsTypedValue n scalars.Pointer x
  moved_typed (values.Ptr p) d x typed made e = given (Is scalars.Pointer) _ x e (record { typed = tt; of_made = made })
  moved_typed values.Null d x typed made e = given (Is scalars.Pointer) values.Null x e (record { typed = tt; of_made = tt })
  moved_typed (values.Int t z) d x typed made e = absurd typed

  compared_typed : (c : Comparison) (a b : ℤ) (x : Value) → compared c a b ≡ Some x → IsTypedValue n (scalars.Int ints.Int) x
  compared_typed c a b x e = given (IsInt ints.Int) _ x e (bit_typed _)

  pointers_typed : (c : Comparison) (v u x : Value) → compare_pointers c v u ≡ Some x → IsTypedValue n (scalars.Int ints.Int) x
  pointers_typed c (values.Ptr p) (values.Ptr q) x e =
      either (IsInt ints.Int) (p.block == q.block) (compared c p.offset q.offset) (compared c (pos 0) (pos 1)) x
      (compared_typed c p.offset q.offset x) (compared_typed c (pos 0) (pos 1) x) e
  pointers_typed c (values.Ptr p) values.Null x e = compared_typed c (pos 1) (pos 0) x e
  pointers_typed c values.Null (values.Ptr q) x e = compared_typed c (pos 0) (pos 1) x e
  pointers_typed c values.Null values.Null x e = compared_typed c (pos 0) (pos 0) x e
  pointers_typed c (values.Int t k) u x e = absurd (cc)
  pointers_typed c (values.Ptr p) (values.Int t k) x e = absurd (cc)
  pointers_typed c values.Null (values.Int t k) x e = absurd (cc)

  pub binary_typed : (op : TBinaryOp) (v u x : Value) → TakesBoth op v u → takes_right op u ≡ true → IsMade n v → IsMade n u → binary_result op v u ≡ Some x
      → IsTypedValue n (binary_type op) x
  binary_typed (binaries.Arithmetic op t) (values.Int ta a) (values.Int tb b) x h r mv mu e = given (IsInt t) _ x e (int_typed t _ (result_typed op t a b))
  binary_typed (binaries.Arithmetic op t) (values.Int ta a) (values.Ptr p) x h r mv mu e = absurd h.1
  binary_typed (binaries.Arithmetic op t) (values.Int ta a) values.Null x h r mv mu e = absurd h.1
  binary_typed (binaries.Arithmetic op t) (values.Ptr p) u x h r mv mu e = absurd h.0
  binary_typed (binaries.Arithmetic op t) values.Null u x h r mv mu e = absurd h.0
  binary_typed (binaries.Shift way t) (values.Int ta a) (values.Int tb b) x h r mv mu e = given (IsInt t) _ x e (shift_typed way t ta tb a b h r)
  binary_typed (binaries.Shift way t) (values.Int ta a) (values.Ptr p) x h r mv mu e = absurd h.1
  binary_typed (binaries.Shift way t) (values.Int ta a) values.Null x h r mv mu e = absurd h.1
  binary_typed (binaries.Shift way t) (values.Ptr p) u x h r mv mu e = absurd h.0
  binary_typed (binaries.Shift way t) values.Null u x h r mv mu e = absurd h.0
  binary_typed (binaries.CompareInts c t) (values.Int ta a) (values.Int tb b) x h r mv mu e = compared_typed c a b x e
  binary_typed (binaries.CompareInts c t) (values.Int ta a) (values.Ptr p) x h r mv mu e = absurd h.1
  binary_typed (binaries.CompareInts c t) (values.Int ta a) values.Null x h r mv mu e = absurd h.1
  binary_typed (binaries.CompareInts c t) (values.Ptr p) u x h r mv mu e = absurd h.0
  binary_typed (binaries.CompareInts c t) values.Null u x h r mv mu e = absurd h.0
  binary_typed (binaries.ComparePointers c) v u x h r mv mu e = pointers_typed c v u x e
  binary_typed (binaries.PointerPlusInt element) v (values.Int t k) x h r mv mu e = moved_typed v (elements element k) x h.0 mv e
  binary_typed (binaries.PointerPlusInt element) v (values.Ptr p) x h r mv mu e = absurd h.1
  binary_typed (binaries.PointerPlusInt element) v values.Null x h r mv mu e = absurd h.1
  binary_typed (binaries.IntPlusPointer element) (values.Int t k) u x h r mv mu e = moved_typed u (elements element k) x h.0 mu e
  binary_typed (binaries.IntPlusPointer element) (values.Ptr p) u x h r mv mu e = absurd h.1
  binary_typed (binaries.IntPlusPointer element) values.Null u x h r mv mu e = absurd h.1
  binary_typed (binaries.PointerMinusInt element) v (values.Int t k) x h r mv mu e = moved_typed v (neg_ℤ (elements element k)) x h.0 mv e
  binary_typed (binaries.PointerMinusInt element) v (values.Ptr p) x h r mv mu e = absurd h.1
  binary_typed (binaries.PointerMinusInt element) v values.Null x h r mv mu e = absurd h.1
  binary_typed (binaries.PointerMinusPointer element) (values.Ptr p) (values.Ptr q) x h r mv mu e =
      given (IsInt ints.Long) _ x e (int_typed ints.Long _ (wrapped_is_of ints.Long _))
  binary_typed (binaries.PointerMinusPointer element) (values.Ptr p) (values.Int t k) x h r mv mu e = absurd (cc)
  binary_typed (binaries.PointerMinusPointer element) (values.Ptr p) values.Null x h r mv mu e = absurd (cc)
  binary_typed (binaries.PointerMinusPointer element) (values.Int t k) u x h r mv mu e = absurd (cc)
  binary_typed (binaries.PointerMinusPointer element) values.Null u x h r mv mu e = absurd (cc)

  pub plus_typed : (t u : IntType) (k : ℤ) (ty : Scalar) → ty ≡ scalars.Int t → IsOf ty (values.Int u k) → HasNumber t k
  plus_typed t u k ty e h = (let of : IsOf (scalars.Int t) (values.Int u k) = subst (λ s. IsOf s (values.Int u k)) e h in of).1

  pub unary_typed : (op : TUnaryOp) (ty : Scalar) (v x : Value) → TakesOne op ty v → unary_result op v ≡ Some x → IsTypedValue n (unary_type op) x
  unary_typed (unaries.Plus t) ty (values.Int u k) x h e = given (IsInt t) _ x e (int_typed t k (plus_typed t u k ty h.0 h.1))
  unary_typed (unaries.Minus t) ty (values.Int u k) x h e = given (IsInt t) _ x e (int_typed t _ (wrapped_is_of t _))
  unary_typed (unaries.Complement t) ty (values.Int u k) x h e = given (IsInt t) _ x e (int_typed t _ (wrapped_is_of t _))
  unary_typed unaries.Not ty v x h e = given (IsInt ints.Int) _ x e (bit_typed _)
  unary_typed (unaries.Plus t) ty (values.Ptr p) x h e = absurd (cc)
  unary_typed (unaries.Plus t) ty values.Null x h e = absurd (cc)
  unary_typed (unaries.Minus t) ty (values.Ptr p) x h e = absurd (cc)
  unary_typed (unaries.Minus t) ty values.Null x h e = absurd (cc)
  unary_typed (unaries.Complement t) ty (values.Ptr p) x h e = absurd (cc)
  unary_typed (unaries.Complement t) ty values.Null x h e = absurd (cc)

  pub converted_typed : (t : IntType) (v x : Value) → converted_to (scalars.Int t) v ≡ Some x → IsTypedValue n (scalars.Int t) x
  converted_typed t (values.Int u k) x e = given (IsInt t) _ x e (int_typed t _ (wrapped_is_of t _))
  converted_typed t (values.Ptr p) x e = absurd (cc)
  converted_typed t values.Null x e = absurd (cc)

-- what an operator takes
taken : {A : Type 0} (z : Bool) (o : Option A) (x : A) → (if z then o else None) ≡ Some x → (z ≡ true) × (o ≡ Some x)
taken true o x e = (refl, e)
taken false o x e = absurd (cc)

-- ---- expressions

module _ (W : Type 0) (q : CsProgramTree) (s : State) (temps : AreTempsTyped q.temps (length s.memory.blocks) s.temps) (keeps : Keeps W q.objects s.memory) where
  abbrev Made : ℕ
  Made = length s.memory.blocks

  address_typed : (x : ℕ) (v : Value) → address s.memory x 0 ≡ Some v → IsTypedValue Made scalars.Pointer v
  address_typed x v e =
      let b = mapped _ (place_of s.memory x) v e in
      subst (IsTypedValue Made scalars.Pointer) b.2 (record { typed = tt; of_made = (keeps.placed x b.0 b.1).made })

  pub value_typed : (e : CsExprTree) (ty : Scalar) (v : Value) → AreOperandsTyped q e → HasType q ty e → value_of e s ≡ Some v → IsTypedValue Made ty v
  value_typed (Const t k) ty v h t_is e =
      given (λ u. IsTypedValue Made u v) (scalars.Int t) ty t_is (given (IsTypedValue Made (scalars.Int t)) (values.Int t k) v e (int_typed Made t k h))
  value_typed Null ty v h t_is e =
      given (λ u. IsTypedValue Made u v) scalars.Pointer ty t_is
      (given (IsTypedValue Made scalars.Pointer) values.Null v e (record { typed = tt; of_made = tt }))
  value_typed (Temp d) ty v h t_is e = some_with (IsTypedValue Made ty) (slice_get s.temps d) v (temps d ty t_is) e
  value_typed (Address x) ty v h t_is e = given (λ u. IsTypedValue Made u v) scalars.Pointer ty t_is (address_typed x v e)
  value_typed (Unary op a) ty v (typed, operand) t_is e =
      let one = bound (unary_result op) (value_of a s) v e in
      let own = value_typed a operand.0 one.0 typed operand.1 one.1 in
      given (λ u. IsTypedValue Made u v) (unary_type op) ty t_is (unary_typed Made op operand.0 one.0 v (operand.2 one.0 own.typed) one.2)
  value_typed (Binary op a b) ty v (left_typed, right_typed, left) t_is e =
      let one = bound (λ x. option_and_then (if_taken op (binary_result op) x) (value_of b s)) (value_of a s) v e in
      let own = value_typed a left.0 one.0 left_typed left.1 one.1 in
      let right = left.2 one.0 own.typed in
      let other = bound (if_taken op (binary_result op) one.0) (value_of b s) v one.2 in
      let others = value_typed b right.0 other.0 right_typed right.1 other.1 in
      let took = taken (takes_right op other.0) (binary_result op one.0 other.0) v other.2 in
      given (λ u. IsTypedValue Made u v) (binary_type op) ty t_is
      (binary_typed Made op one.0 other.0 v (right.2 other.0 others.typed) took.0 own.of_made others.of_made took.1)
  value_typed (Convert t a) ty v h t_is e =
      let one = bound (converted_to (scalars.Int t)) (value_of a s) v e in
      given (λ u. IsTypedValue Made u v) (scalars.Int t) ty t_is (converted_typed Made t one.0 v one.2)
