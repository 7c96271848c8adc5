-- Operators on operands of their types are never stuck, and their values have their types.
use Rattle.std.proofs.Common.{◌≡◌, ℕ, ◌<◌, ◌^◌, ℤ, pos, negsuc, neg_ℤ, Bool, true, false, refl, List, [], ◌∷◌, Option, Some, None, arith}
use Rattle.std.specs.Prelude.{◌==◌, ◌≤ℤ◌, ◌<ℤ◌, if◌then◌else◌, IsSomeAnd, nat_abs}
use Rattle.std.specs.Int.{Width, w8, w16, w32, w64, int_rem_euclid, int_div_euclid}
use Rattle.std.proofs.lemmas.Int.{ints, SFits-int_wrap}
use Rattle.std.proofs.Math.Nat.{div-le_self}
use Rattle.c_syntax_written.specs.declared.int_type.IntType.{IntType}
use Rattle.c_syntax_written.specs.declared.int_type.IntType.TheVariants.{Char, SChar, UChar, Short, UShort, Int, UInt, Long, ULong, LLong, ULLong}
use Rattle.c_syntax_written.specs.Integer.{HasNumber, is_signed, wrapped, width, least, greatest}
use Rattle.c_syntax.specs.declared.alarm.Check.{Check}
use Rattle.c_syntax.specs.declared.alarm.Spot.{Spot}
use Rattle.c_syntax.specs.declared.alarm.Spot.TheVariants as spots
use Rattle.c_syntax.specs.declared.alarm.WrongKind.{WrongKind}
use Rattle.c_syntax.specs.declared.alarm.WrongKind.TheVariants as kinds
use Rattle.c_syntax.specs.declared.operator.Arithmetic.{Arithmetic}
use Rattle.c_syntax.specs.declared.operator.Arithmetic.TheVariants.{Multiply, Divide, Remainder, Add, Subtract, BitAnd, BitXor, BitOr}
use Rattle.c_syntax.specs.declared.operator.Shift.{Shift}
use Rattle.c_syntax.specs.declared.operator.Shift.TheVariants as shifts
use Rattle.c_syntax.specs.declared.operator.Comparison.{Comparison}
use Rattle.c_syntax.specs.declared.operator.Comparison.TheVariants.{Less, Greater, AtMost, AtLeast, Equal, Unequal}
use Rattle.c_syntax.specs.declared.operator.TBinaryOp.{TBinaryOp}
use Rattle.c_syntax.specs.declared.operator.TBinaryOp.TheVariants as binaries
use Rattle.c_syntax.specs.Types.{ObjectTree}
use Rattle.c_syntax.specs.Operand.{Operand}
use Rattle.c_syntax.specs.Failing.{fails}
use Rattle.c_layout.specs.Checks.{range_check, arithmetic_checks, shift_checks, pointer_checks, move_checks, binary_checks}
use Rattle.block_mem.specs.declared.types.Scalar.{Scalar}
use Rattle.block_mem.specs.declared.types.Scalar.TheVariants as scalars
use Rattle.block_mem.specs.declared.types.Value.{Value}
use Rattle.block_mem.specs.declared.types.Value.TheVariants as values
use Rattle.block_mem.specs.Bytes.{IsOf}
use Rattle.c_values.specs.Places.{ObjectMemory, spot_at}
use Rattle.c_values.specs.Looks.{Look, looks, judge, judge_one, Judged, Passes, FailsAs, NoOperand, outcome}
use Rattle.c_values.specs.Numbers.{shifted, arithmetic, compares}
use Rattle.c_values.specs.Operators.{binary, binary_looks, number_operand, pair_operand, moving_operand, compared, moved, elements, difference}
use Rattle.c_values.specs.Typed.{IsSettled, TakesBoth, binary_type}
use Rattle.c_values.specs.Values.{bit}

-- ---- numbers of types

remainder_fits : (w : Width) (n : ℤ) (d : ℕ) → 0 < d → (pos 0 ≤ℤ int_rem_euclid n (pos d)) × (int_rem_euclid n (pos d) <ℤ pos d)
remainder_fits w (pos a) d h = (omega (arith, ints), omega (arith, ints))
remainder_fits w (negsuc a) d h = (omega (arith, ints), omega (arith, ints))

-- a number that is wrapped to a type is one of it
pub wrapped_is_of : (t : IntType) (n : ℤ) → HasNumber t (wrapped t n)
wrapped_is_of Char n = SFits-int_wrap w8 n
wrapped_is_of SChar n = SFits-int_wrap w8 n
wrapped_is_of UChar n = remainder_fits w8 n (2 ^ width UChar) (omega arith)
wrapped_is_of Short n = SFits-int_wrap w16 n
wrapped_is_of UShort n = remainder_fits w16 n (2 ^ width UShort) (omega arith)
wrapped_is_of Int n = SFits-int_wrap w32 n
wrapped_is_of UInt n = remainder_fits w32 n (2 ^ width UInt) (omega arith)
wrapped_is_of Long n = SFits-int_wrap w64 n
wrapped_is_of ULong n = remainder_fits w64 n (2 ^ width ULong) (omega arith)
wrapped_is_of LLong n = SFits-int_wrap w64 n
wrapped_is_of ULLong n = remainder_fits w64 n (2 ^ width ULLong) (omega arith)

quotient_size : (a : ℤ) (d : ℕ) → (pos 0 ≤ℤ a → (pos 0 ≤ℤ int_div_euclid a (pos d)) × (int_div_euclid a (pos d) ≤ℤ a)) × (a <ℤ pos 0
    → (a ≤ℤ int_div_euclid a (pos d)) × (int_div_euclid a (pos d) <ℤ pos 0))
quotient_size (pos a) d = (λ h. (omega (arith, ints), omega (arith, ints, div-le_self a d)), λ h. absurd (omega (arith, ints, h)))
quotient_size (negsuc a) d = (λ h. absurd (omega (arith, ints, h)), λ h. (omega (arith, ints, div-le_self a d), omega (arith, ints)))

right_is_of : (t : IntType) (a : ℤ) (d : ℕ) → HasNumber t a → HasNumber t (int_div_euclid a (pos d))
right_is_of Char (pos a) d h = omega (arith, ints, h, div-le_self a d)
right_is_of Char (negsuc a) d h = omega (arith, ints, h, div-le_self a d)
right_is_of SChar (pos a) d h = omega (arith, ints, h, div-le_self a d)
right_is_of SChar (negsuc a) d h = omega (arith, ints, h, div-le_self a d)
right_is_of UChar (pos a) d h = (omega (arith, ints), omega (arith, ints, h, div-le_self a d))
right_is_of UChar (negsuc a) d h = absurd (omega (arith, ints, h))
right_is_of Short (pos a) d h = omega (arith, ints, h, div-le_self a d)
right_is_of Short (negsuc a) d h = omega (arith, ints, h, div-le_self a d)
right_is_of UShort (pos a) d h = (omega (arith, ints), omega (arith, ints, h, div-le_self a d))
right_is_of UShort (negsuc a) d h = absurd (omega (arith, ints, h))
right_is_of Int (pos a) d h = omega (arith, ints, h, div-le_self a d)
right_is_of Int (negsuc a) d h = omega (arith, ints, h, div-le_self a d)
right_is_of UInt (pos a) d h = (omega (arith, ints), omega (arith, ints, h, div-le_self a d))
right_is_of UInt (negsuc a) d h = absurd (omega (arith, ints, h))
right_is_of Long (pos a) d h = omega (arith, ints, h, div-le_self a d)
right_is_of Long (negsuc a) d h = omega (arith, ints, h, div-le_self a d)
right_is_of ULong (pos a) d h = (omega (arith, ints), omega (arith, ints, h, div-le_self a d))
right_is_of ULong (negsuc a) d h = absurd (omega (arith, ints, h))
right_is_of LLong (pos a) d h = omega (arith, ints, h, div-le_self a d)
right_is_of LLong (negsuc a) d h = omega (arith, ints, h, div-le_self a d)
right_is_of ULLong (pos a) d h = (omega (arith, ints), omega (arith, ints, h, div-le_self a d))
right_is_of ULLong (negsuc a) d h = absurd (omega (arith, ints, h))

bit_is_of : (b : Bool) → IsOf (scalars.Int Int) (bit b)
bit_is_of true = (refl, omega (arith, ints))
bit_is_of false = (refl, omega (arith, ints))

-- ---- looks that have operands

abbrev HaveOperands : List Look → Type 0
HaveOperands [] = Unit {0}
HaveOperands (look ∷ rest) = IsSomeAnd look.operand (λ x. Unit {0}) × HaveOperands rest

found_one : (objects : List ObjectTree) (check : Check) (x : Operand) (rest : Judged) (b : Bool) → (rest ≡ NoOperand → ⊥)
    → (if b then FailsAs check.kind x else rest) ≡ NoOperand → ⊥
found_one objects check x rest true h e = absurd (cc)
found_one objects check x rest false h e = h e

look_found : (objects : List ObjectTree) (check : Check) (o : Option Operand) (rest : Judged) → IsSomeAnd o (λ x. Unit {0}) → (rest ≡ NoOperand → ⊥)
    → judge_one objects check o rest ≡ NoOperand → ⊥
look_found objects check None rest h k e = absurd h
look_found objects check (Some x) rest h k e = found_one objects check x rest (fails objects check x) k e

found_some : (objects : List ObjectTree) (ls : List Look) → HaveOperands ls → judge objects ls ≡ NoOperand → ⊥
found_some objects [] h e = absurd (cc)
found_some objects (l ∷ ls) h e = look_found objects l.check l.operand (judge objects ls) h.0 (found_some objects ls h.1) e

settles_at : (ty : Scalar) (j : Judged) (r : Option Value) → (j ≡ NoOperand → ⊥) → IsSomeAnd r (IsOf ty) → IsSettled ty (outcome j r)
settles_at ty Passes None h k = absurd k
settles_at ty Passes (Some v) h k = k
settles_at ty (FailsAs kind x) r h k = tt
settles_at ty NoOperand r h k = absurd (h refl)

settles : (ty : Scalar) (objects : List ObjectTree) (ls : List Look) (r : Option Value) → HaveOperands ls → IsSomeAnd r (IsOf ty)
    → IsSettled ty (outcome (judge objects ls) r)
settles ty objects ls r h k = settles_at ty (judge objects ls) r (found_some objects ls h) k

-- a check that only a signed type has
signed_has : (f : WrongKind → Option Operand) (check : Check) (s : Bool) → IsSomeAnd (f check.kind) (λ x. Unit {0})
    → HaveOperands (looks f (if s then check ∷ [] else []))
signed_has f check true h = (h, tt)
signed_has f check false h = tt

-- ---- operators on numbers

module _ (t ta tb : IntType) (a b : ℤ) where
  results : (op : Arithmetic) → HasNumber t (arithmetic op t a b)
  results Multiply = wrapped_is_of t _
  results Divide = wrapped_is_of t _
  results Remainder = wrapped_is_of t _
  results Add = wrapped_is_of t _
  results Subtract = wrapped_is_of t _
  results BitAnd = wrapped_is_of t _
  results BitXor = wrapped_is_of t _
  results BitOr = wrapped_is_of t _

  arithmetic_has : (op : Arithmetic) → HaveOperands (looks (number_operand (binaries.Arithmetic op t) (values.Int ta a) (values.Int tb b))
      (arithmetic_checks op t))
  arithmetic_has Multiply = signed_has _ (range_check kinds.Overflow (least t) (pos (greatest t))) (is_signed t) tt
  arithmetic_has Divide = (tt, signed_has _ (range_check kinds.Quotient (least t) (pos (greatest t))) (is_signed t) tt)
  arithmetic_has Remainder = (tt, signed_has _ (range_check kinds.Quotient (least t) (pos (greatest t))) (is_signed t) tt)
  arithmetic_has Add = signed_has _ (range_check kinds.Overflow (least t) (pos (greatest t))) (is_signed t) tt
  arithmetic_has Subtract = signed_has _ (range_check kinds.Overflow (least t) (pos (greatest t))) (is_signed t) tt
  arithmetic_has BitAnd = tt
  arithmetic_has BitXor = tt
  arithmetic_has BitOr = tt

  shift_is_of : (way : Shift) → HasNumber t a → HasNumber t (shifted way t a b)
  shift_is_of shifts.Left h = wrapped_is_of t _
  shift_is_of shifts.Right h = right_is_of t a (2 ^ nat_abs b) h

shift_has : (way : Shift) (t v u : IntType) (a b : ℤ) → HaveOperands (looks (number_operand (binaries.Shift way t) (values.Int v a) (values.Int u b))
    (shift_checks way t))
shift_has shifts.Left t v u a b = (tt, signed_has _ (range_check kinds.ShiftResult (pos 0) (pos (greatest t))) (is_signed t) tt)
shift_has shifts.Right t v u a b = (tt, tt)

-- ---- operators on pointers

pair_has : (s t : Spot) (c : Comparison) → HaveOperands (looks (pair_operand (Some s) (Some t)) (pointer_checks c))
pair_has s t Less = (tt, (tt, (tt, tt)))
pair_has s t Greater = (tt, (tt, (tt, tt)))
pair_has s t AtMost = (tt, (tt, (tt, tt)))
pair_has s t AtLeast = (tt, (tt, (tt, tt)))
pair_has s t Equal = (tt, (tt, tt))
pair_has s t Unequal = (tt, (tt, tt))

compared_is_of : (c : Comparison) (a b x y : ℤ) (same : Bool) → IsSomeAnd (if same then compared c a b else compared c x y) (IsOf (scalars.Int Int))
compared_is_of c a b x y true = bit_is_of _
compared_is_of c a b x y false = bit_is_of _

pointers_settle : (objects : List ObjectTree) (m : ObjectMemory) (c : Comparison) (v u : Value) → IsOf scalars.Pointer v → IsOf scalars.Pointer u
    → IsSettled (scalars.Int Int) (binary objects m (binaries.ComparePointers c) v u)
pointers_settle objects m c (values.Ptr p) (values.Ptr q) h k =
    settles (scalars.Int Int) objects _ _ (pair_has _ _ c) (compared_is_of c p.offset q.offset (pos 0) (pos 1) (p.block == q.block))
pointers_settle objects m c (values.Ptr p) values.Null h k = settles (scalars.Int Int) objects _ _ (pair_has _ _ c) (bit_is_of _)
pointers_settle objects m c values.Null (values.Ptr q) h k = settles (scalars.Int Int) objects _ _ (pair_has _ _ c) (bit_is_of _)
pointers_settle objects m c values.Null values.Null h k = settles (scalars.Int Int) objects _ _ (pair_has _ _ c) (bit_is_of _)
pointers_settle objects m c (values.Int t n) u h k = absurd h
pointers_settle objects m c (values.Ptr p) (values.Int t n) h k = absurd k
pointers_settle objects m c values.Null (values.Int t n) h k = absurd k

-- a pointer that is moved
move_settles : (objects : List ObjectTree) (m : ObjectMemory) (v : Value) (d : ℤ) → IsOf scalars.Pointer v
    → IsSettled scalars.Pointer (outcome (judge objects (looks (moving_operand m v (moved v d)) move_checks)) (moved v d))
move_settles objects m (values.Ptr p) d h = settles scalars.Pointer objects (looks (moving_operand m (values.Ptr p) (moved (values.Ptr p) d)) move_checks)
    (moved (values.Ptr p) d) (tt, (tt, (tt, tt))) tt
move_settles objects m values.Null d h = settles scalars.Pointer objects (looks (moving_operand m values.Null (moved values.Null d)) move_checks)
    (moved values.Null d) (tt, (tt, (tt, tt))) tt
move_settles objects m (values.Int t n) d h = absurd h

null_settles : (ty : Scalar) (objects : List ObjectTree) (element : ℕ) (s : Spot)
    → IsSettled ty (outcome (judge objects (looks (pair_operand (Some s) (Some spots.Null)) (binary_checks (binaries.PointerMinusPointer element)))) None)
null_settles ty objects element spots.Null = tt
null_settles ty objects element spots.Dead = tt
null_settles ty objects element (spots.At o d) = tt

difference_settles : (objects : List ObjectTree) (m : ObjectMemory) (element : ℕ) (v u : Value) → IsOf scalars.Pointer v → IsOf scalars.Pointer u
    → IsSettled (scalars.Int Long) (binary objects m (binaries.PointerMinusPointer element) v u)
difference_settles objects m element (values.Ptr p) (values.Ptr q) h k =
    settles (scalars.Int Long) objects (binary_looks m (binaries.PointerMinusPointer element) (values.Ptr p) (values.Ptr q)) (Some (difference element p q))
    (tt, (tt, (tt, tt))) (refl, wrapped_is_of Long _)
difference_settles objects m element (values.Ptr p) values.Null h k = null_settles (scalars.Int Long) objects element (spot_at m p)
difference_settles objects m element values.Null (values.Ptr q) h k = tt
difference_settles objects m element values.Null values.Null h k = tt
difference_settles objects m element (values.Int t n) u h k = absurd h
difference_settles objects m element (values.Ptr p) (values.Int t n) h k = absurd k
difference_settles objects m element values.Null (values.Int t n) h k = absurd k

pub binary_settles : (objects : List ObjectTree) (m : ObjectMemory) (op : TBinaryOp) (v u : Value) → TakesBoth op v u
    → IsSettled (binary_type op) (binary objects m op v u)
binary_settles objects m (binaries.Arithmetic op t) (values.Int ta a) (values.Int tb b) h = settles (scalars.Int t) objects _ _ (arithmetic_has t ta tb a b op)
    (refl, results t ta tb a b op)
binary_settles objects m (binaries.Arithmetic op t) (values.Int ta a) (values.Ptr p) h = absurd h.1
binary_settles objects m (binaries.Arithmetic op t) (values.Ptr p) u h = absurd h.0
binary_settles objects m (binaries.Arithmetic op t) (values.Int ta a) values.Null h = absurd h.1
binary_settles objects m (binaries.Arithmetic op t) values.Null u h = absurd h.0
binary_settles objects m (binaries.Shift way t) (values.Int ta a) (values.Int tb b) h = settles (scalars.Int t) objects _ _ (shift_has way t ta tb a b)
    (refl, shift_is_of t ta tb a b way h.0.1)
binary_settles objects m (binaries.Shift way t) (values.Int ta a) (values.Ptr p) h = absurd h.1
binary_settles objects m (binaries.Shift way t) (values.Ptr p) u h = absurd h.0
binary_settles objects m (binaries.Shift way t) (values.Int ta a) values.Null h = absurd h.1
binary_settles objects m (binaries.Shift way t) values.Null u h = absurd h.0
binary_settles objects m (binaries.CompareInts c t) (values.Int ta a) (values.Int tb b) h = settles (scalars.Int Int) objects [] (compared c a b) tt
    (bit_is_of (compares c a b))
binary_settles objects m (binaries.CompareInts c t) (values.Int ta a) (values.Ptr p) h = absurd h.1
binary_settles objects m (binaries.CompareInts c t) (values.Ptr p) u h = absurd h.0
binary_settles objects m (binaries.CompareInts c t) (values.Int ta a) values.Null h = absurd h.1
binary_settles objects m (binaries.CompareInts c t) values.Null u h = absurd h.0
binary_settles objects m (binaries.ComparePointers c) v u h = pointers_settle objects m c v u h.0 h.1
binary_settles objects m (binaries.PointerPlusInt element) v (values.Int t n) h = move_settles objects m v (elements element n) h.0
binary_settles objects m (binaries.PointerPlusInt element) v (values.Ptr p) h = absurd h.1
binary_settles objects m (binaries.PointerPlusInt element) v values.Null h = absurd h.1
binary_settles objects m (binaries.PointerMinusInt element) v (values.Int t n) h = move_settles objects m v (neg_ℤ (elements element n)) h.0
binary_settles objects m (binaries.PointerMinusInt element) v (values.Ptr p) h = absurd h.1
binary_settles objects m (binaries.PointerMinusInt element) v values.Null h = absurd h.1
binary_settles objects m (binaries.IntPlusPointer element) (values.Int t n) u h = move_settles objects m u (elements element n) h.0
binary_settles objects m (binaries.IntPlusPointer element) (values.Ptr p) u h = absurd h.1
binary_settles objects m (binaries.IntPlusPointer element) values.Null u h = absurd h.1
binary_settles objects m (binaries.PointerMinusPointer element) v u h = difference_settles objects m element v u h.0 h.1
