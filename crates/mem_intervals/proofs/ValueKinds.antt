-- Values of expressions, and of loads, are of their types.
use Rattle.std.proofs.Common.{◌≡◌, ℕ, ℤ, refl, subst, Bool, true, false, List, [], ◌∷◌, Option, Some, None}
use Rattle.std.specs.Option.{ok_or}
use Rattle.std.specs.Prelude.{Err, if◌then◌else◌, option_and_then, slice_get, ◌==◌}
use Rattle.c_syntax_written.specs.declared.int_type.IntType.TheVariants as ints
use Rattle.c_syntax.specs.declared.alarm.WrongKind.{WrongKind}
use Rattle.c_syntax.specs.declared.alarm.WrongKind.TheVariants as kinds
use Rattle.c_syntax.specs.declared.operator.Comparison.{Comparison}
use Rattle.c_syntax.specs.declared.operator.TUnaryOp.{TUnaryOp}
use Rattle.c_syntax.specs.declared.operator.TUnaryOp.TheVariants as unaries
use Rattle.c_syntax.specs.declared.operator.TBinaryOp.{TBinaryOp}
use Rattle.c_syntax.specs.declared.operator.TBinaryOp.TheVariants as binaries
use Rattle.block_mem.specs.declared.types.Byte.{Byte}
use Rattle.block_mem.specs.declared.types.Byte.TheVariants.{Undef, Num, Frag}
use Rattle.block_mem.specs.declared.types.Scalar.{Scalar}
use Rattle.block_mem.specs.declared.types.Scalar.TheVariants as scalars
use Rattle.block_mem.specs.declared.types.Value.{Value}
use Rattle.block_mem.specs.declared.types.Value.TheVariants as values
use Rattle.block_mem.specs.Blocks as blocks
use Rattle.block_mem.specs.Bytes.{size_of, has_undef, null_of, pointer_of}
use Rattle.block_mem.specs.Bytes as bytes
use Rattle.block_mem.specs.Numbers.{number_of, number_in}
use Rattle.block_mem.specs.Pieces.{are_pieces}
use Rattle.c_values.specs.Accesses.{ok_of}
use Rattle.c_values.specs.Operators.{binary_result, unary_result, compare_pointers, moved}
use Rattle.c_values.specs.Places.{ObjectMemory}
use Rattle.c_values.specs.Typed.{binary_type, unary_type}
use Rattle.c_values.specs.Values.{bit, converted_to}
use Rattle.csharp.specs.Trees.{CsExprTree, Const, Null, Temp, Address, Unary, Binary, Convert, CsProgramTree}
use Rattle.csharp.specs.Formed.{HasType}
use Rattle.csharp.specs.States.{State, value_of, takes_right, if_taken}
use Rattle.csharp.specs.Actions.{loaded_at}
use Rattle.mem_temps.specs.Values.{HasKind}
use Rattle.mem_temps.proofs.Ranged.{and_then_some, map_some}
use Rattle.mem_temps.proofs.Valued.{taken_value}

given : (ty : Scalar) (v w : Value) → Some v ≡ Some w → HasKind ty v → HasKind ty w
given ty v w e h = let same : v ≡ w = cc in subst (HasKind ty) same h

of_type : (t ty : Scalar) (v : Value) → Some t ≡ Some ty → HasKind t v → HasKind ty v
of_type t ty v e h = let same : t ≡ ty = cc in subst (λ (x : Scalar). HasKind x v) same h

-- ---- operators

pub unary_kind : (op : TUnaryOp) (u v : Value) → unary_result op u ≡ Some v → HasKind (unary_type op) v
unary_kind (unaries.Plus t) (values.Int w n) v h = given (scalars.Int t) _ v h refl
unary_kind (unaries.Plus t) (values.Ptr p) v h = absurd (cc)
unary_kind (unaries.Plus t) values.Null v h = absurd (cc)
unary_kind (unaries.Minus t) (values.Int w n) v h = given (scalars.Int t) _ v h refl
unary_kind (unaries.Minus t) (values.Ptr p) v h = absurd (cc)
unary_kind (unaries.Minus t) values.Null v h = absurd (cc)
unary_kind (unaries.Complement t) (values.Int w n) v h = given (scalars.Int t) _ v h refl
unary_kind (unaries.Complement t) (values.Ptr p) v h = absurd (cc)
unary_kind (unaries.Complement t) values.Null v h = absurd (cc)
unary_kind unaries.Not u v h = given (scalars.Int ints.Int) _ v h refl

bit_kind : (b : Bool) (v : Value) → Some (bit b) ≡ Some v → HasKind (scalars.Int ints.Int) v
bit_kind b v h = given (scalars.Int ints.Int) (bit b) v h refl

either_bit : (t b c : Bool) (v : Value) → (if t then Some (bit b) else Some (bit c)) ≡ Some v → HasKind (scalars.Int ints.Int) v
either_bit true b c v h = bit_kind b v h
either_bit false b c v h = bit_kind c v h

compared_kind : (c : Comparison) (a b v : Value) → compare_pointers c a b ≡ Some v → HasKind (scalars.Int ints.Int) v
compared_kind c (values.Ptr p) (values.Ptr q) v h = either_bit (p.block == q.block) _ _ v h
compared_kind c (values.Ptr p) values.Null v h = bit_kind _ v h
compared_kind c (values.Ptr p) (values.Int t n) v h = absurd (cc)
compared_kind c values.Null (values.Ptr q) v h = bit_kind _ v h
compared_kind c values.Null values.Null v h = bit_kind _ v h
compared_kind c values.Null (values.Int t n) v h = absurd (cc)
compared_kind c (values.Int t n) b v h = absurd (cc)

moved_kind : (a : Value) (d : ℤ) (v : Value) → moved a d ≡ Some v → HasKind scalars.Pointer v
moved_kind (values.Ptr p) d v h = given scalars.Pointer _ v h tt
moved_kind values.Null d v h = given scalars.Pointer _ v h tt
moved_kind (values.Int t n) d v h = absurd (cc)

pub binary_kind : (op : TBinaryOp) (a b v : Value) → binary_result op a b ≡ Some v → HasKind (binary_type op) v
binary_kind (binaries.Arithmetic op t) (values.Int w n) (values.Int x k) v h = given (scalars.Int t) _ v h refl
binary_kind (binaries.Arithmetic op t) (values.Int w n) (values.Ptr p) v h = absurd (cc)
binary_kind (binaries.Arithmetic op t) (values.Int w n) values.Null v h = absurd (cc)
binary_kind (binaries.Arithmetic op t) (values.Ptr p) b v h = absurd (cc)
binary_kind (binaries.Arithmetic op t) values.Null b v h = absurd (cc)
binary_kind (binaries.Shift way t) (values.Int w n) (values.Int x k) v h = given (scalars.Int t) _ v h refl
binary_kind (binaries.Shift way t) (values.Int w n) (values.Ptr p) v h = absurd (cc)
binary_kind (binaries.Shift way t) (values.Int w n) values.Null v h = absurd (cc)
binary_kind (binaries.Shift way t) (values.Ptr p) b v h = absurd (cc)
binary_kind (binaries.Shift way t) values.Null b v h = absurd (cc)
binary_kind (binaries.CompareInts c t) (values.Int w n) (values.Int x k) v h = bit_kind _ v h
binary_kind (binaries.CompareInts c t) (values.Int w n) (values.Ptr p) v h = absurd (cc)
binary_kind (binaries.CompareInts c t) (values.Int w n) values.Null v h = absurd (cc)
binary_kind (binaries.CompareInts c t) (values.Ptr p) b v h = absurd (cc)
binary_kind (binaries.CompareInts c t) values.Null b v h = absurd (cc)
binary_kind (binaries.ComparePointers c) a b v h = compared_kind c a b v h
binary_kind (binaries.PointerPlusInt size) a (values.Int t n) v h = moved_kind a _ v h
binary_kind (binaries.PointerPlusInt size) a (values.Ptr p) v h = absurd (cc)
binary_kind (binaries.PointerPlusInt size) a values.Null v h = absurd (cc)
binary_kind (binaries.IntPlusPointer size) (values.Int t n) b v h = moved_kind b _ v h
binary_kind (binaries.IntPlusPointer size) (values.Ptr p) b v h = absurd (cc)
binary_kind (binaries.IntPlusPointer size) values.Null b v h = absurd (cc)
binary_kind (binaries.PointerMinusInt size) a (values.Int t n) v h = moved_kind a _ v h
binary_kind (binaries.PointerMinusInt size) a (values.Ptr p) v h = absurd (cc)
binary_kind (binaries.PointerMinusInt size) a values.Null v h = absurd (cc)
binary_kind (binaries.PointerMinusPointer size) (values.Ptr p) (values.Ptr r) v h = given (scalars.Int ints.Long) _ v h refl
binary_kind (binaries.PointerMinusPointer size) (values.Ptr p) (values.Int t n) v h = absurd (cc)
binary_kind (binaries.PointerMinusPointer size) (values.Ptr p) values.Null v h = absurd (cc)
binary_kind (binaries.PointerMinusPointer size) (values.Int t n) b v h = absurd (cc)
binary_kind (binaries.PointerMinusPointer size) values.Null b v h = absurd (cc)

-- ---- expressions

pub value_kind : (q : CsProgramTree) (s : State)
    → ((d : ℕ) (ty : Scalar) (v : Value) → slice_get q.temps d ≡ Some ty → slice_get s.temps d ≡ Some v → HasKind ty v)
    → (e : CsExprTree) (ty : Scalar) (v : Value) → HasType q ty e → value_of e s ≡ Some v → HasKind ty v
value_kind q s own (Const t n) ty v h g = of_type (scalars.Int t) ty v h (given (scalars.Int t) (values.Int t n) v g refl)
value_kind q s own Null ty v h g = of_type scalars.Pointer ty v h (given scalars.Pointer values.Null v g tt)
value_kind q s own (Temp d) ty v h g = own d ty v h g
value_kind q s own (Address x) ty v h g =
    let b = map_some _ _ v g in of_type scalars.Pointer ty v h (subst (HasKind scalars.Pointer) b.2 tt)
value_kind q s own (Unary op e) ty v h g =
    let u = and_then_some (unary_result op) (value_of e s) v g in of_type (unary_type op) ty v h (unary_kind op u.0 v u.2)
value_kind q s own (Binary op e f) ty v h g =
    let a = and_then_some (λ a. option_and_then (if_taken op (binary_result op) a) (value_of f s)) (value_of e s) v g in
    let b = and_then_some (if_taken op (binary_result op) a.0) (value_of f s) v a.2 in
    let taken = taken_value (takes_right op b.0) (binary_result op a.0 b.0) v b.2 in
    of_type (binary_type op) ty v h (binary_kind op a.0 b.0 v taken.1)
value_kind q s own (Convert t e) ty v h g =
    let u = and_then_some (converted_to (scalars.Int t)) (value_of e s) v g in of_type (scalars.Int t) ty v h (into u.0 u.2)
  where
    into : (u : Value) → converted_to (scalars.Int t) u ≡ Some v → HasKind (scalars.Int t) v
    into (values.Int w n) k = given (scalars.Int t) _ v k refl
    into (values.Ptr p) k = absurd (cc)
    into values.Null k = absurd (cc)

-- ---- loads

null_kind : (o : Option ℕ) (v : Value) → null_of o ≡ Some v → HasKind scalars.Pointer v
null_kind None v h = absurd (cc)
null_kind (Some m) v h = by (m == 0) h
  where
    by : (b : Bool) → (if b then Some values.Null else None) ≡ Some v → HasKind scalars.Pointer v
    by true k = given scalars.Pointer values.Null v k tt
    by false k = absurd (cc)

pointer_kind : (bs : List Byte) (v : Value) → pointer_of bs ≡ Some v → HasKind scalars.Pointer v
pointer_kind [] v h = absurd (cc)
pointer_kind (Undef ∷ bs) v h = absurd (cc)
pointer_kind (Num n ∷ bs) v h = null_kind (number_of (Num n ∷ bs)) v h
pointer_kind (Frag p k ∷ bs) v h = by (are_pieces p 0 (Frag p k ∷ bs)) h
  where
    by : (b : Bool) → (if b then Some (values.Ptr p) else None) ≡ Some v → HasKind scalars.Pointer v
    by true g = given scalars.Pointer (values.Ptr p) v g tt
    by false g = absurd (cc)

bytes_kind : (ty : Scalar) (bs : List Byte) (v : Value) → bytes.value_of ty bs ≡ Some v → HasKind ty v
bytes_kind (scalars.Int t) bs v h = let m = map_some (λ m. values.Int t (number_in t m)) (number_of bs) v h in subst (HasKind (scalars.Int t)) m.2 refl
bytes_kind scalars.Pointer bs v h = pointer_kind bs v h

found_kind : (ty : Scalar) (o : Option Value) (v : Value) → ((w : Value) → o ≡ Some w → HasKind ty w) → ok_of (ok_or o kinds.Fragment) ≡ Some v → HasKind ty v
found_kind ty None v kind k = absurd (cc)
found_kind ty (Some w) v kind k = given ty w v k (kind w refl)

marked_kind : (b : Bool) (ty : Scalar) (bs : List Byte) (v : Value)
    → ok_of (if b then Err kinds.Indeterminate else ok_or (bytes.value_of ty bs) kinds.Fragment) ≡ Some v → HasKind ty v
marked_kind true ty bs v k = absurd (cc)
marked_kind false ty bs v k = found_kind ty (bytes.value_of ty bs) v (λ w e. bytes_kind ty bs w e) k

access_kind : (wrong : Option WrongKind) (ty : Scalar) (bs : List Byte) (v : Value) → ok_of (blocks.after_access wrong (blocks.loaded ty bs)) ≡ Some v → HasKind ty v
access_kind (Some k) ty bs v g = absurd (cc)
access_kind None ty bs v g = marked_kind (has_undef bs) ty bs v g

pub loaded_kind : (m : ObjectMemory) (ty : Scalar) (a v : Value) → loaded_at m ty a ≡ Some v → HasKind ty v
loaded_kind m ty (values.Int t n) v h = absurd (cc)
loaded_kind m ty values.Null v h = absurd (cc)
loaded_kind m ty (values.Ptr p) v h =
    access_kind (blocks.wrong_access m.blocks p (size_of ty) (size_of ty) false) ty (blocks.bytes_at m.blocks p (size_of ty)) v h
