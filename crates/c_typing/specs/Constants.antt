-- Constant expressions and static addresses, as functions of typed trees (C11 6.6).
use Rattle.std.specs.Prelude.{ℕ, ℤ, pos, neg_ℤ, ◌+ℤ◌, ◌*ℤ◌, int_le, Bool, true, false, not, ◌&&◌, ◌||◌, if◌then◌else◌, Option, Some, None, option_map, option_and_then, unwrap_or, List, [], slice_get}
use Rattle.std.specs.Ordering.{int_eq}
use Rattle.c_syntax_written.specs.declared.int_type.IntType.{IntType}
use Rattle.c_syntax_written.specs.Integer.{wrapped}
use Rattle.c_syntax.specs.declared.operator.TUnaryOp.{TUnaryOp}
use Rattle.c_syntax.specs.declared.operator.TUnaryOp.TheVariants as unaries
use Rattle.c_syntax.specs.declared.operator.TBinaryOp.{TBinaryOp}
use Rattle.c_syntax.specs.declared.operator.TBinaryOp.TheVariants as binaries
use Rattle.c_syntax.specs.Types.{CTypeTree, Void, Int, Pointer, ObjectTree}
use Rattle.c_syntax.specs.TypedExpr.{TExprTree, Const, Null, AddressOf, Decay, Unary, Binary, Convert, And, Or, Cond, TLvalueTree, Var, Deref, Member}
use Rattle.c_syntax.specs.TypedParts.{texpr_type}
use Rattle.block_mem.specs.declared.types.Value.{Value}
use Rattle.block_mem.specs.declared.types.Value.TheVariants as values
use Rattle.block_mem.specs.declared.types.Scalar.TheVariants as scalars
use Rattle.c_values.specs.Places.{ObjectMemory}
use Rattle.c_values.specs.Looks as looks
use Rattle.c_values.specs.Operators.{binary, unary}

-- 0 or 1
abbrev pub truth_value : Bool → ℤ
truth_value b = if b then pos 1 else pos 0

abbrev pub is_true : ℤ → Bool
is_true n = not (int_eq n (pos 0))

-- operators on integers look at no memory
abbrev pub no_memory : ObjectMemory
no_memory = record { blocks = []; owners = []; places = [] }

abbrev pub number_in : Value → Option ℤ
number_in (values.Int t n) = Some n
number_in v = None

-- the number that an operator gives, where it does not go wrong
abbrev pub number_given : looks.Outcome → Option ℤ
number_given (looks.Gives v) = number_in v
number_given (looks.GoesWrong kind operand) = None
number_given looks.IsStuck = None

-- the integer type at which an operator takes an operand of this type: its own, but for `!` and the amount of a shift (C11 6.5.7p3)
abbrev pub operand_at : TUnaryOp → IntType → IntType
operand_at (unaries.Plus t) u = t
operand_at (unaries.Minus t) u = t
operand_at (unaries.Complement t) u = t
operand_at unaries.Not u = u

abbrev pub left_at : TBinaryOp → IntType → IntType
left_at (binaries.Arithmetic op t) u = t
left_at (binaries.Shift way t) u = t
left_at (binaries.CompareInts comparison t) u = t
left_at op u = u

abbrev pub right_at : TBinaryOp → IntType → IntType
right_at (binaries.Arithmetic op t) u = t
right_at (binaries.CompareInts comparison t) u = t
right_at op u = u

-- a number as a value of this type. In a typed tree it is one of the type already; any other is converted (this profile)
abbrev pub value_at : IntType → ℤ → Value
value_at t n = values.Int t (wrapped t n)

abbrev pub integer_unary : TUnaryOp → IntType → ℤ → Option ℤ
integer_unary op t n = number_given (unary [] no_memory op (Some (scalars.Int t)) (value_at t n))

abbrev pub integer_binary : TBinaryOp → IntType → IntType → ℤ → ℤ → Option ℤ
integer_binary op t u a b = number_given (binary [] no_memory op (value_at t a) (value_at u b))

-- an operator on the value of an operand of this type, where nothing goes wrong
abbrev pub unary_constant : TUnaryOp → CTypeTree → Option ℤ → Option ℤ
unary_constant op (Int t) (Some n) = integer_unary op (operand_at op t) n
unary_constant op ty value = None

-- an operator on two values, of operands of these types
abbrev pub binary_constant : TBinaryOp → CTypeTree → CTypeTree → Option ℤ → Option ℤ → Option ℤ
binary_constant op (Int t) (Int u) (Some a) (Some b) = integer_binary op (left_at op t) (right_at op u) a b
binary_constant op left right a b = None

-- a conversion to an integer type (C11 6.3.1.3)
abbrev pub converted_constant : CTypeTree → Option ℤ → Option ℤ
converted_constant (Int t) value = option_map (wrapped t) value
converted_constant ty value = None

-- both sides are constant, and so neither goes wrong, evaluated or not (this profile)
abbrev pub logical_constant : (Bool → Bool → Bool) → Option ℤ → Option ℤ → Option ℤ
logical_constant op (Some a) (Some b) = Some (truth_value (op (is_true a) (is_true b)))
logical_constant op a b = None

abbrev pub chosen_constant : CTypeTree → Option ℤ → Option ℤ → Option ℤ → Option ℤ
chosen_constant (Int t) (Some c) (Some a) (Some b) = Some (if is_true c then a else b)
chosen_constant ty c a b = None

-- the value of an integer constant expression: literals, enumeration constants, sizes, casts and operators on integers,
-- of which no node goes wrong (C11 6.6p6, this profile)
unfoldable pub constant_value : TExprTree → Option ℤ
constant_value (Const at ty value) = Some value
constant_value (Unary at op operand) = unary_constant op (texpr_type operand) (constant_value operand)
constant_value (Binary at op left right) = binary_constant op (texpr_type left) (texpr_type right) (constant_value left) (constant_value right)
constant_value (Convert at ty operand) = converted_constant ty (constant_value operand)
constant_value (And at left right) = logical_constant (λ a b. a && b) (constant_value left) (constant_value right)
constant_value (Or at left right) = logical_constant (λ a b. a || b) (constant_value left) (constant_value right)
constant_value (Cond at ty condition first second) = chosen_constant ty (constant_value condition) (constant_value first) (constant_value second)
constant_value e = None

-- an integer constant expression of value 0
abbrev pub is_zero : TExprTree → Bool
is_zero e = unwrap_or (option_map (λ n. int_eq n (pos 0)) (constant_value e)) false

-- a null pointer constant: such an expression, also cast to `void *` (C11 6.3.2.3p3)
abbrev pub is_null_constant : TExprTree → Bool
is_null_constant (Null at (Pointer Void false)) = true
is_null_constant e = is_zero e

-- what a static pointer holds: nothing, or so many bytes behind the start of an object of static duration
pub data Address : Type 0 where
  Nowhere : Address
  Inside : ℕ → ℤ → Address

-- an address in an object, from its start to one past its end; of an array whose size comes later the start alone (C11 6.6p9, this profile)
abbrev pub inside : List ObjectTree → ℕ → ℤ → Option Address
inside objects n offset =
    option_and_then (λ object. if int_le (pos 0) offset && int_le offset (pos object.size) then Some (Inside n offset) else None) (slice_get objects n)

-- an address that is moved by bytes
abbrev pub moved_address : List ObjectTree → Option Address → Option ℤ → Option Address
moved_address objects (Some (Inside n offset)) (Some d) = inside objects n (offset +ℤ d)
moved_address objects address d = None

abbrev pub elements : ℕ → Option ℤ → Option ℤ
elements size n = option_map (λ k. pos size *ℤ k) n

-- an address moved by elements (C11 6.5.6p8)
abbrev pub moved_by : List ObjectTree → TBinaryOp → Option Address → Option Address → Option ℤ → Option ℤ → Option Address
moved_by objects (binaries.PointerPlusInt size) left right a b = moved_address objects left (elements size b)
moved_by objects (binaries.IntPlusPointer size) left right a b = moved_address objects right (elements size a)
moved_by objects (binaries.PointerMinusInt size) left right a b = moved_address objects left (option_map neg_ℤ (elements size b))
moved_by objects op left right a b = None

abbrev pub is_pointer : CTypeTree → Bool
is_pointer (Pointer to is_const) = true
is_pointer ty = false

-- a pointer converted to another pointer type
abbrev pub converted_address : CTypeTree → Option Address → Option Address
converted_address ty address = if is_pointer ty then address else None

-- the object of this number, where it has static duration
abbrev pub static_object : List ObjectTree → ℕ → Option Address
static_object objects n = option_and_then (λ object. if object.is_static then Some (Inside n (pos 0)) else None) (slice_get objects n)

-- a static address with a constant offset (C11 6.6p9)
unfoldable mutual
  pub static_address : List ObjectTree → TExprTree → Option Address
  static_address objects (Null at ty) = Some Nowhere
  static_address objects (AddressOf at place) = static_place objects place
  static_address objects (Decay at place) = static_place objects place
  static_address objects (Binary at op left right) =
      moved_by objects op (static_address objects left) (static_address objects right) (constant_value left) (constant_value right)
  static_address objects (Convert at ty operand) = converted_address ty (static_address objects operand)
  static_address objects e = None

  pub static_place : List ObjectTree → TLvalueTree → Option Address
  static_place objects (Var at n ty is_const) = static_object objects n
  static_place objects (Deref at kind ty is_const pointer) = static_address objects pointer
  static_place objects (Member at k offset ty is_const place) = moved_address objects (static_place objects place) (Some (pos offset))
