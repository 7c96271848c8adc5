-- Operators on values: what their checks look at, and what they give.
use Rattle.std.specs.Prelude.{ℕ, ℤ, pos, ◌==◌, ◌+ℤ◌, ◌-ℤ◌, ◌*ℤ◌, neg_ℤ, int_div, not, if◌then◌else◌, List, Option, Some, None, option_and_then, option_map}
use Rattle.c_syntax_written.specs.declared.int_type.IntType.TheVariants as ints
use Rattle.c_syntax_written.specs.Integer.{wrapped}
use Rattle.c_syntax.specs.declared.alarm.WrongKind.{WrongKind}
use Rattle.c_syntax.specs.declared.alarm.WrongKind.TheVariants as kinds
use Rattle.c_syntax.specs.declared.alarm.Spot.{Spot}
use Rattle.c_syntax.specs.declared.operator.Comparison.{Comparison}
use Rattle.c_syntax.specs.declared.operator.Stride.{Stride}
use Rattle.c_syntax.specs.declared.operator.Stride.TheVariants as strides
use Rattle.c_syntax.specs.declared.operator.TUnaryOp.{TUnaryOp}
use Rattle.c_syntax.specs.declared.operator.TUnaryOp.TheVariants as unaries
use Rattle.c_syntax.specs.declared.operator.TBinaryOp.{TBinaryOp}
use Rattle.c_syntax.specs.declared.operator.TBinaryOp.TheVariants as binaries
use Rattle.c_syntax.specs.Types.{ObjectTree}
use Rattle.c_syntax.specs.Operand.{Operand, Number, Point, Points}
use Rattle.c_layout.specs.Checks.{unary_checks, binary_checks, move_checks}
use Rattle.block_mem.specs.declared.types.Pointer as pointers
use Rattle.block_mem.specs.declared.types.Scalar.{Scalar}
use Rattle.block_mem.specs.declared.types.Value.{Value}
use Rattle.block_mem.specs.declared.types.Value.TheVariants as values
use Rattle.c_values.specs.Values.{plain_type, truth, bit}
use Rattle.c_values.specs.Places.{ObjectMemory, spot, point}
use Rattle.c_values.specs.Looks.{Look, looks, judge, Outcome, outcome}
use Rattle.c_values.specs.Numbers.{exact_arithmetic, arithmetic, exact_shift, shifted, complement, compares}

-- ---- what operators give where their checks pass

abbrev pub compared : Comparison → ℤ → ℤ → Option Value
compared c a b = Some (bit (compares c a b))

-- pointers into one block compare as their offsets; those into two blocks, and one that is null beside one that is not, are unequal (C11 6.5.8p5, 6.5.9p6)
abbrev pub compare_pointers : Comparison → Value → Value → Option Value
compare_pointers c (values.Ptr p) (values.Ptr q) = if p.block == q.block then compared c p.offset q.offset else compared c (pos 0) (pos 1)
compare_pointers c (values.Ptr p) values.Null = compared c (pos 1) (pos 0)
compare_pointers c values.Null (values.Ptr q) = compared c (pos 0) (pos 1)
compare_pointers c values.Null values.Null = compared c (pos 0) (pos 0)
compare_pointers c v u = None

-- a pointer moved by bytes (C11 6.5.6p8); its offset is exact
abbrev pub moved : Value → ℤ → Option Value
moved (values.Ptr p) d = Some (values.Ptr (record p { offset = p.offset +ℤ d }))
moved values.Null d = Some values.Null
moved (values.Int t n) d = None

-- the bytes of so many elements
abbrev pub elements : ℕ → ℤ → ℤ
elements element n = pos element *ℤ n

-- the elements between two pointers, as a long (C11 6.5.6p9)
abbrev pub difference : ℕ → pointers.Pointer → pointers.Pointer → Value
difference element p q = values.Int ints.Long (wrapped ints.Long (int_div (p.offset -ℤ q.offset) (pos element)))

abbrev pub binary_result : TBinaryOp → Value → Value → Option Value
binary_result (binaries.Arithmetic op t) (values.Int ta a) (values.Int tb b) = Some (values.Int t (arithmetic op t a b))
binary_result (binaries.Shift way t) (values.Int ta a) (values.Int tb b) = Some (values.Int t (shifted way t a b))
binary_result (binaries.CompareInts c t) (values.Int ta a) (values.Int tb b) = compared c a b
binary_result (binaries.ComparePointers c) v u = compare_pointers c v u
binary_result (binaries.PointerPlusInt element) v (values.Int t n) = moved v (elements element n)
binary_result (binaries.IntPlusPointer element) (values.Int t n) v = moved v (elements element n)
binary_result (binaries.PointerMinusInt element) v (values.Int t n) = moved v (neg_ℤ (elements element n))
binary_result (binaries.PointerMinusPointer element) (values.Ptr p) (values.Ptr q) = Some (difference element p q)
binary_result op v u = None

abbrev pub unary_result : TUnaryOp → Value → Option Value
unary_result (unaries.Plus t) (values.Int u n) = Some (values.Int t n)
unary_result (unaries.Minus t) (values.Int u n) = Some (values.Int t (wrapped t (neg_ℤ n)))
unary_result (unaries.Complement t) (values.Int u n) = Some (values.Int t (complement t n))
unary_result unaries.Not v = Some (bit (not (truth v)))
unary_result op v = None

-- ---- what their checks look at, by the kind of the check

abbrev pub number : Value → Option Operand
number (values.Int t n) = Some (Number n)
number v = None

-- the exact number of checks of a result
abbrev pub exact_binary : TBinaryOp → Value → Value → Option Operand
exact_binary (binaries.Arithmetic op t) (values.Int ta a) (values.Int tb b) = Some (Number (exact_arithmetic op a b))
exact_binary (binaries.Shift way t) (values.Int ta a) (values.Int tb b) = Some (Number (exact_shift a b))
exact_binary op v u = None

-- an operator on two numbers: its exact result or quotient, its divisor, or its amount
abbrev pub number_operand : TBinaryOp → Value → Value → WrongKind → Option Operand
number_operand op v u kinds.Overflow = exact_binary op v u
number_operand op v u kinds.DivideByZero = number u
number_operand op v u kinds.Quotient = exact_binary op v u
number_operand op v u kinds.ShiftAmount = number u
number_operand op v u kinds.ShiftResult = exact_binary op v u
number_operand op v u kind = None

-- where a pointer that is moved points, and where it points then
abbrev pub move_operand : Option Spot → Option Spot → WrongKind → Option Operand
move_operand from to kinds.NullUse = option_map Point from
move_operand from to kinds.Dangling = option_map Point from
move_operand from to kinds.Bounds = option_map Point to
move_operand from to kind = None

abbrev both : Option Spot → Option Spot → Option Operand
both s t = option_and_then (λ left. option_map (Points left) t) s

-- where the two pointers of a comparison or a difference point
abbrev pub pair_operand : Option Spot → Option Spot → WrongKind → Option Operand
pair_operand s t kinds.NullUse = both s t
pair_operand s t kinds.Dangling = both s t
pair_operand s t kinds.Unrelated = both s t
pair_operand s t kind = None

-- a pointer that is moved to this one
abbrev pub moving_operand : ObjectMemory → Value → Option Value → WrongKind → Option Operand
moving_operand m v new = move_operand (spot m v) (option_and_then (spot m) new)

abbrev pub binary_operand : ObjectMemory → TBinaryOp → Value → Value → WrongKind → Option Operand
binary_operand m (binaries.Arithmetic op t) v u = number_operand (binaries.Arithmetic op t) v u
binary_operand m (binaries.Shift way t) v u = number_operand (binaries.Shift way t) v u
binary_operand m (binaries.CompareInts c t) v u = number_operand (binaries.CompareInts c t) v u
binary_operand m (binaries.ComparePointers c) v u = pair_operand (spot m v) (spot m u)
binary_operand m (binaries.PointerPlusInt element) v u = moving_operand m v (binary_result (binaries.PointerPlusInt element) v u)
binary_operand m (binaries.IntPlusPointer element) v u = moving_operand m u (binary_result (binaries.IntPlusPointer element) v u)
binary_operand m (binaries.PointerMinusInt element) v u = moving_operand m v (binary_result (binaries.PointerMinusInt element) v u)
binary_operand m (binaries.PointerMinusPointer element) v u = pair_operand (spot m v) (spot m u)

-- the exact number of `-`, or the pointer that `!` tests
abbrev pub unary_operand : ObjectMemory → TUnaryOp → Value → WrongKind → Option Operand
unary_operand m (unaries.Minus t) (values.Int u n) kinds.Overflow = Some (Number (neg_ℤ n))
unary_operand m unaries.Not v kinds.Dangling = point m v
unary_operand m op v kind = None

-- ---- looks, and what operators come to

abbrev pub binary_looks : ObjectMemory → TBinaryOp → Value → Value → List Look
binary_looks m op v u = looks (binary_operand m op v u) (binary_checks op)

-- an operator on two values
abbrev pub binary : List ObjectTree → ObjectMemory → TBinaryOp → Value → Value → Outcome
binary objects m op v u = outcome (judge objects (binary_looks m op v u)) (binary_result op v u)

-- an operator on a value of this type
abbrev pub unary_looks : ObjectMemory → TUnaryOp → Option Scalar → Value → List Look
unary_looks m op ty v = looks (unary_operand m op v) (unary_checks op (plain_type ty))

abbrev pub unary : List ObjectTree → ObjectMemory → TUnaryOp → Option Scalar → Value → Outcome
unary objects m op ty v = outcome (judge objects (unary_looks m op ty v)) (unary_result op v)

-- a pointer that is moved by bytes
abbrev pub move_by : List ObjectTree → ObjectMemory → Value → ℤ → Outcome
move_by objects m v d = outcome (judge objects (looks (moving_operand m v (moved v d)) move_checks)) (moved v d)

-- a place that is moved to a member of what stands there (C11 6.5.2.3p3)
abbrev pub member_looks : ObjectMemory → Value → ℕ → List Look
member_looks m v offset = looks (moving_operand m v (moved v (pos offset))) move_checks

abbrev pub member : List ObjectTree → ObjectMemory → Value → ℕ → Outcome
member objects m v offset = move_by objects m v (pos offset)

-- `++` and `--` are an addition or a subtraction of 1
abbrev pub one : Stride → Value
one (strides.Int t) = values.Int t (pos 1)
one (strides.Element n) = values.Int ints.Int (pos 1)
