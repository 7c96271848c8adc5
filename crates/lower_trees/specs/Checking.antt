-- The check statements of a node: one for each of its checks, in their order, with the expressions that it looks at.
use Rattle.std.specs.Prelude.{ℕ, pos, ◌==◌, if◌then◌else◌, List, [], ◌∷◌, map, Option, Some, None}
use Rattle.c_syntax_written.specs.declared.int_type.IntType.TheVariants as ints
use Rattle.c_syntax_written.specs.declared.place.Pos.{Pos}
use Rattle.c_syntax.specs.declared.alarm.Check.{Check}
use Rattle.c_syntax.specs.declared.alarm.WrongKind.{WrongKind}
use Rattle.c_syntax.specs.declared.alarm.WrongKind.TheVariants as kinds
use Rattle.c_syntax.specs.declared.operator.Comparison.TheVariants.{Unequal}
use Rattle.c_syntax.specs.declared.operator.TUnaryOp.{TUnaryOp}
use Rattle.c_syntax.specs.declared.operator.TBinaryOp.{TBinaryOp}
use Rattle.c_syntax.specs.declared.operator.TBinaryOp.TheVariants as binaries
use Rattle.c_layout.specs.Checks.{plain_check, binary_checks, unary_checks, move_checks, test_checks, read_checks, write_checks, load_checks, store_checks}
use Rattle.block_mem.specs.declared.types.Scalar.{Scalar}
use Rattle.block_mem.specs.declared.types.Scalar.TheVariants as scalars
use Rattle.c_values.specs.Values.{plain_type}
use Rattle.csharp.specs.Trees.{CsExprTree, Const, Null, Address, Unary, Binary, CsCheckTree, CsStmtTree, Nothing, Checked, Sequence}

abbrev pub cs_check : Pos → Option Scalar → List CsExprTree → Check → CsCheckTree
cs_check at ty es c = record { check = c; pos = at; ty = ty; operands = es }

-- checks, one behind the other
abbrev pub checks : List CsCheckTree → CsStmtTree
checks [] = Nothing
checks (c ∷ cs) = Sequence (Checked c) (checks cs)

-- ---- accesses: each check looks at the place, those of a load's bytes at its type too
abbrev pub load_type : Scalar → WrongKind → Option Scalar
load_type ty kinds.Indeterminate = Some ty
load_type ty kinds.Fragment = Some ty
load_type ty kind = None

abbrev pub access_one : Pos → Scalar → CsExprTree → Check → CsCheckTree
access_one at ty place c = cs_check at (load_type ty c.kind) (place ∷ []) c

abbrev pub plain_one : Pos → CsExprTree → Check → CsCheckTree
plain_one at e c = cs_check at None (e ∷ []) c

abbrev pub load_list : Pos → Scalar → CsExprTree → List CsCheckTree
load_list at ty place = map (access_one at ty place) (load_checks (plain_type (Some ty)))

abbrev pub store_list : Pos → Scalar → CsExprTree → List CsCheckTree
store_list at ty place = map (plain_one at place) (store_checks (plain_type (Some ty)))

abbrev pub read_list : Pos → ℕ → ℕ → CsExprTree → List CsCheckTree
read_list at size align place = map (plain_one at place) (read_checks size align)

abbrev pub write_list : Pos → ℕ → ℕ → CsExprTree → List CsCheckTree
write_list at size align place = map (plain_one at place) (write_checks size align)

-- ---- operators
-- of two numbers: the divisor and the amount are the right operand, and a result is the operator's
abbrev pub number_operands : CsExprTree → CsExprTree → WrongKind → List CsExprTree
number_operands whole b kinds.DivideByZero = b ∷ []
number_operands whole b kinds.ShiftAmount = b ∷ []
number_operands whole b kind = whole ∷ []

-- of a pointer that is moved: it, and where it is moved to
abbrev pub move_operands : CsExprTree → CsExprTree → WrongKind → List CsExprTree
move_operands a whole kinds.Bounds = whole ∷ []
move_operands a whole kind = a ∷ []

abbrev pub binary_operands : TBinaryOp → CsExprTree → CsExprTree → WrongKind → List CsExprTree
binary_operands (binaries.Arithmetic op t) a b kind = number_operands (Binary (binaries.Arithmetic op t) a b) b kind
binary_operands (binaries.Shift way t) a b kind = number_operands (Binary (binaries.Shift way t) a b) b kind
binary_operands (binaries.CompareInts c t) a b kind = a ∷ b ∷ []
binary_operands (binaries.ComparePointers c) a b kind = a ∷ b ∷ []
binary_operands (binaries.PointerPlusInt n) a b kind = move_operands a (Binary (binaries.PointerPlusInt n) a b) kind
binary_operands (binaries.IntPlusPointer n) a b kind = move_operands b (Binary (binaries.IntPlusPointer n) a b) kind
binary_operands (binaries.PointerMinusInt n) a b kind = move_operands a (Binary (binaries.PointerMinusInt n) a b) kind
binary_operands (binaries.PointerMinusPointer n) a b kind = a ∷ b ∷ []

abbrev pub binary_one : Pos → TBinaryOp → CsExprTree → CsExprTree → Check → CsCheckTree
binary_one at op a b c = cs_check at None (binary_operands op a b c.kind) c

abbrev pub binary_list : Pos → TBinaryOp → CsExprTree → CsExprTree → List CsCheckTree
binary_list at op a b = map (binary_one at op a b) (binary_checks op)

-- of one number its result; of a pointer it
abbrev pub unary_operands : TUnaryOp → CsExprTree → WrongKind → List CsExprTree
unary_operands op a kinds.Overflow = Unary op a ∷ []
unary_operands op a kind = a ∷ []

abbrev pub unary_one : Pos → TUnaryOp → CsExprTree → Check → CsCheckTree
unary_one at op a c = cs_check at None (unary_operands op a c.kind) c

abbrev pub unary_list : Pos → TUnaryOp → Option Scalar → CsExprTree → List CsCheckTree
unary_list at op ty a = map (unary_one at op a) (unary_checks op (plain_type ty))

-- a place that is moved to a member
abbrev pub moved : CsExprTree → ℕ → CsExprTree
moved a offset = Binary (binaries.PointerPlusInt 1) a (Const ints.Long (pos offset))

abbrev pub move_one : Pos → CsExprTree → ℕ → Check → CsCheckTree
move_one at a offset c = cs_check at None (move_operands a (moved a offset) c.kind) c

abbrev pub move_list : Pos → CsExprTree → ℕ → List CsCheckTree
move_list at a offset = map (move_one at a offset) move_checks

-- ---- tests
abbrev pub test_list : Pos → Option Scalar → CsExprTree → List CsCheckTree
test_list at ty a = map (plain_one at a) (test_checks (plain_type ty))

-- what an `If` looks at: a pointer is compared with null
abbrev pub test_value : Option Scalar → CsExprTree → CsExprTree
test_value (Some scalars.Pointer) a = Binary (binaries.ComparePointers Unequal) a Null
test_value ty a = a

abbrev pub assert_list : Pos → Option Scalar → CsExprTree → List CsCheckTree
assert_list at ty a = map (plain_one at a) (test_checks (plain_type ty))

abbrev pub false_check : Pos → CsExprTree → CsCheckTree
false_check at a = cs_check at None (a ∷ []) (plain_check kinds.AssertFailed)

abbrev pub value_check : Pos → CsExprTree → CsCheckTree
value_check at flag = cs_check at None (flag ∷ []) (plain_check kinds.NoValue)

-- an address in an object; at its first byte it is the object's own
abbrev pub address_at : ℕ → ℕ → CsExprTree
address_at x offset = if offset == 0 then Address x else moved (Address x) offset
