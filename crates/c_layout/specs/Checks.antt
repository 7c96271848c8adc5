-- The checks that the nodes of a typed program make, and where.
use Rattle.std.specs.Prelude.{◌-◌, ℕ, ℤ, pos, Bool, ◌&&◌, not, if◌then◌else◌, Option, Some, None, option_and_then, option_map, unwrap_or, List, [], ◌∷◌, ◌++◌, map, Contains, slice_get}
use Rattle.std.specs.List.{flat_map}
use Rattle.c_syntax_written.specs.declared.place.Pos.{Pos}
use Rattle.c_syntax_written.specs.declared.int_type.IntType.{IntType}
use Rattle.c_syntax.specs.declared.alarm.Check.{Check}
use Rattle.c_syntax.specs.declared.alarm.WrongKind.{WrongKind}
use Rattle.c_syntax.specs.declared.alarm.WrongKind.TheVariants.{Overflow, DivideByZero, Quotient, ShiftAmount, ShiftResult, Indeterminate, Fragment, NullUse, Dangling, Bounds, Access, Alignment, ReadOnly, Unrelated, NoValue, AssertFailed}
use Rattle.c_syntax.specs.declared.operator.Extent.{Extent}
use Rattle.c_syntax.specs.declared.operator.Arithmetic.{Arithmetic}
use Rattle.c_syntax.specs.declared.operator.Arithmetic.TheVariants.{Multiply, Divide, Remainder, Add, Subtract, BitAnd, BitXor, BitOr}
use Rattle.c_syntax.specs.declared.operator.Shift.{Shift}
use Rattle.c_syntax.specs.declared.operator.Shift.TheVariants.{Left, Right}
use Rattle.c_syntax.specs.declared.operator.Comparison.{Comparison}
use Rattle.c_syntax.specs.declared.operator.Comparison.TheVariants.{Less, Greater, AtMost, AtLeast, Equal, Unequal}
use Rattle.c_syntax.specs.declared.operator.Stride.{Stride}
use Rattle.c_syntax.specs.declared.operator.Stride.TheVariants as strides
use Rattle.c_syntax.specs.declared.operator.TUnaryOp.{TUnaryOp}
use Rattle.c_syntax.specs.declared.operator.TUnaryOp.TheVariants as unaries
use Rattle.c_syntax.specs.declared.operator.TBinaryOp.{TBinaryOp}
use Rattle.c_syntax.specs.declared.operator.TBinaryOp.TheVariants as binaries
use Rattle.c_syntax.specs.Types.{CTypeTree, Int, Pointer}
use Rattle.c_syntax.specs.TypedExpr.{TExprTree, Const, Null, Load, AddressOf, Decay, Whole, Unary, Binary, Convert, Assign, AssignStruct, Compound, Step, And, Or, Cond, Comma, Call, Any, Assume, Assert, TLvalueTree, Var, Deref, Member, TExprTrees}
use Rattle.c_syntax.specs.TypedExpr as exprs
use Rattle.c_syntax.specs.TypedStmt.{TInitTree, Store, Copy, TStmtTree, Expr, Block, Declare, If, While, DoWhile, For, Switch, Return, TStmtTrees, none, more}
use Rattle.c_syntax.specs.TypedParts.{texpr_type, tlvalue_pos, tlvalue_type}
use Rattle.c_syntax.specs.Program.{TProgramTree}
use Rattle.c_syntax_written.specs.Integer.{width, bytes, is_signed, least, greatest}
use Rattle.c_layout.specs.MainFunction.{is_main}
use Rattle.c_layout.specs.RowTypes.{is_void}

-- a check that uses no field but its kind
abbrev pub plain_check : WrongKind → Check
plain_check kind = record { kind = kind; lo = pos 0; hi = pos 0; size = 0; align = 0 }

-- a number is to lie between these ends
abbrev pub range_check : WrongKind → ℤ → ℤ → Check
range_check kind lo hi = record { kind = kind; lo = lo; hi = hi; size = 0; align = 0 }

-- an access of so many bytes at this alignment
abbrev pub access_check : WrongKind → ℕ → ℕ → Check
access_check kind size align = record { kind = kind; lo = pos 0; hi = pos 0; size = size; align = align }

-- two pointers are to be related: 0 for an equality, 1 for an order, and the element's size for a difference
abbrev pub pair_check : ℕ → Check
pair_check size = record { kind = Unrelated; lo = pos 0; hi = pos 0; size = size; align = 0 }

-- what is the result of a signed operator is to be a number of the type
abbrev pub result_checks : WrongKind → IntType → List Check
result_checks kind t = if is_signed t then range_check kind (least t) (pos (greatest t)) ∷ [] else []

-- C11 6.5p5 and 6.5.5p5 and p6
abbrev pub arithmetic_checks : Arithmetic → IntType → List Check
arithmetic_checks Multiply t = result_checks Overflow t
arithmetic_checks Divide t = plain_check DivideByZero ∷ result_checks Quotient t
arithmetic_checks Remainder t = plain_check DivideByZero ∷ result_checks Quotient t
arithmetic_checks Add t = result_checks Overflow t
arithmetic_checks Subtract t = result_checks Overflow t
arithmetic_checks BitAnd t = []
arithmetic_checks BitXor t = []
arithmetic_checks BitOr t = []

-- the amount of a shift is below the width (C11 6.5.7p3)
abbrev pub amount_check : IntType → Check
amount_check t = range_check ShiftAmount (pos 0) (pos (width t - 1))

-- C11 6.5.7p3 and p4
abbrev pub shift_checks : Shift → IntType → List Check
shift_checks Left t = amount_check t ∷ (if is_signed t then range_check ShiftResult (pos 0) (pos (greatest t)) ∷ [] else [])
shift_checks Right t = amount_check t ∷ []

-- C11 6.5.8p5
abbrev pub order_checks : List Check
order_checks = plain_check NullUse ∷ plain_check Dangling ∷ pair_check 1 ∷ []

-- C11 6.5.9p6, this profile
abbrev pub equality_checks : List Check
equality_checks = plain_check Dangling ∷ pair_check 0 ∷ []

-- a comparison of pointers
abbrev pub pointer_checks : Comparison → List Check
pointer_checks Less = order_checks
pointer_checks Greater = order_checks
pointer_checks AtMost = order_checks
pointer_checks AtLeast = order_checks
pointer_checks Equal = equality_checks
pointer_checks Unequal = equality_checks

-- a pointer that is moved (C11 6.5.6p8)
abbrev pub move_checks : List Check
move_checks = plain_check NullUse ∷ plain_check Dangling ∷ plain_check Bounds ∷ []

-- an operator on two operands, its checks in their order
abbrev pub binary_checks : TBinaryOp → List Check
binary_checks (binaries.Arithmetic op t) = arithmetic_checks op t
binary_checks (binaries.Shift way t) = shift_checks way t
binary_checks (binaries.CompareInts comparison t) = []
binary_checks (binaries.ComparePointers comparison) = pointer_checks comparison
binary_checks (binaries.PointerPlusInt element) = move_checks
binary_checks (binaries.IntPlusPointer element) = move_checks
binary_checks (binaries.PointerMinusInt element) = move_checks
binary_checks (binaries.PointerMinusPointer element) = plain_check NullUse ∷ plain_check Dangling ∷ pair_check element ∷ []

-- a pointer that is compared with null
abbrev pub test_checks : CTypeTree → List Check
test_checks (Pointer to is_const) = plain_check Dangling ∷ []
test_checks ty = []

-- an operator on an operand of this type
abbrev pub unary_checks : TUnaryOp → CTypeTree → List Check
unary_checks (unaries.Plus t) ty = []
unary_checks (unaries.Minus t) ty = result_checks Overflow t
unary_checks (unaries.Complement t) ty = []
unary_checks unaries.Not ty = test_checks ty

-- `++` and `--`
abbrev pub step_checks : Stride → List Check
step_checks (strides.Int t) = result_checks Overflow t
step_checks (strides.Element size) = move_checks

-- the bytes of a scalar, which are its alignment too
abbrev pub scalar_bytes : CTypeTree → ℕ
scalar_bytes (Int t) = bytes t
scalar_bytes (Pointer to is_const) = 8
scalar_bytes ty = 0

-- an access that reads (C11 6.5.3.2p4)
abbrev pub read_checks : ℕ → ℕ → List Check
read_checks size align = plain_check NullUse ∷ plain_check Dangling ∷ access_check Access size align ∷ access_check Alignment size align ∷ []

-- an access that writes (C11 6.7.3p6)
abbrev pub write_checks : ℕ → ℕ → List Check
write_checks size align = read_checks size align ++ plain_check ReadOnly ∷ []

-- a scalar of this type that is loaded (C11 6.2.6.1p5)
abbrev pub load_checks : CTypeTree → List Check
load_checks ty = read_checks (scalar_bytes ty) (scalar_bytes ty) ++ plain_check Indeterminate ∷ plain_check Fragment ∷ []

-- a scalar of this type that is stored
abbrev pub store_checks : CTypeTree → List Check
store_checks ty = write_checks (scalar_bytes ty) (scalar_bytes ty)

-- a check, and the position at which it is made
pub record PlacedCheck : Type 0 where
  pub pos : Pos
  pub check : Check

-- checks that are all made at one position
abbrev pub all_at : Pos → List Check → List PlacedCheck
all_at at checks = map (λ check. record { pos = at; check = check }) checks

-- the places that a struct's value may be read from
unfoldable pub read_from : TExprTree → List Pos
read_from (Whole at place) = tlvalue_pos place ∷ []
read_from (AssignStruct at extent place source) = tlvalue_pos place ∷ []
read_from (Cond at ty condition first second) = read_from first ++ read_from second
read_from (Comma at left right) = read_from right
read_from e = []

-- the reads of a struct that is copied, at each place that it may be read from
abbrev pub source_checks : Extent → TExprTree → List PlacedCheck
source_checks extent source = flat_map (λ at. all_at at (read_checks extent.size extent.align)) (read_from source)

-- a call whose value is used (C11 6.9.1p12)
abbrev pub value_checks : TProgramTree → ℕ → CTypeTree → Bool → List Check
value_checks program f ty used = if used && not (is_void ty) && not (is_main program f) then plain_check NoValue ∷ [] else []

-- the checks of an expression, in the order of its evaluation from left to right
unfoldable mutual
  pub checks_of : TProgramTree → TExprTree → List PlacedCheck
  checks_of program (Const at ty value) = []
  checks_of program (Null at ty) = []
  checks_of program (Load at place) = checks_at program place ++ all_at (tlvalue_pos place) (load_checks (tlvalue_type place))
  checks_of program (AddressOf at place) = checks_at program place
  checks_of program (Decay at place) = checks_at program place
  checks_of program (Whole at place) = checks_at program place
  checks_of program (Unary at op operand) = checks_of program operand ++ all_at at (unary_checks op (texpr_type operand))
  checks_of program (Binary at op left right) = checks_of program left ++ checks_of program right ++ all_at at (binary_checks op)
  checks_of program (Convert at ty operand) = checks_of program operand
  checks_of program (Assign at place value) =
      checks_at program place ++ checks_of program value ++ all_at (tlvalue_pos place) (store_checks (tlvalue_type place))
  checks_of program (AssignStruct at extent place source) =
      checks_at program place ++ checks_of program source ++ source_checks extent source
      ++ all_at (tlvalue_pos place) (write_checks extent.size extent.align)
  checks_of program (Compound at op place value) =
      checks_at program place ++ checks_of program value ++ all_at (tlvalue_pos place) (load_checks (tlvalue_type place))
      ++ all_at at (binary_checks op) ++ all_at (tlvalue_pos place) (store_checks (tlvalue_type place))
  checks_of program (Step at time way stride place) =
      checks_at program place ++ all_at (tlvalue_pos place) (load_checks (tlvalue_type place))
      ++ all_at at (step_checks stride) ++ all_at (tlvalue_pos place) (store_checks (tlvalue_type place))
  checks_of program (And at left right) =
      checks_of program left ++ all_at at (test_checks (texpr_type left))
      ++ checks_of program right ++ all_at at (test_checks (texpr_type right))
  checks_of program (Or at left right) =
      checks_of program left ++ all_at at (test_checks (texpr_type left))
      ++ checks_of program right ++ all_at at (test_checks (texpr_type right))
  checks_of program (Cond at ty condition first second) =
      checks_of program condition ++ all_at at (test_checks (texpr_type condition))
      ++ checks_of program first ++ checks_of program second
  checks_of program (Comma at left right) = checks_of program left ++ checks_of program right
  checks_of program (Call at function ty used args) = checks_among program args ++ all_at at (value_checks program function ty used)
  checks_of program (Any at ty) = []
  checks_of program (Assume at operand) = checks_of program operand ++ all_at at (test_checks (texpr_type operand))
  checks_of program (Assert at operand) = checks_of program operand ++ all_at at (test_checks (texpr_type operand) ++ plain_check AssertFailed ∷ [])

  pub checks_at : TProgramTree → TLvalueTree → List PlacedCheck
  checks_at program (Var at object ty is_const) = []
  checks_at program (Deref at kind ty is_const pointer) = checks_of program pointer
  checks_at program (Member at k offset ty is_const place) = checks_at program place ++ all_at at move_checks

  pub checks_among : TProgramTree → TExprTrees → List PlacedCheck
  checks_among program exprs.none = []
  checks_among program (exprs.more item rest) = checks_of program item ++ checks_among program rest

-- an item of an initialiser; what it fills is not checked
abbrev pub init_checks : TProgramTree → TInitTree → List PlacedCheck
init_checks program (Store offset ty value) = checks_of program value
init_checks program (Copy offset extent source) = checks_of program source ++ source_checks extent source

-- a condition, which is tested at its statement
abbrev pub condition_checks : TProgramTree → Pos → TExprTree → List PlacedCheck
condition_checks program at condition = checks_of program condition ++ all_at at (test_checks (texpr_type condition))

-- what may be missing makes no checks then
abbrev pub checks_if_there : (TExprTree → List PlacedCheck) → Option TExprTree → List PlacedCheck
checks_if_there checks None = []
checks_if_there checks (Some e) = checks e

-- the checks of a statement, in the order of the text
unfoldable mutual
  pub stmt_checks : TProgramTree → TStmtTree → List PlacedCheck
  stmt_checks program (Expr at value) = checks_of program value
  stmt_checks program (Block at kind objects items) = item_checks program items
  stmt_checks program (Declare at object inits zeroes_rest) = flat_map (init_checks program) inits
  stmt_checks program (If at condition first second) = condition_checks program at condition ++ stmt_checks program first ++ stmt_checks program second
  stmt_checks program (While at condition body) = condition_checks program at condition ++ stmt_checks program body
  stmt_checks program (DoWhile at body condition) = stmt_checks program body ++ condition_checks program at condition
  stmt_checks program (For at objects head condition step body) =
      item_checks program head ++ checks_if_there (condition_checks program at) condition
      ++ checks_if_there (checks_of program) step ++ stmt_checks program body
  stmt_checks program (Switch at value kind objects items) = checks_of program value ++ item_checks program items
  stmt_checks program (Return at value) = checks_if_there (checks_of program) value
  stmt_checks program _ = []

  pub item_checks : TProgramTree → TStmtTrees → List PlacedCheck
  item_checks program none = []
  item_checks program (more item rest) = stmt_checks program item ++ item_checks program rest

-- the checks in the body of a function
abbrev pub function_checks : TProgramTree → ℕ → List PlacedCheck
function_checks program f = unwrap_or (option_map (stmt_checks program) (option_and_then (λ function. function.body) (slice_get program.functions f))) []

-- a node of the function at this position makes the check
abbrev pub MakesCheck : TProgramTree → ℕ → Pos → Check → Type 0
MakesCheck program f at check = Contains (function_checks program f) (record { pos = at; check = check })
