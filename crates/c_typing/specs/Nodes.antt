-- What each node of an expression is, once its parts are typed: asked at the node, in the order no row, no declaration, no constant, no lvalue.
use Rattle.std.specs.Prelude.{ℕ, ◌+◌, ◌==◌, pos, Bool, true, false, ◌&&◌, not, if◌then◌else◌, Option, Some, None, option_map, unwrap_or, List, [], ◌∷◌, length, slice_get}
use Rattle.c_syntax_written.specs.declared.place.Pos.{Pos}
use Rattle.c_syntax_written.specs.declared.construct.Construct.TheVariants as constructs
use Rattle.c_syntax_written.specs.declared.int_type.IntType.{IntType}
use Rattle.c_syntax_written.specs.declared.int_type.IntType.TheVariants as ints
use Rattle.c_syntax_written.specs.declared.step.StepWay.{StepWay}
use Rattle.c_syntax_written.specs.declared.step.StepWay.TheVariants as ways
use Rattle.c_syntax_written.specs.declared.token.Constant.{Constant}
use Rattle.c_syntax_written.specs.declared.written.UnaryOp.{UnaryOp}
use Rattle.c_syntax_written.specs.declared.written.UnaryOp.TheVariants as prefixes
use Rattle.c_syntax_written.specs.declared.written.BinaryOp.{BinaryOp}
use Rattle.c_syntax_written.specs.declared.written.BinaryOp.TheVariants as signs
use Rattle.c_syntax_written.specs.declared.written.AssignOp.{AssignOp}
use Rattle.c_syntax_written.specs.declared.written.AssignOp.TheVariants as assigns
use Rattle.c_syntax_written.specs.Integer.{wrapped}
use Rattle.c_syntax.specs.declared.op.Op.{Op}
use Rattle.c_syntax.specs.declared.op.Op.TheVariants as ops
use Rattle.c_syntax.specs.declared.operator.DerefKind.TheVariants as derefs
use Rattle.c_syntax.specs.declared.operator.StepTime.{StepTime}
use Rattle.c_syntax.specs.declared.operator.TUnaryOp.TheVariants as unaries
use Rattle.c_syntax.specs.Types.{CTypeTree, Void, Int, Function, ObjectTree}
use Rattle.c_syntax.specs.TypedExpr.{TExprTree, Const, AddressOf, Assign, AssignStruct, Compound, Step, Comma, Call, Any, Assume, Assert, TLvalueTree, Var, TExprTrees, none, more}
use Rattle.c_syntax.specs.TypedParts.{texpr_type, tlvalue_type, tlvalue_is_const, not_used}
use Rattle.c_layout.specs.Conversion.{literal_type_of}
use Rattle.c_layout.specs.RowTypes.{is_declared_const}
use Rattle.c_layout.specs.WellTyped.{is_array}
use Rattle.c_typing.specs.World.{World, Form, Plain, Unsized, Callable, Meaning, Object, Missing, Parameter, TypeName, Enumeration, Refusal, no_rule, Undeclared, NotConstant, NotLvalue, Unsupported, Outcome, Typed, Refused, unless}
use Rattle.c_typing.specs.World as world
use Rattle.c_typing.specs.Names.{input_type, is_assume, is_assert, is_reserved, meaning_of, within_limits, with_literal, literal_type}
use Rattle.c_typing.specs.Operands.{OperandTree, Place, Value, value_of, is_unsized, complete_size}
use Rattle.c_typing.specs.Rows.{Stored, Scalar, Copied, is_scalar, unary_row, not_row, star_row, binary_row, cond_row, cast_row, is_pointer_integer, member_row, arrow_row, index_row, stored_row, store_row, compound_row, step_row}
use Rattle.c_typing.specs.Declarators.{unknown_function}

-- the node that a row gives, or the refusal where no row does
abbrev pub given : Refusal → Option TExprTree → World → Outcome OperandTree
given refusal None w = Refused refusal
given refusal (Some e) w = Typed (Value e) w

abbrev pub given_place : Refusal → Option TLvalueTree → World → Outcome OperandTree
given_place refusal None w = Refused refusal
given_place refusal (Some place) w = Typed (Place place) w

-- no row has this operand, or these two
abbrev pub no_row : World → Pos → Op → TExprTree → Refusal
no_row w at op e = no_rule w at op (texpr_type e) None

abbrev pub no_rows : World → Pos → Op → TExprTree → TExprTree → Refusal
no_rows w at op a b = no_rule w at op (texpr_type a) (Some (texpr_type b))

-- ---- names and literals

-- an object by its name (C11 6.5.1p2)
abbrev pub object_place : Pos → ℕ → ObjectTree → TLvalueTree
object_place at n object = Var at n object.ty (is_declared_const object)

abbrev pub object_named : World → Pos → ℕ → Outcome OperandTree
object_named w at n = given_place (Undeclared at) (option_map (object_place at n) (slice_get w.objects n)) w

-- a name where no call is: a function's has no value of its own here, and a prototype's parameter has no object (this profile)
abbrev pub named : World → Pos → Option Meaning → Outcome OperandTree
named w at None = Refused (Undeclared at)
named w at (Some (Object n)) = object_named w at n
named w at (Some (Missing ty is_const)) = Refused (Undeclared at)
named w at (Some (Parameter k ty is_const)) = Typed (Place (Var at (length w.objects) ty is_const)) w
named w at (Some (world.Function n)) = Refused (no_rule w at ops.Call (Function n) None)
named w at (Some (TypeName form)) = Refused (Undeclared at)
named w at (Some (Enumeration n)) = Typed (Value (Const at ints.Int n)) w

abbrev pub word : World → Pos → List ℕ → Outcome OperandTree
word w at name = if is_reserved name then Refused (no_rule w at ops.Call (unknown_function w) None) else named w at (meaning_of w name)

-- an integer constant (C11 6.4.4.1p5); the lexer has refused those without a type
abbrev pub number : World → Pos → Constant → Outcome OperandTree
number w at c = given (NotConstant at) (option_map (λ t. Const at t (pos c.value)) (literal_type_of c.value c.decimal c.unsigned c.longs)) w

-- a character constant, which is an int of the char's value (C11 6.4.4.4p10)
abbrev pub character : World → Pos → ℕ → Outcome OperandTree
character w at byte = Typed (Value (Const at ints.Int (wrapped ints.Char (pos byte)))) w

-- a string literal, which is an object (C11 6.4.5p6)
abbrev pub literal : World → Pos → List ℕ → Outcome OperandTree
literal w at bytes =
    within_limits at (length bytes + 1) w (Typed (Place (Var at (length w.objects) (literal_type (length bytes + 1)) false)) (with_literal w at bytes))

-- ---- operators

-- `&` of an lvalue; what an array is whose size comes later has no type to point to (C11 6.5.3.2p1 and p3, this profile)
abbrev pub address : World → Pos → OperandTree → Outcome OperandTree
address w at (Value e) = Refused (NotLvalue at)
address w at (Place place) = unless (is_unsized (tlvalue_type place)) (no_rule w at ops.BitAnd (tlvalue_type place) None) (Typed (Value (AddressOf at place)) w)

abbrev pub unary : World → Pos → UnaryOp → OperandTree → Outcome OperandTree
unary w at prefixes.AddressOf x = address w at x
unary w at prefixes.Deref x = given_place (no_row w at ops.Multiply (value_of x)) (star_row derefs.Star at (texpr_type (value_of x)) (value_of x)) w
unary w at prefixes.Plus x = given (no_row w at ops.Plus (value_of x)) (unary_row unaries.Plus at (texpr_type (value_of x)) (value_of x)) w
unary w at prefixes.Minus x = given (no_row w at ops.Minus (value_of x)) (unary_row unaries.Minus at (texpr_type (value_of x)) (value_of x)) w
unary w at prefixes.Complement x = given (no_row w at ops.Complement (value_of x)) (unary_row unaries.Complement at (texpr_type (value_of x)) (value_of x)) w
unary w at prefixes.Not x = given (no_row w at ops.Not (value_of x)) (not_row at (texpr_type (value_of x)) (value_of x)) w

-- an operator as refusals print it
abbrev pub binary_op : BinaryOp → Op
binary_op signs.Multiply = ops.Multiply
binary_op signs.Divide = ops.Divide
binary_op signs.Remainder = ops.Remainder
binary_op signs.Plus = ops.Plus
binary_op signs.Minus = ops.Minus
binary_op signs.ShiftLeft = ops.ShiftLeft
binary_op signs.ShiftRight = ops.ShiftRight
binary_op signs.Less = ops.Less
binary_op signs.Greater = ops.Greater
binary_op signs.AtMost = ops.AtMost
binary_op signs.AtLeast = ops.AtLeast
binary_op signs.Equal = ops.Equal
binary_op signs.Unequal = ops.Unequal
binary_op signs.BitAnd = ops.BitAnd
binary_op signs.BitXor = ops.BitXor
binary_op signs.BitOr = ops.BitOr
binary_op signs.And = ops.And
binary_op signs.Or = ops.Or

abbrev pub assign_op : AssignOp → Op
assign_op assigns.Multiply = ops.AssignMultiply
assign_op assigns.Divide = ops.AssignDivide
assign_op assigns.Remainder = ops.AssignRemainder
assign_op assigns.Plus = ops.AssignPlus
assign_op assigns.Minus = ops.AssignMinus
assign_op assigns.ShiftLeft = ops.AssignShiftLeft
assign_op assigns.ShiftRight = ops.AssignShiftRight
assign_op assigns.BitAnd = ops.AssignBitAnd
assign_op assigns.BitXor = ops.AssignBitXor
assign_op assigns.BitOr = ops.AssignBitOr

abbrev pub step_op : StepWay → Op
step_op ways.Up = ops.Increment
step_op ways.Down = ops.Decrement

abbrev pub binary : World → Pos → BinaryOp → TExprTree → TExprTree → Outcome OperandTree
binary w at op a b = given (no_rows w at (binary_op op) a b) (binary_row w.structs at op (texpr_type a) (texpr_type b) a b) w

-- `a[b]`
abbrev pub indexed : World → Pos → TExprTree → TExprTree → Outcome OperandTree
indexed w at a b = given_place (no_rows w at ops.Index a b) (index_row w.structs at (texpr_type a) (texpr_type b) a b) w

-- `.` on a struct in a place (C11 6.5.2.3p1)
abbrev pub member : World → Pos → List ℕ → OperandTree → Outcome OperandTree
member w at name (Value e) = Refused (no_row w at ops.Dot e)
member w at name (Place place) = given_place (no_row w at ops.Dot (value_of (Place place))) (member_row w.structs at name (tlvalue_type place) place) w

-- `->`
abbrev pub arrow : World → Pos → List ℕ → TExprTree → Outcome OperandTree
arrow w at name e = given_place (no_row w at ops.Arrow e) (arrow_row w.structs at name (texpr_type e) e) w

-- what may be changed: a place that is not const, and no array (C11 6.3.2.1p1)
abbrev pub is_modifiable : TLvalueTree → Bool
is_modifiable place = not (tlvalue_is_const place) && not (is_array (tlvalue_type place))

-- the node on a modifiable lvalue
abbrev pub on_modifiable : Pos → OperandTree → (TLvalueTree → TExprTree) → World → Outcome OperandTree
on_modifiable at (Value e) node w = Refused (NotLvalue at)
on_modifiable at (Place place) node w = if is_modifiable place then Typed (Value (node place)) w else Refused (NotLvalue at)

abbrev pub store_node : Pos → Stored → TLvalueTree → TExprTree
store_node at (Scalar value) place = Assign at place value
store_node at (Copied extent source) place = AssignStruct at extent place source

-- a row first, and then the lvalue
abbrev pub changed : {A : Type 0} → Refusal → Pos → OperandTree → Option A → (A → TLvalueTree → TExprTree) → World → Outcome OperandTree
changed refusal at x None node w = Refused refusal
changed refusal at x (Some row) node w = on_modifiable at x (node row) w

-- `=` (C11 6.5.16.1)
abbrev pub assigned : World → Pos → OperandTree → TExprTree → Outcome OperandTree
assigned w at x e = changed (no_rows w at ops.Assign (value_of x) e) at x (stored_row w.structs (texpr_type (value_of x)) (texpr_type e) e) (store_node at) w

-- `op=` (C11 6.5.16.2)
abbrev pub compound : World → Pos → AssignOp → OperandTree → TExprTree → Outcome OperandTree
compound w at op x e =
    changed (no_rows w at (assign_op op) (value_of x) e) at x (compound_row w.structs op (texpr_type (value_of x)) (texpr_type e) e)
    (λ row place. Compound at row.op place row.value) w

-- `++` and `--` (C11 6.5.2.4, 6.5.3.1)
abbrev pub stepped : World → Pos → StepTime → StepWay → OperandTree → Outcome OperandTree
stepped w at time way x =
    changed (no_row w at (step_op way) (value_of x)) at x (step_row w.structs (texpr_type (value_of x))) (λ stride place. Step at time way stride place) w

-- a condition is a scalar (C11 6.5.15p2, 6.8.4.1p1, 6.8.5p2)
abbrev pub tested : World → Pos → TExprTree → Outcome TExprTree
tested w at e = if is_scalar (texpr_type e) then Typed e w else Refused (no_row w at ops.Test e)

-- `?:`, whose test is asked first
abbrev pub conditional : World → Pos → TExprTree → TExprTree → TExprTree → Outcome OperandTree
conditional w at test a b =
    if is_scalar (texpr_type test) then given (no_rows w at ops.Cond a b) (cond_row at test (texpr_type a) (texpr_type b) a b) w
    else Refused (no_row w at ops.Test test)

-- `,` (C11 6.5.17)
abbrev pub sequenced : World → Pos → TExprTree → TExprTree → Outcome OperandTree
sequenced w at a b = Typed (Value (Comma at (not_used a) b)) w

-- the size of a complete type, as an unsigned long (C11 6.5.3.4p1, p2 and p5)
abbrev pub size_of : World → Pos → CTypeTree → Outcome OperandTree
size_of w at ty = given (no_rule w at ops.Sizeof ty None) (option_map (λ size. Const at ints.ULong (pos size)) (complete_size w.structs ty)) w

abbrev pub size_of_form : World → Pos → Form → Outcome OperandTree
size_of_form w at (Plain ty is_const) = size_of w at ty
size_of_form w at form = Refused (no_rule w at ops.Sizeof (unknown_function w) None)

-- a cast that no row has: between an integer and a pointer it is a construct that is left out (this profile)
abbrev pub no_cast : World → Pos → CTypeTree → TExprTree → Refusal
no_cast w at target e =
    if is_pointer_integer target (texpr_type e) then Unsupported at constructs.PointerInteger
    else no_rule w at ops.Cast target (Some (texpr_type e))

abbrev pub cast : World → Pos → Form → TExprTree → Outcome OperandTree
cast w at (Plain target is_const) e = given (no_cast w at target e) (cast_row at target (texpr_type e) e) w
cast w at form e = Refused (no_rule w at ops.Cast (unknown_function w) (Some (texpr_type e)))

-- ---- calls

unfoldable pub count_of : TExprTrees → ℕ
count_of none = 0
count_of (more e rest) = 1 + count_of rest

-- arguments as their parameters' types, or the first that has no row
pub data Passed : Type 0 where
  Passes : TExprTrees → Passed
  Fails : Refusal → Passed

abbrev pub with_passed : TExprTree → Passed → Passed
with_passed e (Passes rest) = Passes (more e rest)
with_passed e (Fails r) = Fails r

abbrev pub passed_one : Refusal → Option TExprTree → Passed → Passed
passed_one refusal None rest = Fails refusal
passed_one refusal (Some e) rest = with_passed e rest

-- each argument as by `=` (C11 6.5.2.2p7)
unfoldable pub passed : World → Pos → List CTypeTree → TExprTrees → Passed
passed w at (param ∷ params) (more e rest) =
    passed_one (no_rule w at ops.Call param (Some (texpr_type e))) (store_row param (texpr_type e) e) (passed w at params rest)
passed w at params args = Passes none

abbrev pub call_node : World → Pos → ℕ → CTypeTree → Passed → Outcome OperandTree
call_node w at n result (Passes args) = Typed (Value (Call at n result true args)) w
call_node w at n result (Fails r) = Refused r

-- a call of a function, with as many arguments as it has parameters (C11 6.5.2.2p2)
abbrev pub call_of : World → Pos → ℕ → CTypeTree → List CTypeTree → TExprTrees → Outcome OperandTree
call_of w at n result params args =
    if length params == count_of args then call_node w at n result (passed w at params args) else Refused (no_rule w at ops.Call (Function n) None)

abbrev pub result_of : World → ℕ → CTypeTree
result_of w n = unwrap_or (option_map (λ f. f.result) (slice_get w.functions n)) Void

abbrev pub params_of : World → ℕ → List CTypeTree
params_of w n = unwrap_or (slice_get w.signatures n) []

-- the type of an object's value
abbrev pub value_type_of : World → ℕ → CTypeTree
value_type_of w n = unwrap_or (option_map (λ object. texpr_type (value_of (Place (object_place (object.pos) n object)))) (slice_get w.objects n)) Void

-- what is called is a function, by its name (this profile)
abbrev pub call_named : World → Pos → TExprTrees → Option Meaning → Outcome OperandTree
call_named w at args None = Refused (Undeclared at)
call_named w at args (Some (Object n)) = Refused (no_rule w at ops.Call (value_type_of w n) None)
call_named w at args (Some (Missing ty is_const)) = Refused (Undeclared at)
call_named w at args (Some (Parameter k ty is_const)) = Refused (no_rule w at ops.Call ty None)
call_named w at args (Some (world.Function n)) = call_of w at n (result_of w n) (params_of w n) args
call_named w at args (Some (TypeName form)) = Refused (Undeclared at)
call_named w at args (Some (Enumeration n)) = Refused (no_rule w at ops.Call (Int ints.Int) None)

-- an input is read without arguments (this profile)
abbrev pub input_read : World → Pos → IntType → TExprTrees → Outcome OperandTree
input_read w at t none = Typed (Value (Any at t)) w
input_read w at t args = Refused (no_rule w at ops.Call (unknown_function w) None)

-- `__assume` and `__assert` take one scalar (this profile)
abbrev pub told : World → Pos → (TExprTree → TExprTree) → TExprTrees → Outcome OperandTree
told w at node (more e none) = if is_scalar (texpr_type e) then Typed (Value (node e)) w else Refused (no_row w at ops.Test e)
told w at node args = Refused (no_rule w at ops.Call (unknown_function w) None)

abbrev pub called_or_read : World → Pos → List ℕ → TExprTrees → Option IntType → Outcome OperandTree
called_or_read w at name args (Some t) = input_read w at t args
called_or_read w at name args None =
    if is_assume name then told w at (Assume at) args
    else (if is_assert name then told w at (Assert at) args else call_named w at args (meaning_of w name))

abbrev pub called : World → Pos → List ℕ → TExprTrees → Outcome OperandTree
called w at name args = called_or_read w at name args (input_type name)
