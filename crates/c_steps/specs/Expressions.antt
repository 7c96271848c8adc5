-- Rows of expressions: what an expression, and a place, put in front of the work (C11 6.5, evaluated from left to right).
use Rattle.std.specs.Prelude.{ℤ, List, [], ◌∷◌, Option}
use Rattle.c_syntax_written.specs.declared.int_type.IntType.{IntType}
use Rattle.c_syntax_written.specs.Integer.{wrapped}
use Rattle.c_syntax.specs.TypedExpr.{TExprTree, Const, Null, Load, AddressOf, Decay, Whole, Unary, Binary, Convert, Assign, AssignStruct}
use Rattle.c_syntax.specs.TypedExpr.{Compound, Step, And, Or, Cond, Comma, Call, Any, Assume, Assert, TLvalueTree, Var, Deref, Member}
use Rattle.c_syntax.specs.TypedParts.{texpr_type, tlvalue_pos, tlvalue_type}
use Rattle.c_syntax.specs.Program.{TProgramTree}
use Rattle.block_mem.specs.declared.types.Scalar.{Scalar}
use Rattle.block_mem.specs.declared.types.Value.TheVariants as values
use Rattle.c_values.specs.Values.{scalar_of}
use Rattle.c_values.specs.Places.{ObjectMemory}
use Rattle.c_objects.specs.Opening.{address}
use Rattle.c_steps.specs.Work.{Item, Eval, Addr, LoadAt, StoreAt, Named, CopyAt, Modify, StepAt, Un, Bin, Conv, Move, AndThen, OrElse, Pick, Keep, Sure}
use Rattle.c_steps.specs.Work.{Drop, Enter}
use Rattle.std.specs.Prelude.{Some}
use Rattle.c_steps.specs.States.{Held, Next, Waiting, goes, held, with_some}
use Rattle.c_steps.specs.Calls.{evals, at_end}

-- the scalar type of an expression's value, and that of a place
abbrev pub value_scalar : TExprTree → Option Scalar
value_scalar e = scalar_of (texpr_type e)

abbrev pub place_scalar : TLvalueTree → Option Scalar
place_scalar place = scalar_of (tlvalue_type place)

-- the next input, wrapped to the type (this profile)
abbrev pub input_step : IntType → List Item → List Held → ObjectMemory → List ℤ → Next
input_step t work s m [] = Waiting
input_step t work s m (n ∷ i) = goes work (held (values.Int t (wrapped t n)) ∷ s) m i

-- what an expression puts in front of the work; none of constants and inputs, which give a value at once
abbrev pub parts_of : TProgramTree → TExprTree → List Item → List Item
parts_of program (Load at place) work = Addr place ∷ LoadAt (tlvalue_pos place) (place_scalar place) ∷ work
parts_of program (AddressOf at place) work = Addr place ∷ work
parts_of program (Decay at place) work = Addr place ∷ work
parts_of program (Whole at place) work = Addr place ∷ Named (tlvalue_pos place) ∷ work
parts_of program (Unary at op operand) work = Eval operand ∷ Un at op (value_scalar operand) ∷ work
parts_of program (Binary at op left right) work = Eval left ∷ Eval right ∷ Bin at op ∷ work
parts_of program (Convert at ty operand) work = Eval operand ∷ Conv (scalar_of ty) ∷ work
parts_of program (Assign at place value) work = Addr place ∷ Eval value ∷ StoreAt (tlvalue_pos place) (place_scalar place) ∷ work
parts_of program (AssignStruct at extent place source) work = Addr place ∷ Eval source ∷ CopyAt (tlvalue_pos place) extent ∷ work
parts_of program (Compound at op place value) work = Addr place ∷ Eval value ∷ Modify at (tlvalue_pos place) (place_scalar place) op ∷ work
parts_of program (Step at time way stride place) work = Addr place ∷ StepAt at (tlvalue_pos place) (place_scalar place) time way stride ∷ work
parts_of program (And at left right) work = Eval left ∷ AndThen at (value_scalar left) right ∷ work
parts_of program (Or at left right) work = Eval left ∷ OrElse at (value_scalar left) right ∷ work
parts_of program (Cond at ty condition first second) work = Eval condition ∷ Pick at (value_scalar condition) first second ∷ work
parts_of program (Comma at left right) work = Eval left ∷ Drop ∷ Eval right ∷ work
parts_of program (Call at f ty used args) work = evals args (Enter (Some at) f (at_end program f ty used) ∷ work)
parts_of program (Assume at operand) work = Eval operand ∷ Keep at (value_scalar operand) ∷ work
parts_of program (Assert at operand) work = Eval operand ∷ Sure at (value_scalar operand) ∷ work
parts_of program e work = work

abbrev pub eval_step : TProgramTree → TExprTree → List Item → List Held → ObjectMemory → List ℤ → Next
eval_step program (Const at t n) work s m i = goes work (held (values.Int t n) ∷ s) m i
eval_step program (Null at ty) work s m i = goes work (held values.Null ∷ s) m i
eval_step program (Any at t) work s m i = input_step t work s m i
eval_step program e work s m i = goes (parts_of program e work) s m i

-- the place of an lvalue; a member's is that of its struct, moved (C11 6.5.2.3p3)
abbrev pub addr_step : TLvalueTree → List Item → List Held → ObjectMemory → List ℤ → Next
addr_step (Var at x ty is_const) work s m i = with_some (address m x 0) (λ v. goes work (held v ∷ s) m i)
addr_step (Deref at kind ty is_const pointer) work s m i = goes (Eval pointer ∷ work) s m i
addr_step (Member at k offset ty is_const place) work s m i = goes (Addr place ∷ Move at offset ∷ work) s m i
