-- Where a typed node stands, and the type of what it gives.
use Rattle.std.specs.Prelude.{Bool, false, ◌||◌}
use Rattle.c_syntax_written.specs.declared.place.Pos.{Pos}
use Rattle.c_syntax_written.specs.declared.int_type.IntType.TheVariants as ints
use Rattle.c_syntax.specs.declared.operator.TUnaryOp.{TUnaryOp}
use Rattle.c_syntax.specs.declared.operator.TUnaryOp.TheVariants as unaries
use Rattle.c_syntax.specs.declared.operator.TBinaryOp.{TBinaryOp}
use Rattle.c_syntax.specs.declared.operator.TBinaryOp.TheVariants as binaries
use Rattle.c_syntax.specs.Types.{CTypeTree, Void, Int, Pointer, Array}
use Rattle.c_syntax.specs.TypedExpr.{TExprTree, Const, Null, Load, AddressOf, Decay, Whole, Unary, Binary, Convert, Assign, AssignStruct}
use Rattle.c_syntax.specs.TypedExpr.{Compound, Step, And, Or, Cond, Comma, Call, Any, Assume, Assert, TLvalueTree, Var, Deref, Member}
use Rattle.c_syntax.specs.TypedStmt.{TStmtTree}
use Rattle.c_syntax.specs.TypedStmt as stmts

abbrev pub texpr_pos : TExprTree → Pos
texpr_pos (Const at ty value) = at
texpr_pos (Null at ty) = at
texpr_pos (Load at place) = at
texpr_pos (AddressOf at place) = at
texpr_pos (Decay at place) = at
texpr_pos (Whole at place) = at
texpr_pos (Unary at op operand) = at
texpr_pos (Binary at op left right) = at
texpr_pos (Convert at ty operand) = at
texpr_pos (Assign at place value) = at
texpr_pos (AssignStruct at extent place source) = at
texpr_pos (Compound at op place value) = at
texpr_pos (Step at time way stride place) = at
texpr_pos (And at left right) = at
texpr_pos (Or at left right) = at
texpr_pos (Cond at ty condition first second) = at
texpr_pos (Comma at left right) = at
texpr_pos (Call at function ty used args) = at
texpr_pos (Any at ty) = at
texpr_pos (Assume at operand) = at
texpr_pos (Assert at operand) = at

abbrev pub tlvalue_pos : TLvalueTree → Pos
tlvalue_pos (Var at object ty is_const) = at
tlvalue_pos (Deref at kind ty is_const pointer) = at
tlvalue_pos (Member at member offset ty is_const place) = at

abbrev pub tstmt_pos : TStmtTree → Pos
tstmt_pos (stmts.Empty at) = at
tstmt_pos (stmts.Expr at value) = at
tstmt_pos (stmts.Block at kind objects items) = at
tstmt_pos (stmts.Declare at object inits zeroes_rest) = at
tstmt_pos (stmts.Static at object) = at
tstmt_pos (stmts.If at condition first second) = at
tstmt_pos (stmts.While at condition body) = at
tstmt_pos (stmts.DoWhile at body condition) = at
tstmt_pos (stmts.For at objects head condition step body) = at
tstmt_pos (stmts.Switch at value kind objects items) = at
tstmt_pos (stmts.Break at) = at
tstmt_pos (stmts.Continue at) = at
tstmt_pos (stmts.Goto at label) = at
tstmt_pos (stmts.Return at value) = at
tstmt_pos (stmts.Label at label) = at
tstmt_pos (stmts.Case at value) = at
tstmt_pos (stmts.Default at) = at

-- the type of what stands in a place
abbrev pub tlvalue_type : TLvalueTree → CTypeTree
tlvalue_type (Var at object ty is_const) = ty
tlvalue_type (Deref at kind ty is_const pointer) = ty
tlvalue_type (Member at member offset ty is_const place) = ty

-- whether what stands in a place is const
abbrev pub tlvalue_is_const : TLvalueTree → Bool
tlvalue_is_const (Var at object ty is_const) = is_const
tlvalue_is_const (Deref at kind ty is_const pointer) = is_const
tlvalue_is_const (Member at member offset ty is_const place) = is_const

-- an array in a place as a pointer to its element, which is const where either is (C11 6.3.2.1p3, 6.7.3p9)
abbrev pub decayed : CTypeTree → Bool → CTypeTree
decayed (Array ty element_is_const n) is_const = Pointer ty (element_is_const || is_const)
decayed ty is_const = ty

abbrev pub unary_type : TUnaryOp → CTypeTree
unary_type (unaries.Plus t) = Int t
unary_type (unaries.Minus t) = Int t
unary_type (unaries.Complement t) = Int t
unary_type unaries.Not = Int ints.Int

-- the type of a result, by the types of the operands
abbrev pub binary_type : TBinaryOp → CTypeTree → CTypeTree → CTypeTree
binary_type (binaries.Arithmetic op t) left right = Int t
binary_type (binaries.Shift way t) left right = Int t
binary_type (binaries.CompareInts comparison t) left right = Int ints.Int
binary_type (binaries.ComparePointers comparison) left right = Int ints.Int
binary_type (binaries.PointerPlusInt element) left right = left
binary_type (binaries.IntPlusPointer element) left right = right
binary_type (binaries.PointerMinusInt element) left right = left
binary_type (binaries.PointerMinusPointer element) left right = Int ints.Long

-- the type of a value
abbrev pub texpr_type : TExprTree → CTypeTree
texpr_type (Const at ty value) = Int ty
texpr_type (Null at ty) = ty
texpr_type (Load at place) = tlvalue_type place
texpr_type (AddressOf at place) = Pointer (tlvalue_type place) (tlvalue_is_const place)
texpr_type (Decay at place) = decayed (tlvalue_type place) (tlvalue_is_const place)
texpr_type (Whole at place) = tlvalue_type place
texpr_type (Unary at op operand) = unary_type op
texpr_type (Binary at op left right) = binary_type op (texpr_type left) (texpr_type right)
texpr_type (Convert at ty operand) = ty
texpr_type (Assign at place value) = tlvalue_type place
texpr_type (AssignStruct at extent place source) = tlvalue_type place
texpr_type (Compound at op place value) = tlvalue_type place
texpr_type (Step at time way stride place) = tlvalue_type place
texpr_type (And at left right) = Int ints.Int
texpr_type (Or at left right) = Int ints.Int
texpr_type (Cond at ty condition first second) = ty
texpr_type (Comma at left right) = texpr_type right
texpr_type (Call at function ty used args) = ty
texpr_type (Any at ty) = Int ty
texpr_type (Assume at operand) = Void
texpr_type (Assert at operand) = Void

-- the value of a call is not used where what stands round it drops it (this profile)
abbrev pub not_used : TExprTree → TExprTree
not_used (Call at function ty used args) = Call at function ty false args
not_used e = e
