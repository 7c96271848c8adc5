-- Expressions, statements and programs as trees without pointers. Each constructor has the fields of the code's variant, in their order.
use Rattle.std.specs.Prelude.{ℕ, ℤ, List, [], ◌∷◌, map, Option, option_map}
use Rattle.c_syntax_written.specs.declared.place.Pos.{Pos}
use Rattle.c_syntax_written.specs.declared.int_type.IntType.{IntType}
use Rattle.c_syntax.specs.declared.alarm.Check.{Check}
use Rattle.c_syntax.specs.declared.operator.TUnaryOp.{TUnaryOp}
use Rattle.c_syntax.specs.declared.operator.TBinaryOp.{TBinaryOp}
use Rattle.c_syntax.specs.declared.program.Initial.{Initial}
use Rattle.c_syntax.specs.Types.{ObjectTree, object_tree}
use Rattle.c_syntax.specs.Program.{StructDefTree, structdef_tree}
use Rattle.block_mem.specs.declared.types.Scalar.{Scalar}
use Rattle.csharp.specs.declared.expression.CsExpr.{CsExpr}
use Rattle.csharp.specs.declared.expression.CsExpr.TheVariants as exprs
use Rattle.csharp.specs.declared.expression.CsCheck.{CsCheck}
use Rattle.csharp.specs.declared.statement.CsCall.{CsCall}
use Rattle.csharp.specs.declared.statement.CsStmt.{CsStmt, Row_of-CsStmt, end_of-CsStmt, more_of-CsStmt}
use Rattle.csharp.specs.declared.statement.CsStmt.TheVariants as stmts
use Rattle.csharp.specs.declared.statement.CsStmts.{CsStmts}
use Rattle.csharp.specs.declared.program.CsFunction.{CsFunction}
use Rattle.csharp.specs.declared.program.CsProgram.{CsProgram}

pub data CsExprTree : Type 0 where
  Const : IntType → ℤ → CsExprTree
  Null : CsExprTree
  Temp : ℕ → CsExprTree
  Address : ℕ → CsExprTree
  Unary : TUnaryOp → CsExprTree → CsExprTree
  Binary : TBinaryOp → CsExprTree → CsExprTree → CsExprTree
  Convert : IntType → CsExprTree → CsExprTree

unfoldable pub csexpr_tree : CsExpr → CsExprTree
csexpr_tree (exprs.Const ty value) = Const ty value
csexpr_tree exprs.Null = Null
csexpr_tree (exprs.Temp temp) = Temp temp
csexpr_tree (exprs.Address object) = Address object
csexpr_tree (exprs.Unary' op operand_box operand) = Unary op (csexpr_tree operand)
csexpr_tree (exprs.Binary' op left_box left right_box right) = Binary op (csexpr_tree left) (csexpr_tree right)
csexpr_tree (exprs.Convert' ty operand_box operand) = Convert ty (csexpr_tree operand)

pub record CsCheckTree : Type 0 where
  pub check : Check
  pub pos : Pos
  pub ty : Option Scalar
  pub operands : List CsExprTree

abbrev pub cscheck_tree : CsCheck → CsCheckTree
cscheck_tree c = record { check = c.check; pos = c.pos; ty = c.ty; operands = map csexpr_tree c.operands }

pub record CsCallTree : Type 0 where
  pub pos : Pos
  pub function : ℕ
  pub args : List CsExprTree
  pub value : Option ℕ
  pub flag : Option ℕ

abbrev pub cscall_tree : CsCall → CsCallTree
cscall_tree c = record { pos = c.pos; function = c.function; args = map csexpr_tree c.args; value = c.value; flag = c.flag }

mutual
  pub data CsStmtTree : Type 0 where
    Nothing : CsStmtTree
    Set : ℕ → CsExprTree → CsStmtTree
    Load : ℕ → Scalar → CsExprTree → CsStmtTree
    Store : Scalar → CsExprTree → CsExprTree → CsStmtTree
    CopyBytes : ℕ → CsExprTree → CsExprTree → CsStmtTree
    Undefine : ℕ → CsStmtTree
    Checked : CsCheckTree → CsStmtTree
    Input : ℕ → IntType → CsStmtTree
    Assume : CsExprTree → CsStmtTree
    Sequence : CsStmtTree → CsStmtTree → CsStmtTree
    If : CsExprTree → CsStmtTree → CsStmtTree → CsStmtTree
    Loop : Pos → CsStmtTree → CsStmtTree
    Block : CsStmtTree → CsStmtTree
    Exit : ℕ → CsStmtTree
    Scope : List ℕ → CsStmtTrees → CsStmtTree
    Switch : CsExprTree → List ℕ → CsStmtTrees → CsStmtTree
    Goto : ℕ → CsStmtTree
    Call : CsCallTree → CsStmtTree
    Return : Option CsExprTree → CsStmtTree
    Label : Pos → ℕ → CsStmtTree
    Case : ℤ → CsStmtTree
    Default : CsStmtTree

  pub data CsStmtTrees : Type 0 where
    none : CsStmtTrees
    more : CsStmtTree → CsStmtTrees → CsStmtTrees

unfoldable mutual
  pub csstmt_tree : CsStmt → CsStmtTree
  csstmt_tree stmts.Nothing = Nothing
  csstmt_tree (stmts.Set temp value) = Set temp (csexpr_tree value)
  csstmt_tree (stmts.Load temp ty address) = Load temp ty (csexpr_tree address)
  csstmt_tree (stmts.Store ty address value) = Store ty (csexpr_tree address) (csexpr_tree value)
  csstmt_tree (stmts.CopyBytes size to from) = CopyBytes size (csexpr_tree to) (csexpr_tree from)
  csstmt_tree (stmts.Undefine object) = Undefine object
  csstmt_tree (stmts.Checked check) = Checked (cscheck_tree check)
  csstmt_tree (stmts.Input temp ty) = Input temp ty
  csstmt_tree (stmts.Assume condition) = Assume (csexpr_tree condition)
  csstmt_tree (stmts.Sequence' first_box first second_box second) = Sequence (csstmt_tree first) (csstmt_tree second)
  csstmt_tree (stmts.If' condition first_box first second_box second) = If (csexpr_tree condition) (csstmt_tree first) (csstmt_tree second)
  csstmt_tree (stmts.Loop' at body_box body) = Loop at (csstmt_tree body)
  csstmt_tree (stmts.Block' body_box body) = Block (csstmt_tree body)
  csstmt_tree (stmts.Exit level) = Exit level
  csstmt_tree (stmts.Scope' objects items_shape items) = Scope objects (csstmt_rows items)
  csstmt_tree (stmts.Switch' value objects items_shape items) = Switch (csexpr_tree value) objects (csstmt_rows items)
  csstmt_tree (stmts.Goto label) = Goto label
  csstmt_tree (stmts.Call call) = Call (cscall_tree call)
  csstmt_tree (stmts.Return value) = Return (option_map csexpr_tree value)
  csstmt_tree (stmts.Label at label) = Label at label
  csstmt_tree (stmts.Case value) = Case value
  csstmt_tree stmts.Default = Default

  pub csstmt_rows : {m : _} → Row_of-CsStmt m → CsStmtTrees
  csstmt_rows end_of-CsStmt = none
  csstmt_rows (more_of-CsStmt item rest) = more (csstmt_tree item) (csstmt_rows rest)

unfoldable pub csstmts_from : List CsStmt → CsStmtTrees
csstmts_from [] = none
csstmts_from (item ∷ rest) = more (csstmt_tree item) (csstmts_from rest)

abbrev pub csstmts_tree : CsStmts → CsStmtTrees
csstmts_tree list = csstmts_from list.items.items

pub record CsFunctionTree : Type 0 where
  pub params : List ℕ
  pub body : CsStmtTree

abbrev pub csfunction_tree : CsFunction → CsFunctionTree
csfunction_tree function = record { params = function.params; body = csstmt_tree function.body }

pub record CsProgramTree : Type 0 where
  pub structs : List StructDefTree
  pub objects : List ObjectTree
  pub initial : List Initial
  pub functions : List CsFunctionTree
  pub temps : List Scalar
  pub main : ℕ

abbrev pub csprogram_tree : CsProgram → CsProgramTree
csprogram_tree program = record {
  structs = map structdef_tree program.structs;
  objects = map object_tree program.objects;
  initial = program.initial;
  functions = map csfunction_tree program.functions;
  temps = program.temps;
  main = program.main;
}
