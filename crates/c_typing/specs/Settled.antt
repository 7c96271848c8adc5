-- A typed program at the end of its file: an array whose size came later has its type wherever its name stands.
use Rattle.std.specs.Prelude.{ℕ, option_map, unwrap_or, List, map, slice_get}
use Rattle.c_syntax.specs.Types.{CTypeTree, ObjectTree}
use Rattle.c_syntax.specs.TypedExpr.{TExprTree, Const, Null, Load, AddressOf, Decay, Whole, Unary, Binary, Convert, Assign, AssignStruct, Compound, Step, And, Or, Cond, Comma, Call, Any, Assume, Assert, TLvalueTree, Var, Deref, Member, TExprTrees}
use Rattle.c_syntax.specs.TypedExpr as exprs
use Rattle.c_syntax.specs.TypedStmt.{TInitTree, Store, Copy, TStmtTree, Empty, Expr, Block, Declare, Static, If, While, DoWhile, For, Switch, Break, Continue, Goto, Return, Label, Case, Default, TStmtTrees}
use Rattle.c_syntax.specs.TypedStmt as stmts
use Rattle.c_syntax.specs.Program.{TFunctionTree}

-- the type that an object has at the end of the file
abbrev pub last_type : List ObjectTree → ℕ → CTypeTree → CTypeTree
last_type objects n ty = unwrap_or (option_map (λ object. object.ty) (slice_get objects n)) ty

unfoldable mutual
  pub settled_expr : List ObjectTree → TExprTree → TExprTree
  settled_expr objects (Const at ty value) = Const at ty value
  settled_expr objects (Null at ty) = Null at ty
  settled_expr objects (Load at place) = Load at (settled_place objects place)
  settled_expr objects (AddressOf at place) = AddressOf at (settled_place objects place)
  settled_expr objects (Decay at place) = Decay at (settled_place objects place)
  settled_expr objects (Whole at place) = Whole at (settled_place objects place)
  settled_expr objects (Unary at op operand) = Unary at op (settled_expr objects operand)
  settled_expr objects (Binary at op left right) = Binary at op (settled_expr objects left) (settled_expr objects right)
  settled_expr objects (Convert at ty operand) = Convert at ty (settled_expr objects operand)
  settled_expr objects (Assign at place value) = Assign at (settled_place objects place) (settled_expr objects value)
  settled_expr objects (AssignStruct at extent place source) = AssignStruct at extent (settled_place objects place) (settled_expr objects source)
  settled_expr objects (Compound at op place value) = Compound at op (settled_place objects place) (settled_expr objects value)
  settled_expr objects (Step at time way stride place) = Step at time way stride (settled_place objects place)
  settled_expr objects (And at left right) = And at (settled_expr objects left) (settled_expr objects right)
  settled_expr objects (Or at left right) = Or at (settled_expr objects left) (settled_expr objects right)
  settled_expr objects (Cond at ty condition first second) =
      Cond at ty (settled_expr objects condition) (settled_expr objects first) (settled_expr objects second)
  settled_expr objects (Comma at left right) = Comma at (settled_expr objects left) (settled_expr objects right)
  settled_expr objects (Call at function ty used args) = Call at function ty used (settled_exprs objects args)
  settled_expr objects (Any at ty) = Any at ty
  settled_expr objects (Assume at operand) = Assume at (settled_expr objects operand)
  settled_expr objects (Assert at operand) = Assert at (settled_expr objects operand)

  pub settled_place : List ObjectTree → TLvalueTree → TLvalueTree
  settled_place objects (Var at n ty is_const) = Var at n (last_type objects n ty) is_const
  settled_place objects (Deref at kind ty is_const pointer) = Deref at kind ty is_const (settled_expr objects pointer)
  settled_place objects (Member at k offset ty is_const place) = Member at k offset ty is_const (settled_place objects place)

  pub settled_exprs : List ObjectTree → TExprTrees → TExprTrees
  settled_exprs objects exprs.none = exprs.none
  settled_exprs objects (exprs.more item rest) = exprs.more (settled_expr objects item) (settled_exprs objects rest)

abbrev pub settled_init : List ObjectTree → TInitTree → TInitTree
settled_init objects (Store offset ty value) = Store offset ty (settled_expr objects value)
settled_init objects (Copy offset extent source) = Copy offset extent (settled_expr objects source)

unfoldable mutual
  pub settled_stmt : List ObjectTree → TStmtTree → TStmtTree
  settled_stmt objects (Empty at) = Empty at
  settled_stmt objects (Expr at value) = Expr at (settled_expr objects value)
  settled_stmt objects (Block at kind numbers items) = Block at kind numbers (settled_stmts objects items)
  settled_stmt objects (Declare at n inits zeroes_rest) = Declare at n (map (settled_init objects) inits) zeroes_rest
  settled_stmt objects (Static at n) = Static at n
  settled_stmt objects (If at condition first second) =
      If at (settled_expr objects condition) (settled_stmt objects first) (settled_stmt objects second)
  settled_stmt objects (While at condition body) = While at (settled_expr objects condition) (settled_stmt objects body)
  settled_stmt objects (DoWhile at body condition) = DoWhile at (settled_stmt objects body) (settled_expr objects condition)
  settled_stmt objects (For at numbers head condition step body) =
      For at numbers (settled_stmts objects head) (option_map (settled_expr objects) condition)
      (option_map (settled_expr objects) step) (settled_stmt objects body)
  settled_stmt objects (Switch at value kind numbers items) = Switch at (settled_expr objects value) kind numbers (settled_stmts objects items)
  settled_stmt objects (Break at) = Break at
  settled_stmt objects (Continue at) = Continue at
  settled_stmt objects (Goto at label) = Goto at label
  settled_stmt objects (Return at value) = Return at (option_map (settled_expr objects) value)
  settled_stmt objects (Label at label) = Label at label
  settled_stmt objects (Case at value) = Case at value
  settled_stmt objects (Default at) = Default at

  pub settled_stmts : List ObjectTree → TStmtTrees → TStmtTrees
  settled_stmts objects stmts.none = stmts.none
  settled_stmts objects (stmts.more item rest) = stmts.more (settled_stmt objects item) (settled_stmts objects rest)

abbrev pub settled_function : List ObjectTree → TFunctionTree → TFunctionTree
settled_function objects function = record function { body = option_map (settled_stmt objects) function.body }
