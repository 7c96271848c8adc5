-- The integer constants of a program: the values of the constants in the bodies of its functions, in the order of the text (this profile).
use Rattle.std.specs.Prelude.{ℤ, Option, None, Some, option_map, unwrap_or, List, [], ◌∷◌, ◌++◌}
use Rattle.std.specs.List.{flat_map}
use Rattle.c_syntax.specs.TypedExpr.{TExprTree, Const, Null, Load, AddressOf, Decay, Whole, Unary, Binary, Convert, Assign, AssignStruct}
use Rattle.c_syntax.specs.TypedExpr.{Compound, Step, And, Or, Cond, Comma, Call, Any, Assume, Assert, TLvalueTree, Var, Deref, Member, TExprTrees}
use Rattle.c_syntax.specs.TypedExpr as exprs
use Rattle.c_syntax.specs.TypedStmt.{TInitTree, Store, Copy, TStmtTree, Expr, Block, Declare, If, While, DoWhile, For, Switch, Return, TStmtTrees, none, more}
use Rattle.c_syntax.specs.Program.{TFunctionTree, TProgramTree}

-- the constants in an expression
unfoldable mutual
  pub constants_in : TExprTree → List ℤ
  constants_in (Const at ty value) = value ∷ []
  constants_in (Null at ty) = []
  constants_in (Load at place) = constants_at place
  constants_in (AddressOf at place) = constants_at place
  constants_in (Decay at place) = constants_at place
  constants_in (Whole at place) = constants_at place
  constants_in (Unary at op operand) = constants_in operand
  constants_in (Binary at op left right) = constants_in left ++ constants_in right
  constants_in (Convert at ty operand) = constants_in operand
  constants_in (Assign at place value) = constants_at place ++ constants_in value
  constants_in (AssignStruct at extent place source) = constants_at place ++ constants_in source
  constants_in (Compound at op place value) = constants_at place ++ constants_in value
  constants_in (Step at time way stride place) = constants_at place
  constants_in (And at left right) = constants_in left ++ constants_in right
  constants_in (Or at left right) = constants_in left ++ constants_in right
  constants_in (Cond at ty condition first second) = constants_in condition ++ constants_in first ++ constants_in second
  constants_in (Comma at left right) = constants_in left ++ constants_in right
  constants_in (Call at function ty used args) = constants_among args
  constants_in (Any at ty) = []
  constants_in (Assume at operand) = constants_in operand
  constants_in (Assert at operand) = constants_in operand

  pub constants_at : TLvalueTree → List ℤ
  constants_at (Var at n ty is_const) = []
  constants_at (Deref at kind ty is_const pointer) = constants_in pointer
  constants_at (Member at k offset ty is_const place) = constants_at place

  pub constants_among : TExprTrees → List ℤ
  constants_among exprs.none = []
  constants_among (exprs.more item rest) = constants_in item ++ constants_among rest

-- those in an item of an initialiser
abbrev pub init_constants : TInitTree → List ℤ
init_constants (Store offset ty value) = constants_in value
init_constants (Copy offset extent source) = constants_in source

abbrev pub constants_if_there : Option TExprTree → List ℤ
constants_if_there None = []
constants_if_there (Some e) = constants_in e

-- those in the expressions of a statement
unfoldable mutual
  pub constants_in_stmt : TStmtTree → List ℤ
  constants_in_stmt (Expr at value) = constants_in value
  constants_in_stmt (Block at kind objects items) = constants_in_items items
  constants_in_stmt (Declare at object inits zeroes_rest) = flat_map init_constants inits
  constants_in_stmt (If at condition first second) = constants_in condition ++ constants_in_stmt first ++ constants_in_stmt second
  constants_in_stmt (While at condition body) = constants_in condition ++ constants_in_stmt body
  constants_in_stmt (DoWhile at body condition) = constants_in_stmt body ++ constants_in condition
  constants_in_stmt (For at objects head condition step body) =
      constants_in_items head ++ constants_if_there condition ++ constants_if_there step ++ constants_in_stmt body
  constants_in_stmt (Switch at value kind objects items) = constants_in value ++ constants_in_items items
  constants_in_stmt (Return at value) = constants_if_there value
  constants_in_stmt _ = []

  pub constants_in_items : TStmtTrees → List ℤ
  constants_in_items none = []
  constants_in_items (more item rest) = constants_in_stmt item ++ constants_in_items rest

abbrev pub function_constants : TFunctionTree → List ℤ
function_constants function = unwrap_or (option_map constants_in_stmt function.body) []

-- those of a whole program
abbrev pub program_constants : TProgramTree → List ℤ
program_constants program = flat_map function_constants program.functions
