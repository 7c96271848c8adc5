-- The objects whose addresses a program takes: by `&`, by an array that is no operand of an index, and in what static pointers hold at the start (C11
-- 6.5.3.2p3, 6.3.2.1p3).
use Rattle.std.specs.Prelude.{◌==◌, ℕ, Bool, if◌then◌else◌, Option, None, Some, option_map, unwrap_or, List, [], ◌∷◌, ◌++◌, map, length}
use Rattle.std.specs.List.{flat_map, list_any, range_with_len}
use Rattle.c_syntax.specs.declared.operator.TBinaryOp.{TBinaryOp}
use Rattle.c_syntax.specs.declared.operator.TBinaryOp.TheVariants as binaries
use Rattle.c_syntax.specs.declared.operator.DerefKind.TheVariants as derefs
use Rattle.c_syntax.specs.declared.program.InitByte.{InitByte}
use Rattle.c_syntax.specs.declared.program.InitByte.TheVariants.{Num, Piece}
use Rattle.c_syntax.specs.declared.program.Initial.{Initial}
use Rattle.c_syntax.specs.TypedExpr.{TExprTree, Const, Null, Load, AddressOf, Decay, Whole, Unary, Binary, Convert, Assign, AssignStruct}
use Rattle.c_syntax.specs.TypedExpr.{Compound, Step, And, Or, Cond, Comma, Call, Any, Assume, Assert, TLvalueTree, Var, Deref, Member, TExprTrees}
use Rattle.c_syntax.specs.TypedExpr as exprs
use Rattle.c_syntax.specs.TypedStmt.{TInitTree, Store, Copy, TStmtTree, Expr, Block, Declare, If, While, DoWhile, For, Switch, Return, TStmtTrees, none, more}
use Rattle.c_syntax.specs.Program.{TFunctionTree, TProgramTree}
use Rattle.c_rules_effects.specs.declared.touch.Touch.{Touch}
use Rattle.c_rules_effects.specs.declared.touch.Touch.TheVariants.{Mem, Object}
use Rattle.c_rules_effects.specs.Places.{moves_left, place_of}

-- the object of which a place is a part, where it is one
abbrev pub object_named : Touch → List ℕ
object_named Mem = []
object_named (Object n path) = n ∷ []

-- the objects whose addresses an expression takes
unfoldable mutual
  pub taken_in : TExprTree → List ℕ
  taken_in (Const at ty value) = []
  taken_in (Null at ty) = []
  taken_in (Load at place) = taken_at place
  taken_in (AddressOf at place) = taken_at place ++ object_named (place_of place)
  taken_in (Decay at place) = taken_at place ++ object_named (place_of place)
  taken_in (Whole at place) = taken_at place
  taken_in (Unary at op operand) = taken_in operand
  taken_in (Binary at op left right) = taken_in left ++ taken_in right
  taken_in (Convert at ty operand) = taken_in operand
  taken_in (Assign at place value) = taken_at place ++ taken_in value
  taken_in (AssignStruct at extent place source) = taken_at place ++ taken_in source
  taken_in (Compound at op place value) = taken_at place ++ taken_in value
  taken_in (Step at time way stride place) = taken_at place
  taken_in (And at left right) = taken_in left ++ taken_in right
  taken_in (Or at left right) = taken_in left ++ taken_in right
  taken_in (Cond at ty condition first second) = taken_in condition ++ taken_in first ++ taken_in second
  taken_in (Comma at left right) = taken_in left ++ taken_in right
  taken_in (Call at function ty used args) = taken_among args
  taken_in (Any at ty) = []
  taken_in (Assume at operand) = taken_in operand
  taken_in (Assert at operand) = taken_in operand

  -- the address of an array under an index is not taken
  pub taken_at : TLvalueTree → List ℕ
  taken_at (Var at n ty is_const) = []
  taken_at (Deref at derefs.Index ty is_const (Binary sum (binaries.PointerPlusInt element) (Decay array place) index)) = taken_at place ++ taken_in index
  taken_at (Deref at kind ty is_const pointer) = taken_in pointer
  taken_at (Member at k offset ty is_const place) = taken_at place

  pub taken_among : TExprTrees → List ℕ
  taken_among exprs.none = []
  taken_among (exprs.more item rest) = taken_in item ++ taken_among rest

-- those that an array under an index takes, where the operator adds the index to it, and else the left operand
abbrev pub taken_of_array : TExprTree → List ℕ
taken_of_array (Decay at place) = taken_at place
taken_of_array e = taken_in e

abbrev pub taken_under_index : TBinaryOp → TExprTree → List ℕ
taken_under_index op left = if moves_left op then taken_of_array left else taken_in left

-- those of what an index points to, by the sum that it is
abbrev pub taken_by_index : TExprTree → List ℕ
taken_by_index (Binary at op left right) = taken_under_index op left ++ taken_in right
taken_by_index e = taken_in e

-- those that an item of an initialiser takes
abbrev pub init_taken : TInitTree → List ℕ
init_taken (Store offset ty value) = taken_in value
init_taken (Copy offset extent source) = taken_in source

abbrev pub taken_if_there : Option TExprTree → List ℕ
taken_if_there None = []
taken_if_there (Some e) = taken_in e

-- those that the expressions of a statement take
unfoldable mutual
  pub taken_in_stmt : TStmtTree → List ℕ
  taken_in_stmt (Expr at value) = taken_in value
  taken_in_stmt (Block at kind objects items) = taken_in_items items
  taken_in_stmt (Declare at object inits zeroes_rest) = flat_map init_taken inits
  taken_in_stmt (If at condition first second) = taken_in condition ++ taken_in_stmt first ++ taken_in_stmt second
  taken_in_stmt (While at condition body) = taken_in condition ++ taken_in_stmt body
  taken_in_stmt (DoWhile at body condition) = taken_in_stmt body ++ taken_in condition
  taken_in_stmt (For at objects head condition step body) =
      taken_in_items head ++ taken_if_there condition ++ taken_if_there step ++ taken_in_stmt body
  taken_in_stmt (Switch at value kind objects items) = taken_in value ++ taken_in_items items
  taken_in_stmt (Return at value) = taken_if_there value
  taken_in_stmt _ = []

  pub taken_in_items : TStmtTrees → List ℕ
  taken_in_items none = []
  taken_in_items (more item rest) = taken_in_stmt item ++ taken_in_items rest

abbrev pub function_taken : TFunctionTree → List ℕ
function_taken function = unwrap_or (option_map taken_in_stmt function.body) []

-- a static pointer holds the address of an object from the start
abbrev pub byte_taken : InitByte → List ℕ
byte_taken (Num n) = []
byte_taken (Piece object offset k) = object ∷ []

abbrev pub initial_taken : Initial → List ℕ
initial_taken initial = flat_map byte_taken initial.bytes

-- those of a whole program
abbrev pub program_taken : TProgramTree → List ℕ
program_taken program = flat_map function_taken program.functions ++ flat_map initial_taken program.initial

-- the number is one of these
abbrev pub is_among : List ℕ → ℕ → Bool
is_among numbers n = list_any (λ x. x == n) numbers

-- of each object of a program, by its number, whether its address is taken
abbrev pub taken_table : TProgramTree → List Bool
taken_table program = map (is_among (program_taken program)) (range_with_len 0 (length program.objects))
