-- The calls of a program, and the chains that they make.
use Rattle.std.specs.Prelude.{◌≡◌, ◌⊎◌, ◌<◌, ℕ, Option, None, Some, option_and_then, option_map, unwrap_or, List, [], ◌∷◌, ◌++◌, map, All, Contains, slice_get}
use Rattle.std.specs.List.{flat_map}
use Rattle.c_syntax_written.specs.declared.place.Pos.{Pos}
use Rattle.c_syntax.specs.TypedExpr.{TExprTree, Const, Null, Load, AddressOf, Decay, Whole, Unary, Binary, Convert, Assign, AssignStruct, Compound, Step, And, Or, Cond, Comma, Call, Any, Assume, Assert, TLvalueTree, Var, Deref, Member, TExprTrees}
use Rattle.c_syntax.specs.TypedExpr as exprs
use Rattle.c_syntax.specs.TypedStmt.{TInitTree, Store, Copy, TStmtTree, Expr, Block, Declare, If, While, DoWhile, For, Switch, Return, TStmtTrees, none, more}
use Rattle.c_syntax.specs.Program.{TProgramTree}

-- a call, at the name of the function that it calls
pub record PlacedCall : Type 0 where
  pub pos : Pos
  pub callee : ℕ

-- the calls in an expression, as they are made from left to right
unfoldable mutual
  pub calls_of : TExprTree → List PlacedCall
  calls_of (Const at ty value) = []
  calls_of (Null at ty) = []
  calls_of (Load at place) = calls_at place
  calls_of (AddressOf at place) = calls_at place
  calls_of (Decay at place) = calls_at place
  calls_of (Whole at place) = calls_at place
  calls_of (Unary at op operand) = calls_of operand
  calls_of (Binary at op left right) = calls_of left ++ calls_of right
  calls_of (Convert at ty operand) = calls_of operand
  calls_of (Assign at place value) = calls_at place ++ calls_of value
  calls_of (AssignStruct at extent place source) = calls_at place ++ calls_of source
  calls_of (Compound at op place value) = calls_at place ++ calls_of value
  calls_of (Step at time way stride place) = calls_at place
  calls_of (And at left right) = calls_of left ++ calls_of right
  calls_of (Or at left right) = calls_of left ++ calls_of right
  calls_of (Cond at ty condition first second) = calls_of condition ++ calls_of first ++ calls_of second
  calls_of (Comma at left right) = calls_of left ++ calls_of right
  calls_of (Call at function ty used args) = calls_among args ++ record { pos = at; callee = function } ∷ []
  calls_of (Any at ty) = []
  calls_of (Assume at operand) = calls_of operand
  calls_of (Assert at operand) = calls_of operand

  pub calls_at : TLvalueTree → List PlacedCall
  calls_at (Var at object ty is_const) = []
  calls_at (Deref at kind ty is_const pointer) = calls_of pointer
  calls_at (Member at k offset ty is_const place) = calls_at place

  pub calls_among : TExprTrees → List PlacedCall
  calls_among exprs.none = []
  calls_among (exprs.more item rest) = calls_of item ++ calls_among rest

-- the calls in an item of an initialiser
abbrev pub init_calls : TInitTree → List PlacedCall
init_calls (Store offset ty value) = calls_of value
init_calls (Copy offset extent source) = calls_of source

-- the calls in an expression that may be missing
abbrev pub calls_if_there : Option TExprTree → List PlacedCall
calls_if_there None = []
calls_if_there (Some e) = calls_of e

-- the calls in a statement, statement by statement in the order of the text, and in each expression as they are made
unfoldable mutual
  pub stmt_calls : TStmtTree → List PlacedCall
  stmt_calls (Expr at value) = calls_of value
  stmt_calls (Block at kind objects items) = item_calls items
  stmt_calls (Declare at object inits zeroes_rest) = flat_map init_calls inits
  stmt_calls (If at condition first second) = calls_of condition ++ stmt_calls first ++ stmt_calls second
  stmt_calls (While at condition body) = calls_of condition ++ stmt_calls body
  stmt_calls (DoWhile at body condition) = stmt_calls body ++ calls_of condition
  stmt_calls (For at objects head condition step body) =
      item_calls head ++ calls_if_there condition ++ calls_if_there step ++ stmt_calls body
  stmt_calls (Switch at value kind objects items) = calls_of value ++ item_calls items
  stmt_calls (Return at value) = calls_if_there value
  stmt_calls _ = []

  pub item_calls : TStmtTrees → List PlacedCall
  item_calls none = []
  item_calls (more item rest) = stmt_calls item ++ item_calls rest

-- the calls in the body of a function, which are none where it has no body or is not there
abbrev pub function_calls : TProgramTree → ℕ → List PlacedCall
function_calls program f = unwrap_or (option_map stmt_calls (option_and_then (λ function. function.body) (slice_get program.functions f))) []

-- the first place stands before the second in the text
abbrev pub IsBefore : Pos → Pos → Type 0
IsBefore a b =
    (a.file < b.file) ⊎ ((a.file ≡ b.file) × ((a.line < b.line) ⊎ ((a.line ≡ b.line) × (a.col < b.col))))

-- of all calls of the program of which this is so, the first in the text, by the names of the functions that are called: in `f(g())` the call of `f`
pub record IsFirstCall (program : TProgramTree) (Asked : PlacedCall → Type 0) (call : PlacedCall) : Type 0 where
  pub function : ℕ
  pub made : Contains (function_calls program function) call
  pub asked : Asked call
  pub first : (f : ℕ) → All (λ other. Asked other → IsBefore other.pos call.pos → ⊥) (function_calls program f)

-- calls of which the first stands in the function, and each next one in the function that the one before calls
abbrev pub IsChain : TProgramTree → ℕ → List PlacedCall → Type 0
IsChain program f [] = Unit {0}
IsChain program f (call ∷ rest) = Contains (function_calls program f) call × IsChain program call.callee rest

-- the function that the last call of a chain calls, or the one where the chain begins
abbrev pub chain_end : ℕ → List PlacedCall → ℕ
chain_end f [] = f
chain_end f (call ∷ rest) = chain_end call.callee rest

-- calls at these places lead from one function to the other
pub record LeadTo (program : TProgramTree) (from : ℕ) (places : List Pos) (to : ℕ) : Type 0 where
  pub chain : List PlacedCall
  pub calls : IsChain program from chain
  pub at : map (λ call. call.pos) chain ≡ places
  pub ends : chain_end from chain ≡ to
