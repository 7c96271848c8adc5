-- The sides of the nodes of an expression whose order nothing fixes (C11 6.5p2 and p3, 6.5.2.2p10, 6.7.9p23; this profile).
use Rattle.std.specs.Prelude.{Option, None, Some, List, [], ◌∷◌, ◌++◌, map}
use Rattle.std.specs.List.{flat_map}
use Rattle.c_syntax_written.specs.declared.place.Pos.{Pos}
use Rattle.c_syntax.specs.TypedExpr.{TExprTree, Const, Null, Load, AddressOf, Decay, Whole, Unary, Binary, Convert, Assign, AssignStruct}
use Rattle.c_syntax.specs.TypedExpr.{Compound, Step, And, Or, Cond, Comma, Call, Any, Assume, Assert, TLvalueTree, Var, Deref, Member, TExprTrees}
use Rattle.c_syntax.specs.TypedExpr as exprs
use Rattle.c_syntax.specs.TypedStmt.{TInitTree, Store, Copy, TStmtTree, Expr, Block, Declare, If, While, DoWhile, For, Switch, Return, TStmtTrees, none, more}
use Rattle.c_layout.specs.Calls.{calls_at, calls_of}
use Rattle.c_rules_effects.specs.declared.touch.Touch.{Touch}
use Rattle.c_rules_effects.specs.Places.{place_of}
use Rattle.c_rules_effects.specs.Effects.{effects_at, effects_of}
use Rattle.c_rules_effects.specs.Joined.{joined, read_at, write_at}
use Rattle.c_rules_order.specs.declared.side.Side.{Side}
use Rattle.c_rules_order.specs.declared.side.Comparison.{Comparison}
use Rattle.c_rules_order.specs.Made.{only}

-- what an expression does, without what the functions do that it calls; what naming a place does; and what each argument does
unfoldable pub side_of : TExprTree → Side
side_of e = record { own = effects_of [] e; calls = calls_of e }

unfoldable pub side_at : TLvalueTree → Side
side_at place = record { own = effects_at [] place; calls = calls_at place }

unfoldable pub sides_of : TExprTrees → List Side
sides_of exprs.none = []
sides_of (exprs.more item rest) = side_of item ∷ sides_of rest

-- two sides of the node that stands here
abbrev pub two : Pos → Side → Side → List Comparison
two at left right = record { pos = at; left = left; right = right } ∷ []

-- a side with each that stands before it
abbrev pub with_each : Pos → List Side → Side → List Comparison
with_each at earlier side = map (λ before. record { pos = at; left = before; right = side }) earlier

-- each side with those before it, where these stand before the first
abbrev pub pairs_behind : Pos → List Side → List Side → List Comparison
pairs_behind at earlier [] = []
pairs_behind at earlier (side ∷ later) = with_each at earlier side ++ pairs_behind at (earlier ++ side ∷ []) later

-- any two of these sides
abbrev pub all_pairs : Pos → List Side → List Comparison
all_pairs at sides = pairs_behind at [] sides

-- the writes that the right side of an `=` makes itself, without the store of one that is an `=` too: its left side then has the same type, since a
-- conversion would stand between
abbrev pub made_beside : TExprTree → List Touch
made_beside (Assign at place value) = (joined (effects_at [] place) (effects_of [] value)).writes
made_beside (AssignStruct at extent place source) = (joined (effects_at [] place) (effects_of [] source)).writes
made_beside e = (effects_of [] e).writes

-- the store that an `=` ends with
abbrev pub store_of : TExprTree → List Touch
store_of (Assign at place value) = place_of place ∷ []
store_of (AssignStruct at extent place source) = place_of place ∷ []
store_of e = []

-- these writes alone
abbrev pub writes_alone : List Touch → Side
writes_alone touches = only (record { reads = []; writes = touches })

-- the store of an `=`, and the writes that its right side makes itself
abbrev pub stored_beside : Pos → TLvalueTree → TExprTree → List Comparison
stored_beside at place value = two at (only (write_at (place_of place))) (writes_alone (made_beside value))

-- the sides that are compared at the nodes of an expression, children before their parents and from left to right. What `op=` stores it reads too, so its read
-- tells of the store
unfoldable mutual
  pub compared_in : TExprTree → List Comparison
  compared_in (Const at ty value) = []
  compared_in (Null at ty) = []
  compared_in (Load at place) = compared_at place
  compared_in (AddressOf at place) = compared_at place
  compared_in (Decay at place) = compared_at place
  compared_in (Whole at place) = compared_at place
  compared_in (Unary at op operand) = compared_in operand
  compared_in (Binary at op left right) = compared_in left ++ compared_in right ++ two at (side_of left) (side_of right)
  compared_in (Convert at ty operand) = compared_in operand
  compared_in (Assign at place value) =
      compared_at place ++ compared_in value ++ two at (side_at place) (side_of value) ++ stored_beside at place value
  compared_in (AssignStruct at extent place source) =
      compared_at place ++ compared_in source ++ two at (side_at place) (side_of source) ++ stored_beside at place source
  compared_in (Compound at op place value) =
      compared_at place ++ compared_in value ++ two at (side_at place) (side_of value) ++ two at (only (read_at (place_of place))) (side_of value)
  compared_in (Step at time way stride place) = compared_at place
  compared_in (And at left right) = compared_in left ++ compared_in right
  compared_in (Or at left right) = compared_in left ++ compared_in right
  compared_in (Cond at ty condition first second) = compared_in condition ++ compared_in first ++ compared_in second
  compared_in (Comma at left right) = compared_in left ++ compared_in right
  compared_in (Call at function ty used args) = compared_among args ++ all_pairs at (sides_of args)
  compared_in (Any at ty) = []
  compared_in (Assume at operand) = compared_in operand
  compared_in (Assert at operand) = compared_in operand

  pub compared_at : TLvalueTree → List Comparison
  compared_at (Var at n ty is_const) = []
  compared_at (Deref at kind ty is_const pointer) = compared_in pointer
  compared_at (Member at k offset ty is_const place) = compared_at place

  pub compared_among : TExprTrees → List Comparison
  compared_among exprs.none = []
  compared_among (exprs.more item rest) = compared_in item ++ compared_among rest

-- the expression of an item of an initialiser
abbrev pub init_value : TInitTree → TExprTree
init_value (Store offset ty value) = value
init_value (Copy offset extent source) = source

abbrev pub init_compared : TInitTree → List Comparison
init_compared init = compared_in (init_value init)

abbrev pub init_side : TInitTree → Side
init_side init = side_of (init_value init)

abbrev pub compared_if_there : Option TExprTree → List Comparison
compared_if_there None = []
compared_if_there (Some e) = compared_in e

-- those of the expressions of a statement, in the order of the text; any two items of an initialiser are sides of its declaration
unfoldable mutual
  pub compared_in_stmt : TStmtTree → List Comparison
  compared_in_stmt (Expr at value) = compared_in value
  compared_in_stmt (Block at kind objects items) = compared_in_items items
  compared_in_stmt (Declare at object inits zeroes_rest) = flat_map init_compared inits ++ all_pairs at (map init_side inits)
  compared_in_stmt (If at condition first second) = compared_in condition ++ compared_in_stmt first ++ compared_in_stmt second
  compared_in_stmt (While at condition body) = compared_in condition ++ compared_in_stmt body
  compared_in_stmt (DoWhile at body condition) = compared_in_stmt body ++ compared_in condition
  compared_in_stmt (For at objects head condition step body) =
      compared_in_items head ++ compared_if_there condition ++ compared_if_there step ++ compared_in_stmt body
  compared_in_stmt (Switch at value kind objects items) = compared_in value ++ compared_in_items items
  compared_in_stmt (Return at value) = compared_if_there value
  compared_in_stmt _ = []

  pub compared_in_items : TStmtTrees → List Comparison
  compared_in_items none = []
  compared_in_items (more item rest) = compared_in_stmt item ++ compared_in_items rest
