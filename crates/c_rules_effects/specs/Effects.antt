-- What an expression reads and writes, where the effects of each function are given (this profile's rule on the order of evaluation, C11 6.5p2 and p3).
use Rattle.std.specs.Prelude.{ℕ, Option, None, Some, option_map, unwrap_or, List, [], ◌∷◌, slice_get}
use Rattle.c_syntax_written.specs.declared.place.Pos.{Pos}
use Rattle.c_syntax.specs.TypedExpr.{TExprTree, Const, Null, Load, AddressOf, Decay, Whole, Unary, Binary, Convert, Assign, AssignStruct}
use Rattle.c_syntax.specs.TypedExpr.{Compound, Step, And, Or, Cond, Comma, Call, Any, Assume, Assert, TLvalueTree, Var, Deref, Member, TExprTrees}
use Rattle.c_syntax.specs.TypedExpr as exprs
use Rattle.c_syntax.specs.TypedStmt.{TInitTree, Store, Copy, TStmtTree, Expr, Block, Declare, If, While, DoWhile, For, Switch, Return, TStmtTrees, none, more}
use Rattle.c_rules_effects.specs.Places.{place_of}
use Rattle.c_rules_effects.specs.declared.effects.Effects.{Effects}
use Rattle.c_rules_effects.specs.Joined.{change_at, joined, nothing, read_at, write_at}

-- the effects of a call of this function, without those of the arguments
abbrev pub called : List Effects → ℕ → Effects
called known f = unwrap_or (slice_get known f) nothing

-- those of a value; of a place, which is named and not yet read; and of arguments
unfoldable mutual
  pub effects_of : List Effects → TExprTree → Effects
  effects_of known (Const at ty value) = nothing
  effects_of known (Null at ty) = nothing
  effects_of known (Load at place) = joined (effects_at known place) (read_at (place_of place))
  effects_of known (AddressOf at place) = effects_at known place
  effects_of known (Decay at place) = effects_at known place
  effects_of known (Whole at place) = joined (effects_at known place) (read_at (place_of place))
  effects_of known (Unary at op operand) = effects_of known operand
  effects_of known (Binary at op left right) = joined (effects_of known left) (effects_of known right)
  effects_of known (Convert at ty operand) = effects_of known operand
  effects_of known (Assign at place value) = joined (joined (effects_at known place) (effects_of known value)) (write_at (place_of place))
  effects_of known (AssignStruct at extent place source) = joined (joined (effects_at known place) (effects_of known source)) (write_at (place_of place))
  effects_of known (Compound at op place value) = joined (joined (effects_at known place) (effects_of known value)) (change_at (place_of place))
  effects_of known (Step at time way stride place) = joined (effects_at known place) (change_at (place_of place))
  effects_of known (And at left right) = joined (effects_of known left) (effects_of known right)
  effects_of known (Or at left right) = joined (effects_of known left) (effects_of known right)
  effects_of known (Cond at ty condition first second) = joined (joined (effects_of known condition) (effects_of known first)) (effects_of known second)
  effects_of known (Comma at left right) = joined (effects_of known left) (effects_of known right)
  effects_of known (Call at function ty used args) = joined (effects_among known args) (called known function)
  effects_of known (Any at ty) = nothing
  effects_of known (Assume at operand) = effects_of known operand
  effects_of known (Assert at operand) = effects_of known operand

  pub effects_at : List Effects → TLvalueTree → Effects
  effects_at known (Var at n ty is_const) = nothing
  effects_at known (Deref at kind ty is_const pointer) = effects_of known pointer
  effects_at known (Member at k offset ty is_const place) = effects_at known place

  pub effects_among : List Effects → TExprTrees → Effects
  effects_among known exprs.none = nothing
  effects_among known (exprs.more item rest) = joined (effects_of known item) (effects_among known rest)

-- those of an item of an initialiser, without the store into the object
abbrev pub init_effects : List Effects → TInitTree → Effects
init_effects known (Store offset ty value) = effects_of known value
init_effects known (Copy offset extent source) = effects_of known source

unfoldable pub inits_effects : List Effects → List TInitTree → Effects
inits_effects known [] = nothing
inits_effects known (init ∷ rest) = joined (init_effects known init) (inits_effects known rest)

abbrev pub effects_if_there : List Effects → Option TExprTree → Effects
effects_if_there known None = nothing
effects_if_there known (Some e) = effects_of known e

-- those of the expressions in a statement
unfoldable mutual
  pub effects_in : List Effects → TStmtTree → Effects
  effects_in known (Expr at value) = effects_of known value
  effects_in known (Block at kind objects items) = effects_in_items known items
  effects_in known (Declare at object inits zeroes_rest) = inits_effects known inits
  effects_in known (If at condition first second) = joined (joined (effects_of known condition) (effects_in known first)) (effects_in known second)
  effects_in known (While at condition body) = joined (effects_of known condition) (effects_in known body)
  effects_in known (DoWhile at body condition) = joined (effects_in known body) (effects_of known condition)
  effects_in known (For at objects head condition step body) =
      joined (joined (joined (effects_in_items known head) (effects_if_there known condition)) (effects_if_there known step)) (effects_in known body)
  effects_in known (Switch at value kind objects items) = joined (effects_of known value) (effects_in_items known items)
  effects_in known (Return at value) = effects_if_there known value
  effects_in known _ = nothing

  pub effects_in_items : List Effects → TStmtTrees → Effects
  effects_in_items known none = nothing
  effects_in_items known (more item rest) = joined (effects_in known item) (effects_in_items known rest)
