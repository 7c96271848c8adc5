-- One bounded run: programs that read no input and jump forwards alone, and how often loops turn (this profile).
use Rattle.std.specs.Prelude.{◌≡◌, ◌≢◌, ◌≤◌, ℕ, Bool, true, false, ◌||◌, List, [], ◌∷◌, ◌++◌, All, AllPairs, IfSome, Option, Some, None, ℤ}
use Rattle.c_syntax.specs.TypedExpr.{TExprTree, Const, Null, Load, AddressOf, Decay, Whole, Unary, Binary, Convert, Assign, AssignStruct}
use Rattle.c_syntax.specs.TypedExpr.{Compound, Step, And, Or, Cond, Comma, Call, Any, Assume, Assert, TLvalueTree, Var, Deref, Member, TExprTrees}
use Rattle.c_syntax.specs.TypedExpr as exprs
use Rattle.c_syntax.specs.TypedStmt.{TInitTree, Store, Copy, TStmtTree, Expr, Block, Declare, If, While, DoWhile, For, Switch, Goto, Return, Label}
use Rattle.c_syntax.specs.TypedStmt.{TStmtTrees, none, more}
use Rattle.c_syntax.specs.Program.{TProgramTree}
use Rattle.c_steps.specs.Work.{Item, Begin, Turn, Again}
use Rattle.c_steps.specs.Runs.{after}

-- an input is read somewhere in an expression
unfoldable mutual
  pub reads_input : TExprTree → Bool
  reads_input (Load at place) = reads_input_at place
  reads_input (AddressOf at place) = reads_input_at place
  reads_input (Decay at place) = reads_input_at place
  reads_input (Whole at place) = reads_input_at place
  reads_input (Unary at op operand) = reads_input operand
  reads_input (Binary at op left right) = reads_input left || reads_input right
  reads_input (Convert at ty operand) = reads_input operand
  reads_input (Assign at place value) = reads_input_at place || reads_input value
  reads_input (AssignStruct at extent place source) = reads_input_at place || reads_input source
  reads_input (Compound at op place value) = reads_input_at place || reads_input value
  reads_input (Step at time way stride place) = reads_input_at place
  reads_input (And at left right) = reads_input left || reads_input right
  reads_input (Or at left right) = reads_input left || reads_input right
  reads_input (Cond at ty condition first second) = reads_input condition || reads_input first || reads_input second
  reads_input (Comma at left right) = reads_input left || reads_input right
  reads_input (Call at f ty used args) = one_reads_input args
  reads_input (Any at t) = true
  reads_input (Assume at operand) = reads_input operand
  reads_input (Assert at operand) = reads_input operand
  reads_input e = false

  pub reads_input_at : TLvalueTree → Bool
  reads_input_at (Var at x ty is_const) = false
  reads_input_at (Deref at kind ty is_const pointer) = reads_input pointer
  reads_input_at (Member at k offset ty is_const place) = reads_input_at place

  pub one_reads_input : TExprTrees → Bool
  one_reads_input exprs.none = false
  one_reads_input (exprs.more item rest) = reads_input item || one_reads_input rest

abbrev pub maybe_reads_input : Option TExprTree → Bool
maybe_reads_input None = false
maybe_reads_input (Some e) = reads_input e

abbrev pub inits_read_input : List TInitTree → Bool
inits_read_input [] = false
inits_read_input (Store offset ty value ∷ inits) = reads_input value || inits_read_input inits
inits_read_input (Copy offset extent source ∷ inits) = reads_input source || inits_read_input inits

-- an input is read somewhere in a statement
unfoldable mutual
  pub stmt_reads_input : TStmtTree → Bool
  stmt_reads_input (Expr at e) = reads_input e
  stmt_reads_input (Block at kind objects items) = items_read_input items
  stmt_reads_input (Declare at x inits zeroes_rest) = inits_read_input inits
  stmt_reads_input (If at condition first second) = reads_input condition || stmt_reads_input first || stmt_reads_input second
  stmt_reads_input (While at condition body) = reads_input condition || stmt_reads_input body
  stmt_reads_input (DoWhile at body condition) = stmt_reads_input body || reads_input condition
  stmt_reads_input (For at objects head condition step body) =
      items_read_input head || maybe_reads_input condition || maybe_reads_input step || stmt_reads_input body
  stmt_reads_input (Switch at value kind objects items) = reads_input value || items_read_input items
  stmt_reads_input (Return at value) = maybe_reads_input value
  stmt_reads_input _ = false

  pub items_read_input : TStmtTrees → Bool
  items_read_input none = false
  items_read_input (more item rest) = stmt_reads_input item || items_read_input rest

-- no input is read anywhere in the program
abbrev pub IsInputFree : TProgramTree → Type 0
IsInputFree p = All (λ function. IfSome function.body (λ body. stmt_reads_input body ≡ false)) p.functions

-- a label that stands, or one to which a goto jumps
pub data LabelUse : Type 0 where
  Stands : ℕ → LabelUse
  IsJumpedTo : ℕ → LabelUse

-- the labels and gotos of a statement, in the order of the text
unfoldable mutual
  pub label_uses : TStmtTree → List LabelUse
  label_uses (Block at kind objects items) = label_uses_in items
  label_uses (If at condition first second) = label_uses first ++ label_uses second
  label_uses (While at condition body) = label_uses body
  label_uses (DoWhile at body condition) = label_uses body
  label_uses (For at objects head condition step body) = label_uses_in head ++ label_uses body
  label_uses (Switch at value kind objects items) = label_uses_in items
  label_uses (Goto at label) = IsJumpedTo label ∷ []
  label_uses (Label at label) = Stands label ∷ []
  label_uses _ = []

  pub label_uses_in : TStmtTrees → List LabelUse
  label_uses_in none = []
  label_uses_in (more item rest) = label_uses item ++ label_uses_in rest

-- the second is not a goto to the label that the first one is
abbrev pub IsNoJumpBack : LabelUse → LabelUse → Type 0
IsNoJumpBack (Stands label) (IsJumpedTo k) = label ≢ k
IsNoJumpBack first second = Unit {0}

-- no goto names a label that stands before it in the text
abbrev pub IsForwardOnly : TProgramTree → Type 0
IsForwardOnly p = All (λ function. IfSome function.body (λ body. AllPairs IsNoJumpBack (label_uses body))) p.functions

-- an item of a loop whose body was begun at most so often since the loop was entered
abbrev pub IsWithin : ℕ → Item → Type 0
IsWithin bound (Begin k loop) = k ≤ bound
IsWithin bound (Turn k loop) = k ≤ bound
IsWithin bound (Again k loop) = k ≤ bound
IsWithin bound item = Unit {0}

-- in a run no entry of a loop has more turns than the bound, where a turn is a start of the loop's body
abbrev pub TurnsWithin : TProgramTree → ℕ → List ℤ → ℕ → Type 0
TurnsWithin p main inputs bound = (n : ℕ) → All (IsWithin bound) (after p main inputs n).work

-- in the one run of a program that reads no input
abbrev pub Turns : TProgramTree → ℕ → ℕ → Type 0
Turns p main bound = TurnsWithin p main [] bound
