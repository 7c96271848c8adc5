-- How many statements a function has with those of the functions that it calls, once for each call (this profile).
use Rattle.std.specs.Prelude.{◌≡◌, ◌+◌, ◌-◌, ◌^◌, ℕ, min, Option, option_map, unwrap_or, List, map, get_or}
use Rattle.std.specs.List.{sum_by}
use Rattle.c_syntax.specs.declared.statement.BlockKind.{BlockKind}
use Rattle.c_syntax.specs.declared.statement.BlockKind.TheVariants as kinds
use Rattle.c_syntax.specs.TypedStmt.{TStmtTree, Expr, Block, If, While, DoWhile, For, Switch, TStmtTrees, none, more}
use Rattle.c_syntax.specs.Program.{TFunctionTree, TProgramTree}
use Rattle.c_layout.specs.Calls.{PlacedCall}
use Rattle.c_rules_calls.specs.Graph.{calls_from, IsDefined}

-- a block that stands in the source is a statement, one that was put round a statement is none
abbrev pub blocks_of : BlockKind → ℕ
blocks_of kinds.Written = 1
blocks_of kinds.Added = 0

-- an item of the head of a `for` declares one object, or is an expression
abbrev pub declares : TStmtTree → ℕ
declares (Expr at value) = 0
declares item = 1

-- the objects that the head of a `for` declares
unfoldable pub declared_by : TStmtTrees → ℕ
declared_by none = 0
declared_by (more item rest) = declares item + declared_by rest

-- the statements in a statement, itself, labels and cases among them, and the objects that it declares
unfoldable mutual
  pub statements_in : TStmtTree → ℕ
  statements_in (Block at kind objects items) = blocks_of kind + statements_among items
  statements_in (If at condition first second) = 1 + (statements_in first + statements_in second)
  statements_in (While at condition body) = 1 + statements_in body
  statements_in (DoWhile at body condition) = 1 + statements_in body
  statements_in (For at objects head condition step body) = 1 + (declared_by head + statements_in body)
  statements_in (Switch at value kind objects items) = 1 + (blocks_of kind + statements_among items)
  statements_in _ = 1

  pub statements_among : TStmtTrees → ℕ
  statements_among none = 0
  statements_among (more item rest) = statements_in item + statements_among rest

-- those in a body, whose own block is no statement of it
abbrev pub body_size : TStmtTree → ℕ
body_size (Block at kind objects items) = statements_among items
body_size s = statements_in s

-- those of a function, where it has a body
abbrev pub function_size : TFunctionTree → ℕ
function_size function = unwrap_or (option_map body_size function.body) 0

abbrev pub sizes_of : TProgramTree → List ℕ
sizes_of program = map function_size program.functions

-- numbers that grow as the inlined sizes do: each is the function's own size and that of each call
abbrev pub AreInlined : List (Option (List PlacedCall)) → List ℕ → (ℕ → ℕ) → Type 0
AreInlined graph sizes inlined = (f : ℕ) → IsDefined graph f
    → inlined f ≡ get_or sizes f 0 + sum_by (λ call. inlined call.callee) (calls_from graph f)

-- a number of 64 bits, which ends at the greatest
abbrev pub ended : ℕ → ℕ
ended n = min n (2 ^ 64 - 1)

-- the inlined size of a function, or the greatest number of 64 bits where that is less
pub record IsInlinedSize (graph : List (Option (List PlacedCall))) (sizes : List ℕ) (f n : ℕ) : Type 0 where
  pub inlined : ℕ → ℕ
  pub grow : AreInlined graph sizes inlined
  pub is : n ≡ ended (inlined f)
