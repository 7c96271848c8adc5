-- The lowering of statements. Each full expression begins at the function's first row.
use Rattle.std.specs.Prelude.{ℕ, suc, max, Bool, true, false, List, [], ◌∷◌, Option, Some, None}
use Rattle.c_syntax_written.specs.declared.place.Pos.{Pos}
use Rattle.c_syntax.specs.TypedExpr.{TExprTree}
use Rattle.c_syntax.specs.TypedStmt as c
use Rattle.c_syntax.specs.TypedStmt.{TInitTree, TStmtTree, TStmtTrees}
use Rattle.c_syntax.specs.Program.{TProgramTree}
use Rattle.c_values.specs.Values.{scalar_of}
use Rattle.c_objects.specs.Opening.{size_of}
use Rattle.c_objects.specs.Writing.{is_named}
use Rattle.csharp.specs.Trees.{CsStmtTree, Nothing, Store, CopyBytes, Undefine, Sequence, Loop, Block, Exit, Scope, Switch, Goto, Return, Label}
use Rattle.csharp.specs.Trees.{Case, Default, CsStmtTrees, none, more}
use Rattle.lower_trees.specs.Checking.{address_at}
use Rattle.lower_trees.specs.Zeros.{object_scalars, zero_cells}
use Rattle.lower_trees.specs.LowerExpr.{Lowered, or_int, branch, lower_expr}

-- ---- what is around a statement: a loop, whose body stands in two blocks; a switch, in one; or a block that no `break` leaves
pub data Context : Type 0 where
  InLoop : Context
  InSwitch : Context → Context
  Past : Context → Context

-- outside of all loops no break stands, so any number serves
abbrev pub break_level : Context → ℕ
break_level InLoop = 1
break_level (InSwitch k) = 0
break_level (Past k) = suc (break_level k)

abbrev pub continue_level : Context → ℕ
continue_level InLoop = 0
continue_level (InSwitch k) = suc (continue_level k)
continue_level (Past k) = suc (continue_level k)

-- code, and how many rows it uses
pub record Coded : Type 0 where
  pub code : CsStmtTree
  pub top : ℕ

abbrev pub coded : CsStmtTree → ℕ → Coded
coded code top = record { code = code; top = top }

pub record Items : Type 0 where
  pub items : CsStmtTrees
  pub top : ℕ

abbrev pub effect : Lowered → Coded
effect a = coded a.before a.top

-- ---- initialisers: each item into the object, in their order, and what none of them names becomes 0
abbrev pub init_code : TProgramTree → ℕ → ℕ → TInitTree → Coded
init_code p d x (c.Store offset ty value) =
    coded (Sequence (lower_expr p d value).value.before (Store (or_int (scalar_of ty)) (address_at x offset) (lower_expr p d value).value.value))
    (lower_expr p d value).value.top
init_code p d x (c.Copy offset extent source) =
    coded (Sequence ((lower_expr p d source).source extent.size extent.align).before
    (CopyBytes extent.size (address_at x offset) ((lower_expr p d source).source extent.size extent.align).value))
    ((lower_expr p d source).source extent.size extent.align).top

abbrev pub rest_code : TProgramTree → ℕ → List TInitTree → Bool → CsStmtTrees
rest_code p x inits true = zero_cells (object_scalars p x) (is_named inits) x 0 0 (size_of p.objects x) none
rest_code p x inits false = none

abbrev pub inits_code : TProgramTree → ℕ → ℕ → List TInitTree → CsStmtTrees → CsStmtTrees
inits_code p d x [] rest = rest
inits_code p d x (init ∷ inits) rest = more (init_code p d x init).code (inits_code p d x inits rest)

abbrev pub inits_top : TProgramTree → ℕ → ℕ → List TInitTree → ℕ
inits_top p d x [] = d
inits_top p d x (init ∷ inits) = max (init_code p d x init).top (inits_top p d x inits)

-- ---- loops: a turn is a test, which leaves the loop's block, the body in a block, and the step
abbrev pub test_of : TProgramTree → ℕ → Pos → Option TExprTree → Coded
test_of p d at None = coded Nothing d
test_of p d at (Some e) = coded ((lower_expr p d e).unless at 0) (lower_expr p d e).value.top

abbrev pub step_of : TProgramTree → ℕ → Option TExprTree → Coded
step_of p d None = coded Nothing d
step_of p d (Some e) = effect (lower_expr p d e).value

abbrev pub loop_code : Pos → Coded → Coded → Coded → Coded
loop_code at test body step = coded (Block (Loop at (Sequence test.code (Sequence (Block body.code) step.code)))) (max test.top (max body.top step.top))

abbrev pub do_code : Pos → Coded → Coded → Coded
do_code at test body = coded (Block (Loop at (Sequence (Block body.code) test.code))) (max test.top body.top)

abbrev pub scope_code : List ℕ → Items → Coded
scope_code xs all = coded (Scope xs all.items) all.top

abbrev pub with_last : CsStmtTrees → CsStmtTree → CsStmtTrees
with_last none last = more last none
with_last (more item rest) last = more item (with_last rest last)

abbrev mutual
  pub lower_stmt : TProgramTree → ℕ → Context → TStmtTree → Coded
  lower_stmt p d k (c.Empty at) = coded Nothing d
  lower_stmt p d k (c.Expr at e) = effect (lower_expr p d e).value
  lower_stmt p d k (c.Block at kind xs items) = scope_code xs (lower_items p d k items)
  lower_stmt p d k (c.Declare at x inits zeroes_rest) =
      coded (Scope [] (more (Undefine x) (inits_code p d x inits (rest_code p x inits zeroes_rest)))) (inits_top p d x inits)
  lower_stmt p d k (c.Static at x) = coded Nothing d
  lower_stmt p d k (c.If at e a b) =
      coded (branch ((lower_expr p d e).unless at 0) (lower_stmt p d (Past (Past k)) a).code (lower_stmt p d (Past k) b).code)
      (max (lower_expr p d e).value.top (max (lower_stmt p d (Past (Past k)) a).top (lower_stmt p d (Past k) b).top))
  lower_stmt p d k (c.While at e b) = loop_code at (test_of p d at (Some e)) (lower_stmt p d InLoop b) (coded Nothing d)
  lower_stmt p d k (c.DoWhile at b e) = do_code at (test_of p d at (Some e)) (lower_stmt p d InLoop b)
  lower_stmt p d k (c.For at xs head e step b) =
      coded (Scope xs (with_last (lower_items p d k head).items (loop_code at (test_of p d at e) (lower_stmt p d InLoop b) (step_of p d step)).code))
      (max (lower_items p d k head).top (loop_code at (test_of p d at e) (lower_stmt p d InLoop b) (step_of p d step)).top)
  lower_stmt p d k (c.Switch at e kind xs items) =
      coded (Sequence (lower_expr p d e).value.before (Block (Switch (lower_expr p d e).value.value xs (lower_items p d (InSwitch k) items).items)))
      (max (lower_expr p d e).value.top (lower_items p d (InSwitch k) items).top)
  lower_stmt p d k (c.Break at) = coded (Exit (break_level k)) d
  lower_stmt p d k (c.Continue at) = coded (Exit (continue_level k)) d
  lower_stmt p d k (c.Goto at label) = coded (Goto label) d
  lower_stmt p d k (c.Return at None) = coded (Return None) d
  lower_stmt p d k (c.Return at (Some e)) =
      coded (Sequence (lower_expr p d e).value.before (Return (Some (lower_expr p d e).value.value))) (lower_expr p d e).value.top
  lower_stmt p d k (c.Label at label) = coded (Label at label) d
  lower_stmt p d k (c.Case at n) = coded (Case n) d
  lower_stmt p d k (c.Default at) = coded Default d

  pub lower_items : TProgramTree → ℕ → Context → TStmtTrees → Items
  lower_items p d k c.none = record { items = none; top = d }
  lower_items p d k (c.more item rest) =
      record { items = more (lower_stmt p d k item).code (lower_items p d k rest).items; top = max (lower_stmt p d k item).top (lower_items p d k rest).top }
