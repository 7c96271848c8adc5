-- The trees of typed statements whose parts are shared, by the constructors that the code has.
use Rattle.std.proofs.Common.{◌≡◌, ℕ, ℤ, Bool, List, [], ◌∷◌, refl, ap, ◌∙◌}
use Rattle.std.specs.Prelude.{Option}
use Rattle.std.specs.declared.rc.Rc.{Rc}
use Rattle.std.specs.declared.alloc.Global.{Global}
use Rattle.c_syntax_written.specs.declared.place.Pos.{Pos}
use Rattle.c_syntax.specs.declared.types.CType.{CType}
use Rattle.c_syntax.specs.declared.operator.Extent.{Extent}
use Rattle.c_syntax.specs.declared.statement.BlockKind.{BlockKind}
use Rattle.c_syntax.specs.Types.{ctype_tree}
use Rattle.c_syntax.specs.TypedStmt.{TStmtTrees}
use Rattle.c_syntax.specs.TypedStmt as trees
use Rattle.c_machine_trees.specs.declared.expression.SharedExpr.{SharedExpr}
use Rattle.c_machine_trees.specs.declared.statement.SharedInit.TheVariants as inits
use Rattle.c_machine_trees.specs.declared.statement.SharedInits.{SharedInits}
use Rattle.c_machine_trees.specs.declared.statement.SharedStmt.{SharedStmt, Row_of-SharedStmts-items-1, end_of-SharedStmts-items-1, more_of-SharedStmts-items-1}
use Rattle.c_machine_trees.specs.declared.statement.SharedStmt.{items-the_row-SharedStmts-items-1, items_hidden-the_row-SharedStmts-items-1-0}
use Rattle.c_machine_trees.specs.declared.statement.SharedStmt.TheBlock.{hidden-the_row-SharedStmts-items-1-0}
use Rattle.c_machine_trees.specs.declared.statement.SharedStmt.TheVariants as stmts
use Rattle.c_machine_trees.specs.declared.statement.SharedStmts.{SharedStmts}
use Rattle.c_machine_trees.specs.Expressions.{expr_tree}
use Rattle.c_machine_trees.specs.Statements.{init_tree, inits_tree, option_tree, stmt_tree, stmt_rows, stmts_from, stmts_tree}

pub init_store : (offset : ℕ) (ty : CType) (value : Rc SharedExpr Global)
    → init_tree (inits.Store offset ty value) ≡ trees.Store offset (ctype_tree ty) (expr_tree value.value)
unfolding init_tree
init_store offset ty value = refl

pub init_copy : (offset : ℕ) (extent : Extent) (source : Rc SharedExpr Global)
    → init_tree (inits.Copy offset extent source) ≡ trees.Copy offset extent (expr_tree source.value)
unfolding init_tree
init_copy offset extent source = refl

stmts_rows : {m : _} (row : Row_of-SharedStmts-items-1 m) → stmt_rows row ≡ stmts_from (items-the_row-SharedStmts-items-1 m row)
unfolding stmt_rows stmts_from
stmts_rows end_of-SharedStmts-items-1 = refl
stmts_rows (more_of-SharedStmts-items-1 share item rest) = ap (trees.more (stmt_tree item)) (stmts_rows rest)

-- the row of the items
stmts_row : (list : SharedStmts) → stmt_rows (hidden-the_row-SharedStmts-items-1-0 list.items) ≡ stmts_tree list
stmts_row list = stmts_rows (hidden-the_row-SharedStmts-items-1-0 list.items) ∙ ap stmts_from (items_hidden-the_row-SharedStmts-items-1-0 list.items)

pub stmt_empty : (at : Pos) → stmt_tree (stmts.Empty at) ≡ trees.Empty at
unfolding stmt_tree
stmt_empty at = refl

pub stmt_expr : (at : Pos) (value : Rc SharedExpr Global) → stmt_tree (stmts.Expr at value) ≡ trees.Expr at (expr_tree value.value)
unfolding stmt_tree
stmt_expr at value = refl

pub stmt_block : (at : Pos) (kind : BlockKind) (objects : Rc (List ℕ) Global) (items : Rc SharedStmts Global)
    → stmt_tree (stmts.Block at kind objects items) ≡ trees.Block at kind objects.value (stmts_tree items.value)
unfolding stmt_tree
stmt_block at kind objects items = ap (trees.Block at kind objects.value) (stmts_row items.value)

pub stmt_declare : (at : Pos) (object : ℕ) (inits : Rc SharedInits Global) (zeroes_rest : Bool)
    → stmt_tree (stmts.Declare at object inits zeroes_rest) ≡ trees.Declare at object (inits_tree inits.value) zeroes_rest
unfolding stmt_tree
stmt_declare at object inits zeroes_rest = refl

pub stmt_static : (at : Pos) (object : ℕ) → stmt_tree (stmts.Static at object) ≡ trees.Static at object
unfolding stmt_tree
stmt_static at object = refl

pub stmt_if : (at : Pos) (condition : Rc SharedExpr Global) (first : Rc SharedStmt Global) (second : Rc SharedStmt Global)
    → stmt_tree (stmts.If at condition first second) ≡ trees.If at (expr_tree condition.value) (stmt_tree first.value) (stmt_tree second.value)
unfolding stmt_tree
stmt_if at condition first second = refl

pub stmt_while : (at : Pos) (condition : Rc SharedExpr Global) (body : Rc SharedStmt Global)
    → stmt_tree (stmts.While at condition body) ≡ trees.While at (expr_tree condition.value) (stmt_tree body.value)
unfolding stmt_tree
stmt_while at condition body = refl

pub stmt_do_while : (at : Pos) (body : Rc SharedStmt Global) (condition : Rc SharedExpr Global)
    → stmt_tree (stmts.DoWhile at body condition) ≡ trees.DoWhile at (stmt_tree body.value) (expr_tree condition.value)
unfolding stmt_tree
stmt_do_while at body condition = refl

pub stmt_for : (at : Pos) (objects : Rc (List ℕ) Global) (head : Rc SharedStmts Global) (condition : Option (Rc SharedExpr Global)) (step : Option (Rc SharedExpr Global)) (body : Rc SharedStmt Global)
    → stmt_tree (stmts.For at objects head condition step body) ≡ trees.For at objects.value (stmts_tree head.value) (option_tree condition) (option_tree step) (stmt_tree body.value)
unfolding stmt_tree
stmt_for at objects head condition step body = ap (λ (list : TStmtTrees). trees.For at objects.value list (option_tree condition) (option_tree step) (stmt_tree body.value)) (stmts_row head.value)

pub stmt_switch : (at : Pos) (value : Rc SharedExpr Global) (kind : BlockKind) (objects : Rc (List ℕ) Global) (items : Rc SharedStmts Global)
    → stmt_tree (stmts.Switch at value kind objects items) ≡ trees.Switch at (expr_tree value.value) kind objects.value (stmts_tree items.value)
unfolding stmt_tree
stmt_switch at value kind objects items = ap (trees.Switch at (expr_tree value.value) kind objects.value) (stmts_row items.value)

pub stmt_break : (at : Pos) → stmt_tree (stmts.Break at) ≡ trees.Break at
unfolding stmt_tree
stmt_break at = refl

pub stmt_continue : (at : Pos) → stmt_tree (stmts.Continue at) ≡ trees.Continue at
unfolding stmt_tree
stmt_continue at = refl

pub stmt_goto : (at : Pos) (label : ℕ) → stmt_tree (stmts.Goto at label) ≡ trees.Goto at label
unfolding stmt_tree
stmt_goto at label = refl

pub stmt_return : (at : Pos) (value : Option (Rc SharedExpr Global)) → stmt_tree (stmts.Return at value) ≡ trees.Return at (option_tree value)
unfolding stmt_tree
stmt_return at value = refl

pub stmt_label : (at : Pos) (label : ℕ) → stmt_tree (stmts.Label at label) ≡ trees.Label at label
unfolding stmt_tree
stmt_label at label = refl

pub stmt_case : (at : Pos) (value : ℤ) → stmt_tree (stmts.Case at value) ≡ trees.Case at value
unfolding stmt_tree
stmt_case at value = refl

pub stmt_default : (at : Pos) → stmt_tree (stmts.Default at) ≡ trees.Default at
unfolding stmt_tree
stmt_default at = refl

pub stmts_nil : stmts_from [] ≡ trees.none
unfolding stmts_from
stmts_nil = refl

pub stmts_cons : (item : Rc SharedStmt Global) (rest : List (Rc SharedStmt Global))
    → stmts_from (item ∷ rest) ≡ trees.more (stmt_tree item.value) (stmts_from rest)
unfolding stmts_from
stmts_cons item rest = refl

pub ruleset shared_stmt_trees = (
  init_store,
  init_copy,
  stmt_empty,
  stmt_expr,
  stmt_block,
  stmt_declare,
  stmt_static,
  stmt_if,
  stmt_while,
  stmt_do_while,
  stmt_for,
  stmt_switch,
  stmt_break,
  stmt_continue,
  stmt_goto,
  stmt_return,
  stmt_label,
  stmt_case,
  stmt_default,
  stmts_nil,
  stmts_cons,
)
