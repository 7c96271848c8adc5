-- The trees of typed statements whose parts are shared.
use Rattle.std.specs.Prelude.{List, [], ◌∷◌, map, Option, option_map}
use Rattle.std.specs.declared.rc.Rc.{Rc}
use Rattle.std.specs.declared.alloc.Global.{Global}
use Rattle.c_syntax.specs.Types.{ctype_tree}
use Rattle.c_syntax.specs.TypedExpr.{TExprTree}
use Rattle.c_syntax.specs.TypedStmt.{TInitTree, Store, Copy, TStmtTree, TStmtTrees, none, more}
use Rattle.c_syntax.specs.TypedStmt.{Empty, Expr, Block, Declare, Static, If, While, DoWhile, For, Switch, Break, Continue, Goto, Return, Label, Case, Default}
use Rattle.c_machine_trees.specs.declared.expression.SharedExpr.{SharedExpr}
use Rattle.c_machine_trees.specs.declared.statement.SharedInit.{SharedInit}
use Rattle.c_machine_trees.specs.declared.statement.SharedInit.TheVariants as inits
use Rattle.c_machine_trees.specs.declared.statement.SharedInits.{SharedInits}
use Rattle.c_machine_trees.specs.declared.statement.SharedStmt.{SharedStmt, Row_of-SharedStmts-items-1, end_of-SharedStmts-items-1, more_of-SharedStmts-items-1}
use Rattle.c_machine_trees.specs.declared.statement.SharedStmt.TheVariants as stmts
use Rattle.c_machine_trees.specs.declared.statement.SharedStmts.{SharedStmts}
use Rattle.c_machine_trees.specs.Expressions.{expr_tree}

-- the tree of an expression that may be missing
abbrev pub option_tree : Option (Rc SharedExpr Global) → Option TExprTree
option_tree e = option_map (λ (share : Rc SharedExpr Global). expr_tree share.value) e

unfoldable pub init_tree : SharedInit → TInitTree
init_tree (inits.Store offset ty value) = Store offset (ctype_tree ty) (expr_tree value.value)
init_tree (inits.Copy offset extent source) = Copy offset extent (expr_tree source.value)

abbrev pub inits_from : List SharedInit → List TInitTree
inits_from items = map init_tree items

abbrev pub inits_tree : SharedInits → List TInitTree
inits_tree list = inits_from list.items.items

unfoldable mutual
  pub stmt_tree : SharedStmt → TStmtTree
  stmt_tree (stmts.Empty at) = Empty at
  stmt_tree (stmts.Expr at value) = Expr at (expr_tree value.value)
  stmt_tree (stmts.Block' at kind objects items_share items_shape items) = Block at kind objects.value (stmt_rows items)
  stmt_tree (stmts.Declare at object inits zeroes_rest) = Declare at object (inits_tree inits.value) zeroes_rest
  stmt_tree (stmts.Static at object) = Static at object
  stmt_tree (stmts.If' at condition first_share first second_share second) = If at (expr_tree condition.value) (stmt_tree first) (stmt_tree second)
  stmt_tree (stmts.While' at condition body_share body) = While at (expr_tree condition.value) (stmt_tree body)
  stmt_tree (stmts.DoWhile' at body_share body condition) = DoWhile at (stmt_tree body) (expr_tree condition.value)
  stmt_tree (stmts.For' at objects head_share head_shape head condition step body_share body) =
      For at objects.value (stmt_rows head) (option_tree condition) (option_tree step) (stmt_tree body)
  stmt_tree (stmts.Switch' at value kind objects items_share items_shape items) = Switch at (expr_tree value.value) kind objects.value (stmt_rows items)
  stmt_tree (stmts.Break at) = Break at
  stmt_tree (stmts.Continue at) = Continue at
  stmt_tree (stmts.Goto at label) = Goto at label
  stmt_tree (stmts.Return at value) = Return at (option_tree value)
  stmt_tree (stmts.Label at label) = Label at label
  stmt_tree (stmts.Case at value) = Case at value
  stmt_tree (stmts.Default at) = Default at

  pub stmt_rows : {m : _} → Row_of-SharedStmts-items-1 m → TStmtTrees
  stmt_rows end_of-SharedStmts-items-1 = none
  stmt_rows (more_of-SharedStmts-items-1 share item rest) = more (stmt_tree item) (stmt_rows rest)

unfoldable pub stmts_from : List (Rc SharedStmt Global) → TStmtTrees
stmts_from [] = none
stmts_from (item ∷ rest) = more (stmt_tree item.value) (stmts_from rest)

abbrev pub stmts_tree : SharedStmts → TStmtTrees
stmts_tree list = stmts_from list.items.items
