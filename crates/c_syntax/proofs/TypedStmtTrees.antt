-- The trees of typed statements, by the constructors that the code has.
use Rattle.std.proofs.Common.{◌≡◌, ℕ, ℤ, Bool, List, [], ◌∷◌, ◌++◌, map, refl, ap, ◌∙◌}
use Rattle.std.specs.Prelude.{Option, option_map}
use Rattle.std.specs.declared.boxed.Box.{Box}
use Rattle.std.specs.declared.alloc.Global.{Global}
use Rattle.c_syntax_written.specs.declared.place.Pos.{Pos}
use Rattle.c_syntax.specs.declared.types.CType.{CType}
use Rattle.c_syntax.specs.declared.operator.Extent.{Extent}
use Rattle.c_syntax.specs.declared.typed.TExpr.{TExpr}
use Rattle.c_syntax.specs.declared.statement.BlockKind.{BlockKind}
use Rattle.c_syntax.specs.declared.statement.TInit.{TInit}
use Rattle.c_syntax.specs.declared.statement.TInit.TheVariants as inits
use Rattle.c_syntax.specs.declared.statement.TStmt.{TStmt, Row_of-TStmt, end_of-TStmt, more_of-TStmt, items-the_row-TStmt, items_hidden-the_row-TStmt-0}
use Rattle.c_syntax.specs.declared.statement.TStmt.TheBlock.{hidden-the_row-TStmt-0}
use Rattle.c_syntax.specs.declared.statement.TStmt.TheVariants as stmts
use Rattle.c_syntax.specs.declared.statement.TStmts.{TStmts}
use Rattle.c_syntax.specs.Types.{ctype_tree}
use Rattle.c_syntax.specs.TypedExpr.{texpr_tree}
use Rattle.c_syntax.specs.TypedStmt.{TStmtTrees, tinit_tree, tstmt_tree, tstmt_rows, tstmts_from, tstmts_tree, tstmts_then}
use Rattle.c_syntax.specs.TypedStmt as trees

pub tinit_store : (offset : ℕ) (ty : CType) (value : TExpr) → tinit_tree (inits.Store offset ty value) ≡ trees.Store offset (ctype_tree ty) (texpr_tree value)
unfolding tinit_tree
tinit_store offset ty value = refl

pub tinit_copy : (offset : ℕ) (extent : Extent) (source : TExpr) → tinit_tree (inits.Copy offset extent source) ≡ trees.Copy offset extent (texpr_tree source)
unfolding tinit_tree
tinit_copy offset extent source = refl

tstmts_rows : {m : _} (row : Row_of-TStmt m) → tstmt_rows row ≡ tstmts_from (items-the_row-TStmt m row)
unfolding tstmt_rows tstmts_from
tstmts_rows end_of-TStmt = refl
tstmts_rows (more_of-TStmt item rest) = ap (trees.more (tstmt_tree item)) (tstmts_rows rest)

-- the row of the items
tstmts_row : (list : TStmts) → tstmt_rows (hidden-the_row-TStmt-0 list.items) ≡ tstmts_tree list
tstmts_row list = tstmts_rows (hidden-the_row-TStmt-0 list.items) ∙ ap tstmts_from (items_hidden-the_row-TStmt-0 list.items)

pub tstmt_empty : (at : Pos) → tstmt_tree (stmts.Empty at) ≡ trees.Empty at
unfolding tstmt_tree
tstmt_empty at = refl

pub tstmt_expr : (at : Pos) (value : TExpr) → tstmt_tree (stmts.Expr at value) ≡ trees.Expr at (texpr_tree value)
unfolding tstmt_tree
tstmt_expr at value = refl

pub tstmt_block : (at : Pos) (kind : BlockKind) (objects : List ℕ) (items : TStmts) → tstmt_tree (stmts.Block at kind objects items) ≡ trees.Block at kind objects (tstmts_tree items)
unfolding tstmt_tree
tstmt_block at kind objects items = ap (trees.Block at kind objects) (tstmts_row items)

pub tstmt_declare : (at : Pos) (object : ℕ) (inits : List TInit) (zeroes_rest : Bool) → tstmt_tree (stmts.Declare at object inits zeroes_rest) ≡ trees.Declare at object (map tinit_tree inits) zeroes_rest
unfolding tstmt_tree
tstmt_declare at object inits zeroes_rest = refl

pub tstmt_static : (at : Pos) (object : ℕ) → tstmt_tree (stmts.Static at object) ≡ trees.Static at object
unfolding tstmt_tree
tstmt_static at object = refl

pub tstmt_if : (at : Pos) (condition : TExpr) (first : Box TStmt Global) (second : Box TStmt Global) → tstmt_tree (stmts.If at condition first second) ≡ trees.If at (texpr_tree condition) (tstmt_tree first.value) (tstmt_tree second.value)
unfolding tstmt_tree
tstmt_if at condition first second = refl

pub tstmt_while : (at : Pos) (condition : TExpr) (body : Box TStmt Global) → tstmt_tree (stmts.While at condition body) ≡ trees.While at (texpr_tree condition) (tstmt_tree body.value)
unfolding tstmt_tree
tstmt_while at condition body = refl

pub tstmt_do_while : (at : Pos) (body : Box TStmt Global) (condition : TExpr) → tstmt_tree (stmts.DoWhile at body condition) ≡ trees.DoWhile at (tstmt_tree body.value) (texpr_tree condition)
unfolding tstmt_tree
tstmt_do_while at body condition = refl

pub tstmt_for : (at : Pos) (objects : List ℕ) (head : TStmts) (condition : Option TExpr) (step : Option TExpr) (body : Box TStmt Global) → tstmt_tree (stmts.For at objects head condition step body) ≡ trees.For at objects (tstmts_tree head) (option_map texpr_tree condition) (option_map texpr_tree step) (tstmt_tree body.value)
unfolding tstmt_tree
tstmt_for at objects head condition step body = ap (λ (list : TStmtTrees). trees.For at objects list (option_map texpr_tree condition) (option_map texpr_tree step) (tstmt_tree body.value)) (tstmts_row head)

pub tstmt_switch : (at : Pos) (value : TExpr) (kind : BlockKind) (objects : List ℕ) (items : TStmts) → tstmt_tree (stmts.Switch at value kind objects items) ≡ trees.Switch at (texpr_tree value) kind objects (tstmts_tree items)
unfolding tstmt_tree
tstmt_switch at value kind objects items = ap (trees.Switch at (texpr_tree value) kind objects) (tstmts_row items)

pub tstmt_break : (at : Pos) → tstmt_tree (stmts.Break at) ≡ trees.Break at
unfolding tstmt_tree
tstmt_break at = refl

pub tstmt_continue : (at : Pos) → tstmt_tree (stmts.Continue at) ≡ trees.Continue at
unfolding tstmt_tree
tstmt_continue at = refl

pub tstmt_goto : (at : Pos) (label : ℕ) → tstmt_tree (stmts.Goto at label) ≡ trees.Goto at label
unfolding tstmt_tree
tstmt_goto at label = refl

pub tstmt_return : (at : Pos) (value : Option TExpr) → tstmt_tree (stmts.Return at value) ≡ trees.Return at (option_map texpr_tree value)
unfolding tstmt_tree
tstmt_return at value = refl

pub tstmt_label : (at : Pos) (label : ℕ) → tstmt_tree (stmts.Label at label) ≡ trees.Label at label
unfolding tstmt_tree
tstmt_label at label = refl

pub tstmt_case : (at : Pos) (value : ℤ) → tstmt_tree (stmts.Case at value) ≡ trees.Case at value
unfolding tstmt_tree
tstmt_case at value = refl

pub tstmt_default : (at : Pos) → tstmt_tree (stmts.Default at) ≡ trees.Default at
unfolding tstmt_tree
tstmt_default at = refl

pub tstmts_nil : tstmts_from [] ≡ trees.none
unfolding tstmts_from
tstmts_nil = refl

pub tstmts_cons : (item : TStmt) (rest : List TStmt) → tstmts_from (item ∷ rest) ≡ trees.more (tstmt_tree item) (tstmts_from rest)
unfolding tstmts_from
tstmts_cons item rest = refl

pub tstmts_push : (items : List TStmt) (last : TStmt) → tstmts_from (items ++ last ∷ []) ≡ tstmts_then (tstmts_from items) (tstmt_tree last)
unfolding tstmts_from tstmts_then
tstmts_push [] last = refl
tstmts_push (item ∷ items) last = ap (trees.more (tstmt_tree item)) (tstmts_push items last)

pub ruleset typed_stmt_trees = (tinit_store, tinit_copy, tstmt_empty, tstmt_expr, tstmt_block, tstmt_declare, tstmt_static, tstmt_if, tstmt_while, tstmt_do_while, tstmt_for, tstmt_switch, tstmt_break, tstmt_continue, tstmt_goto, tstmt_return, tstmt_label, tstmt_case, tstmt_default, tstmts_nil, tstmts_cons, tstmts_push)
