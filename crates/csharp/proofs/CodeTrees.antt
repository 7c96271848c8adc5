-- The trees of expressions and statements, by the constructors that the code has; and an item of a list is smaller than the list.
use Rattle.std.proofs.Common.{◌≡◌, ◌<◌, ℕ, ℤ, List, [], ◌∷◌, map, length, get_or, refl, ap, ◌∙◌}
use Rattle.std.specs.Prelude.{Option, option_map}
use Rattle.std.specs.declared.boxed.Box.{Box}
use Rattle.std.specs.declared.alloc.Global.{Global}
use Rattle.c_syntax_written.specs.declared.place.Pos.{Pos}
use Rattle.c_syntax_written.specs.declared.int_type.IntType.{IntType}
use Rattle.c_syntax_written.specs.Sizes.{list_size}
use Rattle.c_syntax_written.proofs.Sizes.{item_below}
use Rattle.c_syntax.specs.declared.operator.TUnaryOp.{TUnaryOp}
use Rattle.c_syntax.specs.declared.operator.TBinaryOp.{TBinaryOp}
use Rattle.block_mem.specs.declared.types.Scalar.{Scalar}
use Rattle.csharp.specs.declared.expression.CsExpr.{CsExpr}
use Rattle.csharp.specs.declared.expression.CsExpr.TheVariants as exprs
use Rattle.csharp.specs.declared.expression.CsCheck.{CsCheck}
use Rattle.csharp.specs.declared.statement.CsCall.{CsCall}
use Rattle.csharp.specs.declared.statement.CsStmt.{CsStmt, Row_of-CsStmt, end_of-CsStmt, more_of-CsStmt, items-the_row-CsStmt, items_hidden-the_row-CsStmt-0}
use Rattle.csharp.specs.declared.statement.CsStmt.TheBlock.{hidden-the_row-CsStmt-0}
use Rattle.csharp.specs.declared.statement.CsStmt.TheVariants as stmts
use Rattle.csharp.specs.declared.statement.CsStmts.{CsStmts}
use Rattle.csharp.specs.Trees as trees
use Rattle.csharp.specs.Trees.{CsStmtTrees, csexpr_tree, cscheck_tree, cscall_tree, csstmt_tree, csstmt_rows, csstmts_from, csstmts_tree}
use Rattle.csharp.specs.Sizes.{csexpr_size, csstmt_size, csstmts_size}

pub csexpr_const : (ty : IntType) (value : ℤ) → csexpr_tree (exprs.Const ty value) ≡ trees.Const ty value
unfolding csexpr_tree
csexpr_const ty value = refl

pub csexpr_null : csexpr_tree exprs.Null ≡ trees.Null
unfolding csexpr_tree
csexpr_null = refl

pub csexpr_temp : (temp : ℕ) → csexpr_tree (exprs.Temp temp) ≡ trees.Temp temp
unfolding csexpr_tree
csexpr_temp temp = refl

pub csexpr_address : (object : ℕ) → csexpr_tree (exprs.Address object) ≡ trees.Address object
unfolding csexpr_tree
csexpr_address object = refl

pub csexpr_unary : (op : TUnaryOp) (operand : Box CsExpr Global) → csexpr_tree (exprs.Unary op operand) ≡ trees.Unary op (csexpr_tree operand.value)
unfolding csexpr_tree
csexpr_unary op operand = refl

pub csexpr_binary : (op : TBinaryOp) (left : Box CsExpr Global) (right : Box CsExpr Global) → csexpr_tree (exprs.Binary op left right) ≡ trees.Binary op (csexpr_tree left.value) (csexpr_tree right.value)
unfolding csexpr_tree
csexpr_binary op left right = refl

pub csexpr_convert : (ty : IntType) (operand : Box CsExpr Global) → csexpr_tree (exprs.Convert ty operand) ≡ trees.Convert ty (csexpr_tree operand.value)
unfolding csexpr_tree
csexpr_convert ty operand = refl

csstmts_rows : {m : _} (row : Row_of-CsStmt m) → csstmt_rows row ≡ csstmts_from (items-the_row-CsStmt m row)
unfolding csstmt_rows csstmts_from
csstmts_rows end_of-CsStmt = refl
csstmts_rows (more_of-CsStmt item rest) = ap (trees.more (csstmt_tree item)) (csstmts_rows rest)

-- the row of the items
csstmts_row : (list : CsStmts) → csstmt_rows (hidden-the_row-CsStmt-0 list.items) ≡ csstmts_tree list
csstmts_row list = csstmts_rows (hidden-the_row-CsStmt-0 list.items) ∙ ap csstmts_from (items_hidden-the_row-CsStmt-0 list.items)

pub csstmt_nothing : csstmt_tree stmts.Nothing ≡ trees.Nothing
unfolding csstmt_tree
csstmt_nothing = refl

pub csstmt_set : (temp : ℕ) (value : CsExpr) → csstmt_tree (stmts.Set temp value) ≡ trees.Set temp (csexpr_tree value)
unfolding csstmt_tree
csstmt_set temp value = refl

pub csstmt_load : (temp : ℕ) (ty : Scalar) (address : CsExpr) → csstmt_tree (stmts.Load temp ty address) ≡ trees.Load temp ty (csexpr_tree address)
unfolding csstmt_tree
csstmt_load temp ty address = refl

pub csstmt_store : (ty : Scalar) (address : CsExpr) (value : CsExpr) → csstmt_tree (stmts.Store ty address value) ≡ trees.Store ty (csexpr_tree address) (csexpr_tree value)
unfolding csstmt_tree
csstmt_store ty address value = refl

pub csstmt_copy : (size : ℕ) (to : CsExpr) (from : CsExpr) → csstmt_tree (stmts.CopyBytes size to from) ≡ trees.CopyBytes size (csexpr_tree to) (csexpr_tree from)
unfolding csstmt_tree
csstmt_copy size to from = refl

pub csstmt_undefine : (object : ℕ) → csstmt_tree (stmts.Undefine object) ≡ trees.Undefine object
unfolding csstmt_tree
csstmt_undefine object = refl

pub csstmt_checked : (check : CsCheck) → csstmt_tree (stmts.Checked check) ≡ trees.Checked (cscheck_tree check)
unfolding csstmt_tree
csstmt_checked check = refl

pub csstmt_input : (temp : ℕ) (ty : IntType) → csstmt_tree (stmts.Input temp ty) ≡ trees.Input temp ty
unfolding csstmt_tree
csstmt_input temp ty = refl

pub csstmt_assume : (condition : CsExpr) → csstmt_tree (stmts.Assume condition) ≡ trees.Assume (csexpr_tree condition)
unfolding csstmt_tree
csstmt_assume condition = refl

pub csstmt_sequence : (first : Box CsStmt Global) (second : Box CsStmt Global) → csstmt_tree (stmts.Sequence first second) ≡ trees.Sequence (csstmt_tree first.value) (csstmt_tree second.value)
unfolding csstmt_tree
csstmt_sequence first second = refl

pub csstmt_if : (condition : CsExpr) (first : Box CsStmt Global) (second : Box CsStmt Global) → csstmt_tree (stmts.If condition first second) ≡ trees.If (csexpr_tree condition) (csstmt_tree first.value) (csstmt_tree second.value)
unfolding csstmt_tree
csstmt_if condition first second = refl

pub csstmt_loop : (at : Pos) (body : Box CsStmt Global) → csstmt_tree (stmts.Loop at body) ≡ trees.Loop at (csstmt_tree body.value)
unfolding csstmt_tree
csstmt_loop at body = refl

pub csstmt_block : (body : Box CsStmt Global) → csstmt_tree (stmts.Block body) ≡ trees.Block (csstmt_tree body.value)
unfolding csstmt_tree
csstmt_block body = refl

pub csstmt_exit : (level : ℕ) → csstmt_tree (stmts.Exit level) ≡ trees.Exit level
unfolding csstmt_tree
csstmt_exit level = refl

pub csstmt_scope : (objects : List ℕ) (items : CsStmts) → csstmt_tree (stmts.Scope objects items) ≡ trees.Scope objects (csstmts_tree items)
unfolding csstmt_tree
csstmt_scope objects items = ap (trees.Scope objects) (csstmts_row items)

pub csstmt_switch : (value : CsExpr) (objects : List ℕ) (items : CsStmts) → csstmt_tree (stmts.Switch value objects items) ≡ trees.Switch (csexpr_tree value) objects (csstmts_tree items)
unfolding csstmt_tree
csstmt_switch value objects items = ap (trees.Switch (csexpr_tree value) objects) (csstmts_row items)

pub csstmt_goto : (label : ℕ) → csstmt_tree (stmts.Goto label) ≡ trees.Goto label
unfolding csstmt_tree
csstmt_goto label = refl

pub csstmt_call : (call : CsCall) → csstmt_tree (stmts.Call call) ≡ trees.Call (cscall_tree call)
unfolding csstmt_tree
csstmt_call call = refl

pub csstmt_return : (value : Option CsExpr) → csstmt_tree (stmts.Return value) ≡ trees.Return (option_map csexpr_tree value)
unfolding csstmt_tree
csstmt_return value = refl

pub csstmt_label : (at : Pos) (label : ℕ) → csstmt_tree (stmts.Label at label) ≡ trees.Label at label
unfolding csstmt_tree
csstmt_label at label = refl

pub csstmt_case : (value : ℤ) → csstmt_tree (stmts.Case value) ≡ trees.Case value
unfolding csstmt_tree
csstmt_case value = refl

pub csstmt_default : csstmt_tree stmts.Default ≡ trees.Default
unfolding csstmt_tree
csstmt_default = refl

pub csstmts_nil : csstmts_from [] ≡ trees.none
unfolding csstmts_from
csstmts_nil = refl

pub csstmts_cons : (item : CsStmt) (rest : List CsStmt) → csstmts_from (item ∷ rest) ≡ trees.more (csstmt_tree item) (csstmts_from rest)
unfolding csstmts_from
csstmts_cons item rest = refl

pub ruleset the_code_trees = (csexpr_const, csexpr_null, csexpr_temp, csexpr_address, csexpr_unary, csexpr_binary, csexpr_convert, csstmt_nothing, csstmt_set, csstmt_load, csstmt_store, csstmt_copy, csstmt_undefine, csstmt_checked, csstmt_input, csstmt_assume, csstmt_sequence, csstmt_if, csstmt_loop, csstmt_block, csstmt_exit, csstmt_scope, csstmt_switch, csstmt_goto, csstmt_call, csstmt_return, csstmt_label, csstmt_case, csstmt_default, csstmts_nil, csstmts_cons)

pub csexprs_item : (items : List CsExpr) (i : ℕ) (d : CsExpr) → i < length items → csexpr_size (csexpr_tree (get_or items i d)) < list_size csexpr_size (map csexpr_tree items)
csexprs_item = item_below (λ item. csexpr_size (csexpr_tree item)) (λ items. list_size csexpr_size (map csexpr_tree items)) (λ item rest. refl)

pub csstmts_item : (items : List CsStmt) (i : ℕ) (d : CsStmt) → i < length items → csstmt_size (csstmt_tree (get_or items i d)) < csstmts_size (csstmts_from items)
csstmts_item = item_below (λ item. csstmt_size (csstmt_tree item)) (λ items. csstmts_size (csstmts_from items)) (λ item rest. ap csstmts_size (csstmts_cons item rest))

pub ruleset the_code_sizes = (csexprs_item, csstmts_item)
