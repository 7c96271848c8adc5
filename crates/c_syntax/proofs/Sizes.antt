-- An item of a typed list is smaller than the list, and so than the node that holds it.
use Rattle.std.proofs.Common.{ℕ, ◌<◌, List, map, length, get_or, refl, ap}
use Rattle.c_syntax.specs.declared.typed.TExpr.{TExpr}
use Rattle.c_syntax.specs.declared.statement.TStmt.{TStmt}
use Rattle.c_syntax.specs.declared.statement.TInit.{TInit}
use Rattle.c_syntax.specs.TypedExpr.{texpr_tree, texprs_from}
use Rattle.c_syntax.specs.TypedStmt.{tinit_tree, tstmt_tree, tstmts_from}
use Rattle.c_syntax_written.specs.Sizes.{list_size}
use Rattle.c_syntax.specs.Sizes.{texpr_size, texprs_size, tinit_size, tstmt_size, tstmts_size}
use Rattle.c_syntax_written.proofs.Sizes.{item_below}
use Rattle.c_syntax.proofs.TypedExprTrees.{texprs_cons}
use Rattle.c_syntax.proofs.TypedStmtTrees.{tstmts_cons}

pub texprs_item : (items : List TExpr) (i : ℕ) (d : TExpr) → i < length items → texpr_size (texpr_tree (get_or items i d)) < texprs_size (texprs_from items)
texprs_item = item_below (λ item. texpr_size (texpr_tree item)) (λ items. texprs_size (texprs_from items)) (λ item rest. ap texprs_size (texprs_cons item rest))

pub tstmts_item : (items : List TStmt) (i : ℕ) (d : TStmt) → i < length items → tstmt_size (tstmt_tree (get_or items i d)) < tstmts_size (tstmts_from items)
tstmts_item = item_below (λ item. tstmt_size (tstmt_tree item)) (λ items. tstmts_size (tstmts_from items)) (λ item rest. ap tstmts_size (tstmts_cons item rest))

pub tinits_item : (items : List TInit) (i : ℕ) (d : TInit) → i < length items → tinit_size (tinit_tree (get_or items i d)) < list_size tinit_size (map tinit_tree items)
tinits_item = item_below (λ item. tinit_size (tinit_tree item)) (λ items. list_size tinit_size (map tinit_tree items)) (λ item rest. refl)

pub ruleset the_typed_sizes = (texprs_item, tstmts_item, tinits_item)
