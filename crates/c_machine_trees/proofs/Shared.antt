-- A list that is shared item by item, where each share has the tree of what was gone through.
use Rattle.std.proofs.Common.{◌≡◌, ℕ, ◌+◌, ◌<◌, List, [], ◌∷◌, ◌++◌, map, length, take, get_or, refl, sym, ap, ◌∙◌}
use Rattle.std.specs.declared.rc.Rc.{Rc}
use Rattle.std.specs.declared.alloc.Global.{Global}
use Rattle.std.proofs.lemmas.List.{take_more}
use Rattle.c_syntax.specs.declared.typed.TExpr.{TExpr}
use Rattle.c_syntax.specs.declared.statement.TInit.{TInit}
use Rattle.c_syntax.specs.declared.statement.TStmt.{TStmt}
use Rattle.c_syntax.specs.TypedExpr.{texpr_tree, texprs_from, texprs_then, more}
use Rattle.c_syntax.specs.TypedStmt.{tinit_tree, tstmt_tree, tstmts_from, tstmts_then}
use Rattle.c_syntax.specs.TypedStmt as stmts
use Rattle.c_syntax.proofs.TypedExprTrees.{texprs_push}
use Rattle.c_syntax.proofs.TypedStmtTrees.{tstmts_push}
use Rattle.c_machine_trees.specs.declared.expression.SharedExpr.{SharedExpr}
use Rattle.c_machine_trees.specs.declared.statement.SharedInit.{SharedInit}
use Rattle.c_machine_trees.specs.declared.statement.SharedStmt.{SharedStmt}
use Rattle.c_machine_trees.specs.Expressions.{expr_tree, exprs_from}
use Rattle.c_machine_trees.specs.Statements.{init_tree, inits_from, stmt_tree, stmts_from}

-- two lists, each of which grows by its items' trees at the end, are one tree up to the next item
one_more : {A B T L : Type 0} (of_shares : List A → L) (of_items : List B → L) (then : L → T → L) (share_tree : A → T) (item_tree : B → T)
    → ((shares : List A) (last : A) → of_shares (shares ++ last ∷ []) ≡ then (of_shares shares) (share_tree last))
    → ((items : List B) (last : B) → of_items (items ++ last ∷ []) ≡ then (of_items items) (item_tree last))
    → (shares : List A) (items : List B) (i : ℕ) (share : A) (item : B) → i < length items
    → of_shares shares ≡ of_items (take i items) → item ≡ get_or items i item → share_tree share ≡ item_tree item
    → of_shares (shares ++ share ∷ []) ≡ of_items (take (i + 1) items)
one_more of_shares of_items then share_tree item_tree shares_push items_push shares items i share item h e is same =
    shares_push shares share
    ∙ ap (λ rest. then rest (share_tree share)) e
    ∙ ap (then (of_items (take i items))) same
    ∙ sym (items_push (take i items) item)
    ∙ ap of_items (ap (λ x. take i items ++ x ∷ []) is ∙ sym (take_more items i item h))

exprs_push : (shares : List (Rc SharedExpr Global)) (last : Rc SharedExpr Global)
    → exprs_from (shares ++ last ∷ []) ≡ texprs_then (exprs_from shares) (expr_tree last.value)
unfolding exprs_from texprs_then
exprs_push [] last = refl
exprs_push (share ∷ shares) last = ap (more (expr_tree share.value)) (exprs_push shares last)

stmts_push : (shares : List (Rc SharedStmt Global)) (last : Rc SharedStmt Global)
    → stmts_from (shares ++ last ∷ []) ≡ tstmts_then (stmts_from shares) (stmt_tree last.value)
unfolding stmts_from tstmts_then
stmts_push [] last = refl
stmts_push (share ∷ shares) last = ap (stmts.more (stmt_tree share.value)) (stmts_push shares last)

map_push : {A B : Type 0} (f : A → B) (items : List A) (last : A) → map f (items ++ last ∷ []) ≡ map f items ++ f last ∷ []
map_push f [] last = refl
map_push f (item ∷ items) last = ap (λ rest. f item ∷ rest) (map_push f items last)

pub one_more_expr : (shares : List (Rc SharedExpr Global)) (items : List TExpr) (i : ℕ) (share : Rc SharedExpr Global) (item : TExpr)
    → i < length items → exprs_from shares ≡ texprs_from (take i items) → item ≡ get_or items i item → expr_tree share.value ≡ texpr_tree item
    → exprs_from (shares ++ share ∷ []) ≡ texprs_from (take (i + 1) items)
one_more_expr = one_more exprs_from texprs_from texprs_then (λ share. expr_tree share.value) texpr_tree exprs_push texprs_push

pub one_more_stmt : (shares : List (Rc SharedStmt Global)) (items : List TStmt) (i : ℕ) (share : Rc SharedStmt Global) (item : TStmt)
    → i < length items → stmts_from shares ≡ tstmts_from (take i items) → item ≡ get_or items i item → stmt_tree share.value ≡ tstmt_tree item
    → stmts_from (shares ++ share ∷ []) ≡ tstmts_from (take (i + 1) items)
one_more_stmt = one_more stmts_from tstmts_from tstmts_then (λ share. stmt_tree share.value) tstmt_tree stmts_push tstmts_push

pub one_more_init : (shares : List SharedInit) (items : List TInit) (i : ℕ) (share : SharedInit) (item : TInit)
    → i < length items → inits_from shares ≡ map tinit_tree (take i items) → item ≡ get_or items i item → init_tree share ≡ tinit_tree item
    → inits_from (shares ++ share ∷ []) ≡ map tinit_tree (take (i + 1) items)
one_more_init = one_more inits_from (map tinit_tree) (λ items last. items ++ last ∷ []) init_tree tinit_tree (map_push init_tree) (map_push tinit_tree)
