-- An item of a list is smaller than the list, and so than the node that holds it.
use Rattle.std.proofs.Common.{◌≡◌, ℕ, zero, suc, ◌+◌, ◌<◌, List, [], ◌∷◌, length, get_or, refl, ap, arith}
use Rattle.c_syntax_written.specs.declared.written.Expr.{Expr}
use Rattle.c_syntax_written.specs.declared.written.Spec.{Spec}
use Rattle.c_syntax_written.specs.declared.written.MemberDecl.{MemberDecl}
use Rattle.c_syntax_written.specs.declared.written.Enumerator.{Enumerator}
use Rattle.c_syntax_written.specs.declared.written.Declarator.{Declarator}
use Rattle.c_syntax_written.specs.declared.written.Param.{Param}
use Rattle.c_syntax_written.specs.declared.declaration.Init.{Init}
use Rattle.c_syntax_written.specs.declared.file.BlockItem.{BlockItem}
use Rattle.c_syntax_written.specs.Written.{expr_tree, exprs_from, spec_tree, specs_from, memberdecl_tree, memberdecls_from, enumerator_tree, enumerators_from, declarator_tree, declarators_from, param_tree, params_from}
use Rattle.c_syntax_written.specs.WrittenDecl.{init_tree, inits_from}
use Rattle.c_syntax_written.specs.WrittenFile.{blockitem_tree, blockitems_from}
use Rattle.c_syntax_written.specs.Sizes.{list_size, expr_size, exprs_size, spec_size, specs_size, memberdecl_size, memberdecls_size, enumerator_size, enumerators_size, declarator_size, declarators_size, param_size, params_size, init_size, inits_size, blockitem_size, blockitems_size}
use Rattle.c_syntax_written.proofs.WrittenTrees.{exprs_cons, specs_cons, memberdecls_cons, enumerators_cons, declarators_cons, params_cons}
use Rattle.c_syntax_written.proofs.WrittenDeclTrees.{inits_cons}
use Rattle.c_syntax_written.proofs.WrittenFileTrees.{blockitems_cons}

-- an item of a list is smaller than the list, by any size of items and lists where one item more counts one and what it holds
pub item_below : {A : Type 0} (size : A → ℕ) (total : List A → ℕ)
    → ((item : A) (rest : List A) → total (item ∷ rest) ≡ 1 + (size item + total rest))
    → (items : List A) (i : ℕ) (d : A) → i < length items → size (get_or items i d) < total items
item_below size total more [] i d h = absurd (omega arith)
item_below size total more (item ∷ rest) zero d h = omega (arith, more item rest)
item_below size total more (item ∷ rest) (suc i) d h = omega (arith, more item rest, item_below size total more rest i d (omega arith))

pub list_item : {A : Type 0} (size : A → ℕ) (items : List A) (i : ℕ) (d : A) → i < length items → size (get_or items i d) < list_size size items
list_item size items i d h = item_below size (list_size size) (λ item rest. refl) items i d h

pub exprs_item : (items : List Expr) (i : ℕ) (d : Expr) → i < length items → expr_size (expr_tree (get_or items i d)) < exprs_size (exprs_from items)
exprs_item = item_below (λ item. expr_size (expr_tree item)) (λ items. exprs_size (exprs_from items)) (λ item rest. ap exprs_size (exprs_cons item rest))

pub specs_item : (items : List Spec) (i : ℕ) (d : Spec) → i < length items → spec_size (spec_tree (get_or items i d)) < specs_size (specs_from items)
specs_item = item_below (λ item. spec_size (spec_tree item)) (λ items. specs_size (specs_from items)) (λ item rest. ap specs_size (specs_cons item rest))

pub memberdecls_item : (items : List MemberDecl) (i : ℕ) (d : MemberDecl) → i < length items → memberdecl_size (memberdecl_tree (get_or items i d)) < memberdecls_size (memberdecls_from items)
memberdecls_item = item_below (λ item. memberdecl_size (memberdecl_tree item)) (λ items. memberdecls_size (memberdecls_from items)) (λ item rest. ap memberdecls_size (memberdecls_cons item rest))

pub enumerators_item : (items : List Enumerator) (i : ℕ) (d : Enumerator) → i < length items → enumerator_size (enumerator_tree (get_or items i d)) < enumerators_size (enumerators_from items)
enumerators_item = item_below (λ item. enumerator_size (enumerator_tree item)) (λ items. enumerators_size (enumerators_from items)) (λ item rest. ap enumerators_size (enumerators_cons item rest))

pub declarators_item : (items : List Declarator) (i : ℕ) (d : Declarator) → i < length items → declarator_size (declarator_tree (get_or items i d)) < declarators_size (declarators_from items)
declarators_item = item_below (λ item. declarator_size (declarator_tree item)) (λ items. declarators_size (declarators_from items)) (λ item rest. ap declarators_size (declarators_cons item rest))

pub params_item : (items : List Param) (i : ℕ) (d : Param) → i < length items → param_size (param_tree (get_or items i d)) < params_size (params_from items)
params_item = item_below (λ item. param_size (param_tree item)) (λ items. params_size (params_from items)) (λ item rest. ap params_size (params_cons item rest))

pub inits_item : (items : List Init) (i : ℕ) (d : Init) → i < length items → init_size (init_tree (get_or items i d)) < inits_size (inits_from items)
inits_item = item_below (λ item. init_size (init_tree item)) (λ items. inits_size (inits_from items)) (λ item rest. ap inits_size (inits_cons item rest))

pub blockitems_item : (items : List BlockItem) (i : ℕ) (d : BlockItem) → i < length items → blockitem_size (blockitem_tree (get_or items i d)) < blockitems_size (blockitems_from items)
blockitems_item = item_below (λ item. blockitem_size (blockitem_tree item)) (λ items. blockitems_size (blockitems_from items)) (λ item rest. ap blockitems_size (blockitems_cons item rest))

pub ruleset the_written_sizes = (list_item, exprs_item, specs_item, memberdecls_item, enumerators_item, declarators_item, params_item, inits_item, blockitems_item)
