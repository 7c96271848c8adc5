-- Items one by one: of scopes, of initialisers and of parameters.
use Rattle.std.proofs.Common.{◌≡◌, ◌<◌, ◌+◌, ℕ, suc, List, [], ◌∷◌, ◌++◌, map, length, drop, get_or, refl, sym, ap, ◌∙◌, append_assoc, append-nil, arith}
use Rattle.std.specs.Prelude.{max, Option, None, Some}
use Rattle.std.proofs.Math.Seq.{drop-cons}
use Rattle.c_syntax.specs.declared.statement.TInit.{TInit}
use Rattle.c_syntax.specs.declared.statement.TStmt.{TStmt}
use Rattle.c_syntax_written.specs.declared.place.Pos.{Pos}
use Rattle.c_syntax.specs.TypedExpr.{TExprTree}
use Rattle.c_syntax.specs.TypedStmt.{Return, tinit_tree, tstmt_tree, tstmts_from}
use Rattle.c_syntax.specs.Program.{TProgramTree}
use Rattle.c_syntax.proofs.TypedStmtTrees.{tstmts_cons, tstmts_nil}
use Rattle.csharp.specs.declared.statement.CsStmt.{CsStmt}
use Rattle.csharp.specs.Trees.{CsStmtTree, CsStmtTrees, Store, Temp, none, more, csstmt_tree, csstmts_from}
use Rattle.csharp.proofs.CodeTrees.{csstmts_cons, csstmts_nil}
use Rattle.lower_trees.specs.Checking.{address_at}
use Rattle.lower_trees.specs.Temps.{temp_at}
use Rattle.lower_trees.specs.LowerStmt as statements
use Rattle.lower_trees.specs.LowerStmt.{Coded, Context, Items, init_code, inits_code, inits_top, lower_items, lower_stmt, with_last}
use Rattle.lower_trees.specs.LowerProgram.{param_scalar, param_stores, param_temps}
use Rattle.lower_zeros.specs.Named.{joined}
use Rattle.lower_stmt.specs.declared.listed.Listed.{Listed}
use Rattle.lower_stmt.specs.Views.{items_more, listed_before, no_items}

pub joined_push : (items : List CsStmt) (item : CsStmt) (rest : CsStmtTrees)
    → joined (csstmts_from (items ++ item ∷ [])) rest ≡ joined (csstmts_from items) (more (csstmt_tree item) rest)
joined_push [] item rest =
    ap (λ t. joined t rest) (csstmts_cons item [] ∙ ap (more (csstmt_tree item)) csstmts_nil) ∙ ap (λ t. joined t (more (csstmt_tree item) rest)) (sym csstmts_nil)
joined_push (first ∷ items) item rest =
    ap (λ t. joined t rest) (csstmts_cons first (items ++ item ∷ []))
    ∙ ap (more (csstmt_tree first)) (joined_push items item rest)
    ∙ ap (λ t. joined t (more (csstmt_tree item) rest)) (sym (csstmts_cons first items))

pub joined_none : (items : CsStmtTrees) → joined items none ≡ items
joined_none none = refl
joined_none (more item items) = ap (more item) (joined_none items)

pub last_push : (items : List CsStmt) (item : CsStmt) → csstmts_from (items ++ item ∷ []) ≡ with_last (csstmts_from items) (csstmt_tree item)
last_push [] item = csstmts_cons item [] ∙ ap (more (csstmt_tree item)) csstmts_nil ∙ ap (λ t. with_last t (csstmt_tree item)) (sym csstmts_nil)
last_push (first ∷ items) item =
    csstmts_cons first (items ++ item ∷ []) ∙ ap (more (csstmt_tree first)) (last_push items item)
    ∙ ap (λ t. with_last t (csstmt_tree item)) (sym (csstmts_cons first items))

abbrev items_of : CsStmtTrees → ℕ → Items
items_of items top = record { items = items; top = top }

pub same_items : (a b : CsStmtTrees) (n m : ℕ) → a ≡ b → n ≡ m → items_of a n ≡ items_of b m
same_items a b n m e f = ap (λ x. items_of x n) e ∙ ap (items_of b) f

pub greatest_of_three : (a b c : ℕ) → max (max a b) c ≡ max a (max b c)
greatest_of_three a b c = omega arith

-- ---- items of a scope
pub item_more : (p : TProgramTree) (d : ℕ) (k : Context) (old new : Listed) (items : List TStmt) (i : ℕ) (item : TStmt) (coded : Coded) (whole : Items)
    → i < length items → item ≡ get_or items i item → coded ≡ lower_stmt p d k (tstmt_tree item)
    → ((rest : Items) → listed_before new rest ≡ listed_before old (items_more coded rest))
    → listed_before old (lower_items p d k (tstmts_from (drop i items))) ≡ whole
    → listed_before new (lower_items p d k (tstmts_from (drop (i + 1) items))) ≡ whole
item_more p d k old new items i item coded whole below is made more_than before =
    let step : suc i ≡ i + 1 = omega arith in
    let cut : drop i items ≡ item ∷ drop (i + 1) items =
    drop-cons items i item below ∙ ap (λ j. get_or items i item ∷ drop j items) step ∙ ap (λ v. v ∷ drop (i + 1) items) (sym is) in
    let rest = lower_items p d k (tstmts_from (drop (i + 1) items)) in
    more_than rest
    ∙ ap (λ c. listed_before old (items_more c rest)) made
    ∙ ap (λ t. listed_before old (lower_items p d k t)) (sym (tstmts_cons item (drop (i + 1) items)))
    ∙ ap (λ xs. listed_before old (lower_items p d k (tstmts_from xs))) (sym cut)
    ∙ before

pub items_end : (p : TProgramTree) (d : ℕ) (k : Context) (all : Listed) (items : List TStmt) (whole : Items) → items ≡ []
    → listed_before all (lower_items p d k (tstmts_from items)) ≡ whole → listed_before all (no_items d) ≡ whole
items_end p d k all items whole e before =
    ap (λ t. listed_before all (lower_items p d k t)) (sym (ap tstmts_from e ∙ tstmts_nil)) ∙ before

-- ---- items of an initialiser
abbrev pub inits_before : TProgramTree → ℕ → ℕ → List TInit → CsStmtTrees → Items
inits_before p d x inits rest = items_of (inits_code p d x (map tinit_tree inits) rest) (inits_top p d x (map tinit_tree inits))

pub init_more : (p : TProgramTree) (d x : ℕ) (old new : Listed) (items : List TInit) (i : ℕ) (item : TInit) (coded : Coded) (rest : CsStmtTrees) (whole : Items)
    → i < length items → item ≡ get_or items i item → coded ≡ init_code p d x (tinit_tree item)
    → ((behind : Items) → listed_before new behind ≡ listed_before old (items_more coded behind))
    → listed_before old (inits_before p d x (drop i items) rest) ≡ whole
    → listed_before new (inits_before p d x (drop (i + 1) items) rest) ≡ whole
init_more p d x old new items i item coded rest whole below is made more_than before =
    let step : suc i ≡ i + 1 = omega arith in
    let cut : drop i items ≡ item ∷ drop (i + 1) items =
    drop-cons items i item below ∙ ap (λ j. get_or items i item ∷ drop j items) step ∙ ap (λ v. v ∷ drop (i + 1) items) (sym is) in
    more_than (inits_before p d x (drop (i + 1) items) rest)
    ∙ ap (λ c. listed_before old (items_more c (inits_before p d x (drop (i + 1) items) rest))) made
    ∙ ap (λ xs. listed_before old (inits_before p d x xs rest)) (sym cut)
    ∙ before

pub inits_end : (p : TProgramTree) (d x : ℕ) (all : Listed) (items : List TInit) (rest : CsStmtTrees) (whole : Items) → items ≡ []
    → listed_before all (inits_before p d x items rest) ≡ whole → listed_before all (items_of rest d) ≡ whole
inits_end p d x all items rest whole e before = ap (λ xs. listed_before all (inits_before p d x xs rest)) (sym e) ∙ before

-- a statement that uses no rows
pub no_rows_more : (a : CsStmtTree) (rest : Items) → items_more (statements.coded a 0) rest ≡ items_of (more a rest.items) rest.top
no_rows_more a rest = same_items _ _ _ _ refl (omega arith)

-- ---- parameters
abbrev pub params_before : TProgramTree → ℕ → List ℕ → Items → Items
params_before p d params rest = items_of (param_stores p d params rest.items) rest.top

pub param_more : (p : TProgramTree) (d next : ℕ) (old new : Listed) (items : List ℕ) (i : ℕ) (store : CsStmtTree) (rest whole : Items)
    → i < length items → next ≡ suc d
    → store ≡ Store (param_scalar p (get_or items i 0)) (address_at (get_or items i 0) 0) (Temp (temp_at d (param_scalar p (get_or items i 0))))
    → ((behind : Items) → listed_before new behind ≡ listed_before old (items_more (statements.coded store 0) behind))
    → listed_before old (params_before p d (drop i items) rest) ≡ whole
    → listed_before new (params_before p next (drop (i + 1) items) rest) ≡ whole
param_more p d next old new items i store rest whole below is_next made more_than before =
    let step : suc i ≡ i + 1 = omega arith in
    let x = get_or items i 0 in
    let cut : drop i items ≡ x ∷ drop (i + 1) items = drop-cons items i 0 below ∙ ap (λ j. x ∷ drop j items) step in
    more_than (params_before p next (drop (i + 1) items) rest)
    ∙ ap (λ n. listed_before old (items_more (statements.coded store 0) (params_before p n (drop (i + 1) items) rest))) is_next
    ∙ ap (λ s. listed_before old (items_more (statements.coded s 0) (params_before p (suc d) (drop (i + 1) items) rest))) made
    ∙ ap (listed_before old) (no_rows_more (Store (param_scalar p x) (address_at x 0) (Temp (temp_at d (param_scalar p x)))) (params_before p (suc d) (drop (i + 1) items) rest))
    ∙ ap (λ xs. listed_before old (params_before p d xs rest)) (sym cut)
    ∙ before

pub temp_more : (p : TProgramTree) (d next temp : ℕ) (temps items : List ℕ) (i : ℕ) (whole : List ℕ) → i < length items → next ≡ suc d
    → temp ≡ temp_at d (param_scalar p (get_or items i 0))
    → temps ++ param_temps p d (drop i items) ≡ whole → (temps ++ temp ∷ []) ++ param_temps p next (drop (i + 1) items) ≡ whole
temp_more p d next temp temps items i whole below is_next made before =
    let step : suc i ≡ i + 1 = omega arith in
    let x = get_or items i 0 in
    let cut : drop i items ≡ x ∷ drop (i + 1) items = drop-cons items i 0 below ∙ ap (λ j. x ∷ drop j items) step in
    append_assoc temps (temp ∷ []) (param_temps p next (drop (i + 1) items))
    ∙ ap (λ n. temps ++ (temp ∷ param_temps p n (drop (i + 1) items))) is_next
    ∙ ap (λ t. temps ++ (t ∷ param_temps p (suc d) (drop (i + 1) items))) made
    ∙ ap (λ xs. temps ++ param_temps p d xs) (sym cut)
    ∙ before

pub temps_end : (p : TProgramTree) (d : ℕ) (temps items whole : List ℕ) → items ≡ [] → temps ++ param_temps p d items ≡ whole → temps ≡ whole
temps_end p d temps items whole e before = sym (append-nil temps) ∙ ap (λ xs. temps ++ param_temps p d xs) (sym e) ∙ before

pub params_end : (p : TProgramTree) (d : ℕ) (all : Listed) (items : List ℕ) (rest whole : Items) → items ≡ []
    → listed_before all (params_before p d items rest) ≡ whole → listed_before all rest ≡ whole
params_end p d all items rest whole e before = ap (λ xs. listed_before all (params_before p d xs rest)) (sym e) ∙ before

-- what is around a return does not matter
pub return_same : (p : TProgramTree) (d : ℕ) (j k : Context) (at : Pos) (o : Option TExprTree) → lower_stmt p d j (Return at o) ≡ lower_stmt p d k (Return at o)
return_same p d j k at None = refl
return_same p d j k at (Some e) = refl
