-- The first of a list of places, and lists of statements item by item.
use Rattle.std.proofs.Common.{◌≡◌, ℕ, ◌+◌, ◌<◌, Bool, true, false, ◌||◌, List, [], ◌∷◌, ◌++◌, length, take, drop, get_or, Some, None, refl, sym, subst, ap, ◌∙◌, rules, append_assoc, append-nil}
use Rattle.std.specs.Prelude.{slice_get, fold}
use Rattle.std.proofs.lemmas.List.{take_more, take-append-drop}
use Rattle.c_syntax_written.specs.declared.place.Pos.{Pos}
use Rattle.c_syntax.specs.declared.statement.TStmt.{TStmt}
use Rattle.c_syntax.specs.declared.statement.TStmt.TheVariants as codes
use Rattle.c_syntax.specs.TypedStmt.{TStmtTree, TStmtTrees, tstmt_tree, tstmts_from}
use Rattle.c_syntax.specs.TypedStmt as stmts
use Rattle.c_syntax.proofs.TypedStmtTrees.{tstmts_nil, tstmts_cons}
use Rattle.c_layout.specs.Jumps.{labels_among}
use Rattle.c_rules_calls.specs.Gotos.{around_of, has_label, own_label, strays, strays_among}
use Rattle.c_rules_calls.proofs.GotoForms.{stray_none, stray_more}
use Rattle.c_rules_calls.proofs.Known.{any_joined}

-- ---- the first of a list

pub none_first : {A : Type 0} (xs : List A) → None ≡ slice_get xs 0 → xs ≡ []
none_first [] e = refl
none_first (x ∷ xs) e = absurd (none_some e) where
  none_some : {A : Type 0} {x : A} → None ≡ Some x → ⊥
  none_some e = search rules

pub first_there : {A : Type 0} (xs ys : List A) (x : A) → Some x ≡ slice_get xs 0 → Some x ≡ slice_get (xs ++ ys) 0
first_there [] ys x e = absurd (some_none e) where
  some_none : {A : Type 0} {x : A} → Some x ≡ None → ⊥
  some_none e = search rules
first_there (y ∷ xs) ys x e = e

-- ---- statements, item by item

pub among_split : (around : List ℕ) (xs ys : List TStmt) → strays_among around (tstmts_from (xs ++ ys)) ≡ strays_among around (tstmts_from xs) ++ strays_among around (tstmts_from ys)
among_split around [] ys =
    sym (ap (λ rest. rest ++ strays_among around (tstmts_from ys)) (ap (strays_among around) tstmts_nil ∙ stray_none around))
among_split around (x ∷ xs) ys =
    ap (strays_among around) (tstmts_cons x (xs ++ ys)) ∙ stray_more around (tstmt_tree x) (tstmts_from (xs ++ ys))
    ∙ ap (λ rest. strays around (tstmt_tree x) ++ rest) (among_split around xs ys)
    ∙ sym (append_assoc (strays around (tstmt_tree x)) (strays_among around (tstmts_from xs)) (strays_among around (tstmts_from ys)))
    ∙ sym (ap (λ rest. rest ++ strays_among around (tstmts_from ys))
    (ap (strays_among around) (tstmts_cons x xs) ∙ stray_more around (tstmt_tree x) (tstmts_from xs)))

one_item : (around : List ℕ) (x : TStmt) → strays_among around (tstmts_from (x ∷ [])) ≡ strays around (tstmt_tree x)
one_item around x =
    ap (strays_among around) (tstmts_cons x []) ∙ stray_more around (tstmt_tree x) (tstmts_from [])
    ∙ ap (λ rest. strays around (tstmt_tree x) ++ rest) (ap (strays_among around) tstmts_nil ∙ stray_none around) ∙ append-nil (strays around (tstmt_tree x))

-- one item more without strays
pub still_none : (around : List ℕ) (items : List TStmt) (i : ℕ) (item : TStmt) → i < length items → item ≡ get_or items i item
    → strays_among around (tstmts_from (take i items)) ≡ [] → strays around (tstmt_tree item) ≡ [] → strays_among around (tstmts_from (take (i + 1) items)) ≡ []
still_none around items i item less is before none =
    ap (λ xs. strays_among around (tstmts_from xs)) (take_more items i item less ∙ ap (λ x. take i items ++ x ∷ []) (sym is))
    ∙ among_split around (take i items) (item ∷ []) ∙ ap (λ xs. xs ++ strays_among around (tstmts_from (item ∷ []))) before ∙ one_item around item ∙ none

-- an item with strays, where none before it has any
pub found_at : (around : List ℕ) (items : List TStmt) (i : ℕ) (item : TStmt) (place : Pos) → i < length items → item ≡ get_or items i item
    → strays_among around (tstmts_from (take i items)) ≡ [] → Some place ≡ slice_get (strays around (tstmt_tree item)) 0
    → Some place ≡ slice_get (strays_among around (tstmts_from items)) 0
found_at around items i item place less is before first =
    let front : strays_among around (tstmts_from (take (i + 1) items)) ≡ strays around (tstmt_tree item) =
    ap (λ xs. strays_among around (tstmts_from xs)) (take_more items i item less ∙ ap (λ x. take i items ++ x ∷ []) (sym is))
    ∙ among_split around (take i items) (item ∷ []) ∙ ap (λ xs. xs ++ strays_among around (tstmts_from (item ∷ []))) before ∙ one_item around item in
    let whole : strays_among around (tstmts_from items) ≡ strays_among around (tstmts_from (take (i + 1) items)) ++ strays_among around (tstmts_from (drop (i + 1) items)) =
    ap (λ xs. strays_among around (tstmts_from xs)) (sym (take-append-drop (i + 1) items)) ∙ among_split around (take (i + 1) items) (drop (i + 1) items) in
    subst (λ xs. Some place ≡ slice_get xs 0) (sym whole)
    (first_there (strays_among around (tstmts_from (take (i + 1) items))) (strays_among around (tstmts_from (drop (i + 1) items))) place
    (subst (λ xs. Some place ≡ slice_get xs 0) (sym front) first))

-- ---- labels of a block

labels_cons : (s : TStmtTree) (rest : TStmtTrees) → labels_among (stmts.more s rest) ≡ own_label s ++ labels_among rest
unfolding labels_among
labels_cons (stmts.Label at label) rest = refl
labels_cons _ rest = refl

labels_end : labels_among stmts.none ≡ []
unfolding labels_among
labels_end = refl

labels_push : (items : List TStmt) (item : TStmt) → labels_among (tstmts_from (items ++ item ∷ [])) ≡ labels_among (tstmts_from items) ++ own_label (tstmt_tree item)
labels_push [] item =
    ap labels_among (tstmts_cons item []) ∙ labels_cons (tstmt_tree item) (tstmts_from [])
    ∙ ap (λ rest. own_label (tstmt_tree item) ++ rest) (ap labels_among tstmts_nil ∙ labels_end) ∙ append-nil (own_label (tstmt_tree item))
    ∙ sym (ap (λ front. front ++ own_label (tstmt_tree item)) (ap labels_among tstmts_nil ∙ labels_end))
labels_push (first ∷ items) item =
    ap labels_among (tstmts_cons first (items ++ item ∷ [])) ∙ labels_cons (tstmt_tree first) (tstmts_from (items ++ item ∷ []))
    ∙ ap (λ rest. own_label (tstmt_tree first) ++ rest) (labels_push items item)
    ∙ sym (append_assoc (own_label (tstmt_tree first)) (labels_among (tstmts_from items)) (own_label (tstmt_tree item)))
    ∙ sym (ap (λ front. front ++ own_label (tstmt_tree item)) (ap labels_among (tstmts_cons first items) ∙ labels_cons (tstmt_tree first) (tstmts_from items)))

pub labels_nil : [] ≡ labels_among (tstmts_from [])
labels_nil = sym (ap labels_among tstmts_nil ∙ labels_end)

pub more_labels : (items : List TStmt) (i : ℕ) (item : TStmt) → i < length items → item ≡ get_or items i item
    → labels_among (tstmts_from (take (i + 1) items)) ≡ labels_among (tstmts_from (take i items)) ++ own_label (tstmt_tree item)
more_labels items i item less is =
    ap (λ xs. labels_among (tstmts_from xs)) (take_more items i item less ∙ ap (λ x. take i items ++ x ∷ []) (sym is)) ∙ labels_push (take i items) item

pub not_a_label : (s : TStmt) → ((at : Pos) (label : ℕ) → s ≡ codes.Label at label → ⊥) → [] ≡ own_label (tstmt_tree s)
unfolding tstmt_tree
not_a_label (codes.Label at label) n = absurd (n at label refl)
not_a_label _ n = refl

-- ---- labels around

pub around_push : (blocks : List (List ℕ)) (labels : List ℕ) → around_of (blocks ++ labels ∷ []) ≡ labels ++ around_of blocks
around_push blocks labels = from blocks [] where
  from : (blocks : List (List ℕ)) (around : List ℕ) → fold (λ around labels. labels ++ around) around (blocks ++ labels ∷ [])
      ≡ labels ++ fold (λ around labels. labels ++ around) around blocks
  from [] around = refl
  from (b ∷ blocks) around = from blocks (b ++ around)

or_true : (a b : Bool) → b ≡ true → a || b ≡ true
or_true true b e = refl
or_true false b e = e

still_has : (blocks : List (List ℕ)) (around : List ℕ) (label : ℕ) → has_label around label ≡ true
    → has_label (fold (λ around labels. labels ++ around) around blocks) label ≡ true
still_has [] around label e = e
still_has (b ∷ blocks) around label e = still_has blocks (b ++ around) label (any_joined label b around ∙ or_true (has_label b label) (has_label around label) e)

fold_joined : (xs ys : List (List ℕ)) (around : List ℕ) → fold (λ around labels. labels ++ around) around (xs ++ ys)
    ≡ fold (λ around labels. labels ++ around) (fold (λ around labels. labels ++ around) around xs) ys
fold_joined [] ys around = refl
fold_joined (x ∷ xs) ys around = fold_joined xs ys (x ++ around)

-- one block more
pub around_more : (blocks : List (List ℕ)) (i : ℕ) (d : List ℕ) → i < length blocks → around_of (take (i + 1) blocks) ≡ get_or blocks i d ++ around_of (take i blocks)
around_more blocks i d less = ap around_of (take_more blocks i d less) ∙ around_push (take i blocks) (get_or blocks i d)

pub none_more : (blocks : List (List ℕ)) (i : ℕ) (d : List ℕ) (label : ℕ) → i < length blocks → has_label (around_of (take i blocks)) label ≡ false
    → has_label (get_or blocks i d) label ≡ false → has_label (around_of (take (i + 1) blocks)) label ≡ false
none_more blocks i d label less before here =
    ap (λ xs. has_label xs label) (around_more blocks i d less) ∙ any_joined label (get_or blocks i d) (around_of (take i blocks))
    ∙ ap (λ b. b || has_label (around_of (take i blocks)) label) here ∙ before

pub one_has : (blocks : List (List ℕ)) (i : ℕ) (d : List ℕ) (label : ℕ) → i < length blocks → has_label (get_or blocks i d) label ≡ true
    → true ≡ has_label (around_of blocks) label
one_has blocks i d label less here =
    let front : has_label (around_of (take (i + 1) blocks)) label ≡ true =
    ap (λ xs. has_label xs label) (around_more blocks i d less) ∙ any_joined label (get_or blocks i d) (around_of (take i blocks))
    ∙ ap (λ b. b || has_label (around_of (take i blocks)) label) here in
    sym (ap (λ xs. has_label (around_of xs) label) (sym (take-append-drop (i + 1) blocks))
    ∙ ap (λ xs. has_label xs label) (fold_joined (take (i + 1) blocks) (drop (i + 1) blocks) [])
    ∙ still_has (drop (i + 1) blocks) (around_of (take (i + 1) blocks)) label front)
