-- Statements that stand behind others.
use Rattle.std.proofs.Common.{◌≡◌, refl, ap, sym, ◌∙◌, ℕ, List, [], ◌∷◌, ◌++◌}
use Rattle.std.proofs.lemmas.List.{append-nil}
use Rattle.c_syntax.specs.declared.statement.TStmt.{TStmt}
use Rattle.c_syntax.specs.TypedStmt.{TStmtTrees, none, more, tstmt_tree, tstmts_from}
use Rattle.c_typing.specs.Decls.{Made, both, made_then}
use Rattle.c_typing.specs.Stmts.{one, with_items}

pub both_from : (xs ys : List TStmt) → tstmts_from (xs ++ ys) ≡ both (tstmts_from xs) (tstmts_from ys)
unfolding tstmts_from both
both_from [] ys = refl
both_from (x ∷ xs) ys = ap (more (tstmt_tree x)) (both_from xs ys)

pub one_from : (s : TStmt) → tstmts_from (s ∷ []) ≡ one (tstmt_tree s)
unfolding tstmts_from
one_from s = refl

abbrev pub tree_of : List ℕ → List TStmt → Made
tree_of objects items = record { objects = objects; items = tstmts_from items }

-- a declaration behind another
pub behind : (objects numbers : List ℕ) (items next : List TStmt)
    → tree_of (objects ++ numbers) (items ++ next) ≡ made_then (tree_of objects items) (tree_of numbers next)
behind objects numbers items next = ap (λ (all : TStmtTrees). let made : Made = record { objects = objects ++ numbers; items = all } in made) (both_from items next)

-- and a statement
pub one_behind : (objects : List ℕ) (items : List TStmt) (s : TStmt) → tree_of objects (items ++ s ∷ []) ≡ with_items (tree_of objects items) (one (tstmt_tree s))
one_behind objects items s =
    ap (λ list. tree_of list (items ++ s ∷ [])) (sym (append-nil objects)) ∙ behind objects [] items (s ∷ [])
    ∙ ap (λ (all : TStmtTrees). let next : Made = record { objects = []; items = all } in made_then (tree_of objects items) next) (one_from s)

pub nothing_from : tstmts_from [] ≡ none
unfolding tstmts_from
nothing_from = refl
