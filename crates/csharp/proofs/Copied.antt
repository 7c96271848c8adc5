-- A list that is copied item by item, where what is copied has the tree of what was gone through.
use Rattle.std.proofs.Common.{◌≡◌, ℕ, ◌+◌, ◌<◌, List, [], ◌∷◌, ◌++◌, length, take, get_or, refl, sym, ap, ◌∙◌}
use Rattle.std.proofs.lemmas.List.{take_more}
use Rattle.csharp.specs.declared.statement.CsStmt.{CsStmt}
use Rattle.csharp.specs.Trees.{CsStmtTree, CsStmtTrees, none, more, csstmt_tree, csstmts_from}

-- one item more at the end
and_then : CsStmtTrees → CsStmtTree → CsStmtTrees
and_then none a = more a none
and_then (more item rest) a = more item (and_then rest a)

pushed : (items : List CsStmt) (item : CsStmt) → csstmts_from (items ++ item ∷ []) ≡ and_then (csstmts_from items) (csstmt_tree item)
unfolding csstmts_from and_then
pushed [] item = refl
pushed (first ∷ rest) item = ap (more (csstmt_tree first)) (pushed rest item)

next_item : (items : List CsStmt) (i : ℕ) (item : CsStmt) → i < length items → item ≡ get_or items i item
    → take i items ++ item ∷ [] ≡ take (i + 1) items
next_item items i item h e = ap (λ x. take i items ++ x ∷ []) e ∙ sym (take_more items i item h)

pub one_more_stmt : (copies items : List CsStmt) (i : ℕ) (copy item : CsStmt) → i < length items
    → csstmts_from copies ≡ csstmts_from (take i items) → item ≡ get_or items i item → csstmt_tree copy ≡ csstmt_tree item
    → csstmts_from (copies ++ copy ∷ []) ≡ csstmts_from (take (i + 1) items)
one_more_stmt copies items i copy item h e is same =
    pushed copies copy
    ∙ ap (λ rest. and_then rest (csstmt_tree copy)) e
    ∙ ap (and_then (csstmts_from (take i items))) same
    ∙ sym (pushed (take i items) item)
    ∙ ap csstmts_from (next_item items i item h is)
