-- Lists that are settled item by item, from the first on.
use Rattle.std.proofs.Common.{zero, suc, ◌≡◌, ℕ, ◌+◌, ◌<◌, ◌≤◌, List, [], ◌∷◌, refl, sym, ap, ◌∙◌, map, length, take, set, get_or, ◌++◌, arith}
use Rattle.std.proofs.Math.Seq.{take-append_seam}
use Rattle.c_syntax.specs.declared.typed.TExpr.{TExpr}
use Rattle.c_syntax.specs.declared.statement.TStmt.{TStmt}
use Rattle.c_syntax.specs.Types.{ObjectTree}
use Rattle.c_syntax.specs.TypedExpr.{texpr_tree, texprs_from}
use Rattle.c_syntax.specs.TypedStmt.{tstmt_tree, tstmts_from}
use Rattle.c_typing.specs.Settled.{settled_expr, settled_exprs, settled_stmt, settled_stmts}

-- the list with its first items settled, as many as are told
unfoldable pub settled_to : {T : Type 0} → (T → T) → ℕ → List T → List T
settled_to settle n [] = []
settled_to settle zero (x ∷ xs) = x ∷ xs
settled_to settle (suc n) (x ∷ xs) = settle x ∷ settled_to settle n xs

pub none_settled : {T : Type 0} (settle : T → T) (xs : List T) → settled_to settle 0 xs ≡ xs
unfolding settled_to
none_settled settle [] = refl
none_settled settle (x ∷ xs) = refl

pub all_settled : {T : Type 0} (settle : T → T) (n : ℕ) (xs : List T) → length xs ≤ n → settled_to settle n xs ≡ map settle xs
unfolding settled_to
all_settled settle n [] h = refl
all_settled settle zero (x ∷ xs) h = absurd (omega (arith, h))
all_settled settle (suc n) (x ∷ xs) h = ap (λ rest. settle x ∷ rest) (all_settled settle n xs (omega (arith, h)))

-- an item more
pub one_settled : {A T : Type 0} (tree : A → T) (settle : T → T) (items : List A) (all : List T) (n : ℕ) (old new : A) → n < length items
    → map tree items ≡ settled_to settle n all → old ≡ get_or items n old → tree new ≡ settle (tree old)
    → map tree (set items n new) ≡ settled_to settle (n + 1) all
unfolding settled_to
one_settled tree settle [] all n old new h e is same = absurd (omega (arith, h))
one_settled tree settle (item ∷ items) [] n old new h e is same = absurd (grind (arith, e))
one_settled tree settle (item ∷ items) (one ∷ all) zero old new h e is same = grind (arith, e, is, same, none_settled settle all)
one_settled tree settle (item ∷ items) (one ∷ all) (suc n) old new h e is same =
    let rest : map tree items ≡ settled_to settle n all = grind (arith, e) in
    let next : map tree (set items n new) ≡ settled_to settle (n + 1) all = one_settled tree settle items all n old new (omega (arith, h)) rest is same in
    grind (arith, e, next)

-- settled one by one, as a list that is settled
pub exprs_settled : (objects : List ObjectTree) (done items : List TExpr)
    → map texpr_tree done ≡ map (settled_expr objects) (map texpr_tree items) → texprs_from done ≡ settled_exprs objects (texprs_from items)
unfolding texprs_from settled_exprs
exprs_settled objects [] [] e = refl
exprs_settled objects [] (item ∷ items) e = absurd (grind (arith, e))
exprs_settled objects (next ∷ done) [] e = absurd (grind (arith, e))
exprs_settled objects (next ∷ done) (item ∷ items) e = grind (arith, e, exprs_settled objects done items)

-- an item behind those that are settled is the one that was there
pub left_as_given : {A T : Type 0} (tree : A → T) (settle : T → T) (items : List A) (given : List A) (n : ℕ) (d : A) → n < length items
    → map tree items ≡ settled_to settle n (map tree given) → tree (get_or items n d) ≡ tree (get_or given n d)
unfolding settled_to
left_as_given tree settle [] given n d h e = absurd (omega (arith, h))
left_as_given tree settle (item ∷ items) [] n d h e = absurd (grind (arith, e))
left_as_given tree settle (item ∷ items) (one ∷ given) zero d h e = grind (arith, e)
left_as_given tree settle (item ∷ items) (one ∷ given) (suc n) d h e =
    left_as_given tree settle items given n d (omega (arith, h)) (grind (arith, e))

-- what is in front of a list, as many as are told
pub in_front : {A : Type 0} (n : ℕ) (xs ys : List A) → length xs ≡ n → take n (xs ++ ys) ≡ xs
in_front n xs ys e = ap (λ m. take m (xs ++ ys)) (sym e) ∙ take-append_seam xs ys

pub stmts_settled : (objects : List ObjectTree) (done items : List TStmt)
    → map tstmt_tree done ≡ map (settled_stmt objects) (map tstmt_tree items) → tstmts_from done ≡ settled_stmts objects (tstmts_from items)
unfolding tstmts_from settled_stmts
stmts_settled objects [] [] e = refl
stmts_settled objects [] (item ∷ items) e = absurd (grind (arith, e))
stmts_settled objects (next ∷ done) [] e = absurd (grind (arith, e))
stmts_settled objects (next ∷ done) (item ∷ items) e = grind (arith, e, stmts_settled objects done items)
