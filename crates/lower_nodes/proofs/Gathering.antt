-- One more at the end of what was gathered, and one more check in front of others.
use Rattle.std.proofs.Common.{◌≡◌, ◌<◌, ◌≤◌, ◌-◌, ℕ, suc, List, [], ◌∷◌, ◌++◌, map, length, drop, get_or, refl, sym, ap, ◌∙◌, arith}
use Rattle.std.specs.Prelude.{max}
use Rattle.std.proofs.Math.Seq.{drop-cons}
use Rattle.c_syntax.specs.declared.alarm.Check.{Check}
use Rattle.csharp.specs.declared.expression.CsExpr.{CsExpr}
use Rattle.csharp.specs.declared.statement.CsStmt.{CsStmt}
use Rattle.csharp.specs.Trees.{CsExprTree, CsCheckTree, CsStmtTree, Checked, Sequence, csexpr_tree, csstmt_tree}
use Rattle.lower_trees.specs.Checking.{checks}
use Rattle.lower_trees.specs.LowerExpr.{Args}
use Rattle.lower_nodes.specs.Parts.{in_sequence}

pub in_sequence_push : (xs : List CsStmt) (x : CsStmt) (last : CsStmtTree)
    → in_sequence (map csstmt_tree (xs ++ x ∷ [])) last ≡ in_sequence (map csstmt_tree xs) (Sequence (csstmt_tree x) last)
in_sequence_push [] x last = refl
in_sequence_push (first ∷ xs) x last = ap (Sequence (csstmt_tree first)) (in_sequence_push xs x last)

pub values_push : (xs : List CsExpr) (x : CsExpr) (rest : List CsExprTree)
    → map csexpr_tree (xs ++ x ∷ []) ++ rest ≡ map csexpr_tree xs ++ (csexpr_tree x ∷ rest)
values_push [] x rest = refl
values_push (first ∷ xs) x rest = ap (λ ys. csexpr_tree first ∷ ys) (values_push xs x rest)

pub greatest_of_three : (a b c : ℕ) → max (max a b) c ≡ max a (max b c)
greatest_of_three a b c = omega arith

abbrev args_of : CsStmtTree → List CsExprTree → ℕ → ℕ → Args
args_of before values next top = record { before = before; values = values; next = next; top = top }

pub same_args : (a b : CsStmtTree) (xs ys : List CsExprTree) (n m k : ℕ) → a ≡ b → xs ≡ ys → m ≡ k → args_of a xs n m ≡ args_of b ys n k
same_args a b xs ys n m k e f g = ap (λ c. args_of c xs n m) e ∙ ap (λ zs. args_of b zs n m) f ∙ ap (args_of b ys n) g

pub check_in_front : (f : Check → CsCheckTree) (list : List Check) (n : ℕ) (d : Check) (check : CsCheckTree) (made behind whole : CsStmtTree)
    → 0 < n → n ≤ length list → behind ≡ checks (map f (drop n list)) → check ≡ f (get_or list (n - 1) d)
    → whole ≡ Sequence made behind → made ≡ Checked check → whole ≡ checks (map f (drop (n - 1) list))
check_in_front f list n d check made behind whole above within e same is_made is_check =
    let inside : n - 1 < length list = omega arith in
    let next : suc (n - 1) ≡ n = omega arith in
    let cut : drop (n - 1) list ≡ get_or list (n - 1) d ∷ drop n list =
    drop-cons list (n - 1) d inside ∙ ap (λ k. get_or list (n - 1) d ∷ drop k list) next in
    is_made ∙ ap (λ a. Sequence a behind) (is_check ∙ ap Checked same) ∙ ap (Sequence (Checked (f (get_or list (n - 1) d)))) e
    ∙ ap (λ xs. checks (map f xs)) (sym cut)
