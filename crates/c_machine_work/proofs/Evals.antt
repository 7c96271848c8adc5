-- Arguments that are put in front of the work one by one, the last one first.
use Rattle.std.proofs.Common.{◌≡◌, ℕ, ◌+◌, ◌<◌, List, ◌∷◌, length, drop, get_or, sym, ap, ◌∙◌}
use Rattle.std.specs.declared.rc.Rc.{Rc}
use Rattle.std.specs.declared.alloc.Global.{Global}
use Rattle.std.proofs.Math.Seq.{drop-length}
use Rattle.std.proofs.lemmas.List.{drop_more}
use Rattle.c_machine_trees.specs.declared.expression.SharedExpr.{SharedExpr}
use Rattle.c_machine_trees.specs.Expressions.{expr_tree, exprs_from}
use Rattle.c_machine_trees.proofs.SharedExprTrees.{exprs_nil, exprs_cons}
use Rattle.c_steps.specs.Calls.{evals}
use Rattle.c_steps.specs.Work.{Item, Eval}

pub no_evals : (args : List (Rc SharedExpr Global)) (work : List Item) → evals (exprs_from (drop (length args) args)) work ≡ work
no_evals args work = ap (λ list. evals (exprs_from list) work) (drop-length args) ∙ ap (λ list. evals list work) exprs_nil

pub one_more_eval : (args : List (Rc SharedExpr Global)) (k : ℕ) (share : Rc SharedExpr Global) (work : List Item)
    → k < length args → share ≡ get_or args k share
    → Eval (expr_tree share.value) ∷ evals (exprs_from (drop (k + 1) args)) work ≡ evals (exprs_from (drop k args)) work
one_more_eval args k share work below is =
    ap (λ (e : Rc SharedExpr Global). Eval (expr_tree e.value) ∷ evals (exprs_from (drop (k + 1) args)) work) is
    ∙ sym (ap (λ list. evals list work) (ap exprs_from (drop_more args k share below) ∙ exprs_cons (get_or args k share) (drop (k + 1) args)))
