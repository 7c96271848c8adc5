-- One argument more, and the end of the arguments.
use Rattle.std.proofs.Common.{◌≡◌, ◌<◌, ◌+◌, ℕ, suc, List, [], ◌∷◌, length, drop, get_or, sym, ap, ◌∙◌, arith}
use Rattle.std.proofs.Math.Seq.{drop-cons}
use Rattle.c_syntax.specs.declared.typed.TExpr.{TExpr}
use Rattle.c_syntax.specs.TypedExpr.{texpr_tree, texprs_from}
use Rattle.c_syntax.specs.Program.{TProgramTree}
use Rattle.c_syntax.proofs.TypedExprTrees.{texprs_cons, texprs_nil}
use Rattle.lower_trees.specs.LowerExpr.{Args, lower_args, lower_expr}
use Rattle.lower_nodes.specs.declared.gathered.Gathered.{Gathered}
use Rattle.lower_nodes.specs.declared.part.Part.{Part}
use Rattle.lower_nodes.specs.Parts.{args_more, no_args, part_tree, with_rest}

pub argument_more : (p : TProgramTree) (old new : Gathered) (items : List TExpr) (i : ℕ) (item : TExpr) (part : Part) (whole : Args)
    → i < length items → item ≡ get_or items i item
    → part_tree part ≡ (lower_expr p old.next (texpr_tree item)).value
    → ((rest : Args) → with_rest new rest ≡ with_rest old (args_more (part_tree part) rest)) → new.next ≡ part.next
    → with_rest old (lower_args p old.next (texprs_from (drop i items))) ≡ whole
    → with_rest new (lower_args p new.next (texprs_from (drop (i + 1) items))) ≡ whole
argument_more p old new items i item part whole below is made more next before =
    let step : suc i ≡ i + 1 = omega arith in
    let cut : drop i items ≡ item ∷ drop (i + 1) items =
    drop-cons items i item below ∙ ap (λ k. get_or items i item ∷ drop k items) step ∙ ap (λ v. v ∷ drop (i + 1) items) (sym is) in
    let rest = texprs_from (drop (i + 1) items) in
    more (lower_args p new.next rest)
    ∙ ap (λ n. with_rest old (args_more (part_tree part) (lower_args p n rest))) next
    ∙ ap (λ v. with_rest old (args_more v (lower_args p v.next rest))) made
    ∙ ap (λ t. with_rest old (lower_args p old.next t)) (sym (texprs_cons item (drop (i + 1) items)))
    ∙ ap (λ xs. with_rest old (lower_args p old.next (texprs_from xs))) (sym cut)
    ∙ before

pub arguments_end : (p : TProgramTree) (all : Gathered) (items : List TExpr) (whole : Args) → items ≡ []
    → with_rest all (lower_args p all.next (texprs_from items)) ≡ whole → with_rest all (no_args all.next) ≡ whole
arguments_end p all items whole e before =
    ap (λ t. with_rest all (lower_args p all.next t)) (sym (ap texprs_from e ∙ texprs_nil)) ∙ before
