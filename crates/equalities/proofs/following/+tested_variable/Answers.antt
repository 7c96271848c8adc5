use Rattle.std.proofs.Common.{◌≡◌, sym, subst, ap, ◌∙◌, Some}
use Rattle.std.proofs.lemmas.Option.{IfSome_then}
use Rattle.num_api.specs.declared.expr.NOp.{NOp}
use Rattle.num_api.specs.declared.expr.NOp.TheVariants.{Not}
use Rattle.num_api.specs.declared.expr.NExpr.{NExpr}
use Rattle.num_api.specs.Exprs.{NExprTree, Unary, Binary, nexpr_tree}
use Rattle.num_api.specs.Standings.{standing_of}
use Rattle.num_api.specs.Value.{value_of}
use Rattle.num_api.proofs.Trees.{nexpr_unary, nexpr_binary}
use Rattle.equalities.proofs.Comparisons.{denied, compared_sides}
use Rattle.equalities.proofs.following.+tested_variable.Goals as goal

pub returns-in-Not : goal.returns-in-Not
returns-in-Not t c =
    let part = nexpr_tree c.deref.result.now in
    let tree : nexpr_tree c.args.e.now ≡ Unary Not part = ap nexpr_tree c.in-Unary.is ∙ nexpr_unary c.in-Unary.op c.in-Unary.a
    ∙ ap (λ (op : NOp). Unary op (nexpr_tree c.in-Unary.a.value)) c.in-Not.is ∙ ap (λ (e : NExpr). Unary Not (nexpr_tree e)) (sym c.deref.ensures) in
    IfSome_then c.tested_variable.result c.tested_variable.ensures (λ s h v n e q.
    let found = denied v part c.args.truth n (subst (λ (r : NExprTree). value_of v r ≡ Some n) tree e) q in
    h v found.0 found.1 found.2)

pub returns-in_ok-truth-in-Binary : goal.returns-in_ok-truth-in-Binary
returns-in_ok-truth-in-Binary t c =
    let op = c.in-Binary.op in let a = nexpr_tree c.deref-in-Binary-2.result.now in let b = nexpr_tree c.deref-in-Binary.result.now in
    let tree : nexpr_tree c.args.e.now ≡ Binary op a b = ap nexpr_tree c.in-Binary.is ∙ nexpr_binary op c.in-Binary.a c.in-Binary.b
    ∙ ap (λ (e : NExpr). Binary op (nexpr_tree e) (nexpr_tree c.in-Binary.b.value)) (sym c.deref-in-Binary-2.ensures)
    ∙ ap (λ (e : NExpr). Binary op a (nexpr_tree e)) (sym c.deref-in-Binary.ensures) in
    IfSome_then c.tested_variable-in-Binary.result c.tested_variable-in-Binary.ensures (λ s h v n e q.
    let sides = compared_sides v op a b c.args.truth (standing_of c.in_ok-how-in-Binary.how) n c.in_ok-how-in-Binary.ensures.some (subst (λ (r : NExprTree). value_of v r ≡ Some n) tree e) q in
    h v sides.0 sides.2 (c.in_ok-truth-in-Binary.ensures v sides.0 sides.1 sides.3 sides.4))
