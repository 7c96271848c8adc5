use Rattle.std.proofs.Common.{◌≡◌, ap, sym, ◌∙◌}
use Rattle.num_api.specs.declared.expr.NOp.{NOp}
use Rattle.num_api.specs.declared.expr.NOp.TheVariants.{Not}
use Rattle.num_api.specs.Exprs.{nexpr_tree, Unary, Binary}
use Rattle.num_api.specs.Standings.{standing_of}
use Rattle.num_api.proofs.Trees.{nexpr_unary, nexpr_binary}
use Rattle.octagons_linear.proofs.Reading.{negated-limits, compared-limits}
use Rattle.octagons_linear.proofs.limits.+limits_of.Goals as goal

pub returns-in-Not : goal.returns-in-Not
returns-in-Not t c =
    let p = c.in-Unary in let a = nexpr_tree c.deref.result.now in
    let tree : nexpr_tree c.args.e.now ≡ Unary Not a = ap nexpr_tree p.is ∙ nexpr_unary p.op p.a
    ∙ ap (λ (op : NOp). Unary op (nexpr_tree p.a.value)) c.in-Not.is ∙ ap (λ e. Unary Not (nexpr_tree e)) (sym c.deref.ensures) in
    negated-limits (nexpr_tree c.args.e.now) a c.args.truth c.limits_of.result tree c.limits_of.ensures

pub returns-in-Some : goal.returns-in-Some
returns-in-Some t c =
    let p = c.in-Binary in let a = nexpr_tree c.deref-in-Some.result.now in let b = nexpr_tree c.deref-in-Some-2.result.now in
    let tree : nexpr_tree c.args.e.now ≡ Binary p.op a b = ap nexpr_tree p.is ∙ nexpr_binary p.op p.a p.b
    ∙ ap (λ e. Binary p.op (nexpr_tree e) (nexpr_tree p.b.value)) (sym c.deref-in-Some.ensures) ∙ ap (λ e. Binary p.op a (nexpr_tree e)) (sym c.deref-in-Some-2.ensures) in
    compared-limits (nexpr_tree c.args.e.now) a b p.op c.args.truth (standing_of c.in-Some.how) c.compared_limits.result tree c.in-Some.ensures.some c.compared_limits.ensures
