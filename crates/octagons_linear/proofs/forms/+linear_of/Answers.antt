use Rattle.std.proofs.Common.{◌≡◌, ap, sym, ◌∙◌}
use Rattle.num_api.specs.Exprs.{nexpr_tree, Unary, Binary}
use Rattle.num_api.proofs.Trees.{nexpr_unary, nexpr_binary}
use Rattle.octagons_linear.proofs.Reading.{linear-unary, linear-binary}
use Rattle.octagons_linear.proofs.forms.+linear_of.Goals as goal

pub returns-in_ok-operand-in-Unary : goal.returns-in_ok-operand-in-Unary
returns-in_ok-operand-in-Unary t c =
    let p = c.in-Unary in let a = nexpr_tree c.deref.result.now in
    let tree : nexpr_tree c.args.e.now ≡ Unary p.op a = ap nexpr_tree p.is ∙ nexpr_unary p.op p.a ∙ ap (λ e. Unary p.op (nexpr_tree e)) (sym c.deref.ensures) in
    linear-unary (nexpr_tree c.args.e.now) a p.op c.in_ok-operand-in-Unary.operand c.unary_sum.result tree c.in_ok-operand-in-Unary.ensures c.unary_sum.ensures

pub returns-in_ok-right-in-Binary : goal.returns-in_ok-right-in-Binary
returns-in_ok-right-in-Binary t c =
    let p = c.in-Binary in let a = nexpr_tree c.deref-in-Binary.result.now in let b = nexpr_tree c.deref-in-Binary-2.result.now in
    let tree : nexpr_tree c.args.e.now ≡ Binary p.op a b = ap nexpr_tree p.is ∙ nexpr_binary p.op p.a p.b
    ∙ ap (λ e. Binary p.op (nexpr_tree e) (nexpr_tree p.b.value)) (sym c.deref-in-Binary.ensures) ∙ ap (λ e. Binary p.op a (nexpr_tree e)) (sym c.deref-in-Binary-2.ensures) in
    linear-binary (nexpr_tree c.args.e.now) a b p.op c.in_ok-left-in-Binary.left c.in_ok-right-in-Binary.right c.binary_sum.result tree c.in_ok-left-in-Binary.ensures c.in_ok-right-in-Binary.ensures c.binary_sum.ensures
