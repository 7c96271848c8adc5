use Rattle.std.proofs.Common.{sym, subst}
use Rattle.std.proofs.lemmas.Result.{IfOk-weaker}
use Rattle.num_api.specs.declared.expr.NOp.{NOp}
use Rattle.machine_nums.specs.MExprs.{Binary}
use Rattle.machine_nums.specs.Parts.{IsValue}
use Rattle.machine_nums.proofs.Results.{value_wrapped, fit_binary}
use Rattle.machine_nums.proofs.evaluation.binary_value.Goals as goal

pub returns-in-Mul : goal.returns-in-Mul
returns-in-Mul g c =
    let A = g.D.Oracle.admits c.args.state.now in let X = g.D.Oracle.exact in let K = g.D.Oracle.known c.args.state.now in
    let M = g.D.Oracle.may_range c.args.state.now in
    IfOk-weaker c.product.result _ _
    (λ p h d e left right. subst (λ (op : NOp). IsValue A X K M (Binary op c.args.t d e) p) (sym c.in-Mul.is) (h d e left right)) c.product.ensures

pub returns-in_ok-part-in_default : goal.returns-in_ok-part-in_default
returns-in_ok-part-in_default g c =
    IfOk-weaker c.wrapped.result _ _ (λ p w d e left right.
    value_wrapped _ _ _ _ (Binary c.args.op c.args.t d e) c.in_ok-part-in_default.part p (c.in_ok-part-in_default.ensures d e left right) w
    (λ v n ad f q. fit_binary v c.args.op c.args.t d e n c.in_default.not-Mul f q)) c.wrapped.ensures
