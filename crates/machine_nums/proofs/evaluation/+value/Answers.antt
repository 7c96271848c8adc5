use Rattle.std.proofs.Common.{◌≡◌, ◌∙◌, ap, sym, subst, rules, FitsSigned}
use Rattle.std.proofs.lemmas.Int.{to_z-of_z}
use Rattle.std.proofs.lemmas.Result.{IfOk-weaker}
use mir.Syntax.{w128}
use Rattle.num_api.specs.Exprs as plain
use Rattle.num_api.specs.Spans.{point, range_of}
use Rattle.machine_nums.specs.MExprs.{MExprTree, Const, Read, Convert, Unary, mexpr_tree}
use Rattle.machine_nums.specs.Parts.{IsValue}
use Rattle.machine_nums.proofs.Trees.{mexpr_const, mexpr_read, mexpr_convert, mexpr_unary}
use Rattle.machine_nums.proofs.Results.{result_const, result_read, result_convert, value_wrapped, fit_const, fit_read, fit_convert, fit_unary}
use Rattle.machine_nums.proofs.evaluation.+value.Goals as goal

pub returns-in-Const : goal.returns-in-Const
returns-in-Const g t c =
    let A = g.D.Oracle.admits c.args.state.now in let X = g.D.Oracle.exact in let K = g.D.Oracle.known c.args.state.now in
    let M = g.D.Oracle.may_range c.args.state.now in
    let n = c.in-Const.n in let u = c.in-Const.t in
    let fits : FitsSigned w128 n = search rules in
    let same = to_z-of_z w128 n fits in
    let tree : mexpr_tree c.args.e.now ≡ Const u n = ap mexpr_tree c.in-Const.is ∙ mexpr_const u n in
    let exact = result_const A X K M u n c.constant.result c.told.result (c.constant.ensures.tree ∙ ap plain.Const same)
    (c.constant.ensures.range ∙ ap (λ k. range_of (point k)) same) c.constant.ensures.kept c.told.ensures in
    IfOk-weaker c.wrapped.result _ _ (λ p w. subst (λ (e : MExprTree). IsValue A X K M e p) (sym tree)
    (value_wrapped A X K M (Const u n) c.told.result p exact w (λ v m ad f q. fit_const v u n m f q))) c.wrapped.ensures

pub returns-in-Read : goal.returns-in-Read
returns-in-Read g t c =
    let A = g.D.Oracle.admits c.args.state.now in let X = g.D.Oracle.exact in let K = g.D.Oracle.known c.args.state.now in
    let M = g.D.Oracle.may_range c.args.state.now in
    let x = c.in-Read.x.0 in let u = c.in-Read.t in
    let tree : mexpr_tree c.args.e.now ≡ Read x u = ap mexpr_tree c.in-Read.is ∙ mexpr_read c.in-Read.x u in
    let exact = result_read A X K M x u c.variable.result c.told-in-Read.result c.variable.ensures.tree c.variable.ensures.range c.variable.ensures.kept
    c.told-in-Read.ensures in
    IfOk-weaker c.wrapped-in-Read.result _ _ (λ p w. subst (λ (e : MExprTree). IsValue A X K M e p) (sym tree)
    (value_wrapped A X K M (Read x u) c.told-in-Read.result p exact w (λ v m ad f q. fit_read v x u m f q))) c.wrapped-in-Read.ensures

pub returns-in_ok-inner-in-Convert : goal.returns-in_ok-inner-in-Convert
returns-in_ok-inner-in-Convert g t c =
    let A = g.D.Oracle.admits c.args.state.now in let X = g.D.Oracle.exact in let K = g.D.Oracle.known c.args.state.now in
    let M = g.D.Oracle.may_range c.args.state.now in
    let a = mexpr_tree c.deref.result.now in let u = c.in-Convert.t in
    let tree : mexpr_tree c.args.e.now ≡ Convert u a = ap mexpr_tree c.in-Convert.is ∙ mexpr_convert u c.in-Convert.a ∙ ap (λ e. Convert u (mexpr_tree e))
    (sym c.deref.ensures) in
    IfOk-weaker c.wrapped-in-Convert.result _ _ (λ p w. subst (λ (e : MExprTree). IsValue A X K M e p) (sym tree)
    (value_wrapped A X K M (Convert u a) c.in_ok-inner-in-Convert.inner p
    (result_convert A X K M u a c.in_ok-inner-in-Convert.inner c.in_ok-inner-in-Convert.ensures) w
    (λ v n ad f q. fit_convert v u a n q))) c.wrapped-in-Convert.ensures

pub returns-in_ok-exact-in-Unary : goal.returns-in_ok-exact-in-Unary
returns-in_ok-exact-in-Unary g t c =
    let A = g.D.Oracle.admits c.args.state.now in let X = g.D.Oracle.exact in let K = g.D.Oracle.known c.args.state.now in
    let M = g.D.Oracle.may_range c.args.state.now in
    let a = mexpr_tree c.deref-in-Unary.result.now in let u = c.in-Unary.t in let op = c.in-Unary.op in
    let tree : mexpr_tree c.args.e.now ≡ Unary op u a = ap mexpr_tree c.in-Unary.is ∙ mexpr_unary op u c.in-Unary.a ∙ ap (λ e. Unary op u (mexpr_tree e))
    (sym c.deref-in-Unary.ensures) in
    IfOk-weaker c.wrapped-in-Unary.result _ _ (λ p w. subst (λ (e : MExprTree). IsValue A X K M e p) (sym tree)
    (value_wrapped A X K M (Unary op u a) c.in_ok-exact-in-Unary.exact p (c.in_ok-exact-in-Unary.ensures u a c.in_ok-operand-in-Unary.ensures) w
    (λ v n ad f q. fit_unary v op u a n f q))) c.wrapped-in-Unary.ensures
