use Rattle.std.proofs.Common.{◌≡◌, ◌∙◌, ap, sym, subst, rules, FitsSigned}
use Rattle.std.proofs.lemmas.Int.{to_z-of_z}
use Rattle.std.proofs.lemmas.Result.{IfOk-weaker}
use mir.Syntax.{w128}
use Rattle.num_api.specs.Exprs as plain
use Rattle.num_api.specs.Spans.{point, range_of}
use Rattle.machine_nums.specs.MExprs.{MExprTree, Const, Read, Convert, Unary, mexpr_tree}
use Rattle.machine_nums.specs.Parts.{IsResult}
use Rattle.machine_nums.proofs.Trees.{mexpr_const, mexpr_read, mexpr_convert, mexpr_unary}
use Rattle.machine_nums.proofs.Results.{result_const, result_read, result_convert}
use Rattle.machine_nums.proofs.evaluation.exact_result.Goals as goal

pub returns-in-Const : goal.returns-in-Const
returns-in-Const g c =
    let A = g.D.Oracle.admits c.args.state.now in let X = g.D.Oracle.exact in let K = g.D.Oracle.known c.args.state.now in
    let M = g.D.Oracle.may_range c.args.state.now in
    let n = c.in-Const.n in let u = c.in-Const.field-0 in
    let fits : FitsSigned w128 n = search rules in
    let same = to_z-of_z w128 n fits in
    let tree : mexpr_tree c.args.e.now ≡ Const u n = ap mexpr_tree c.in-Const.is ∙ mexpr_const u n in
    subst (λ (e : MExprTree). IsResult A X K M e c.told.result) (sym tree)
    (result_const A X K M u n c.constant.result c.told.result (c.constant.ensures.tree ∙ ap plain.Const same)
    (c.constant.ensures.range ∙ ap (λ k. range_of (point k)) same) c.constant.ensures.kept c.told.ensures)

pub returns-in-Read : goal.returns-in-Read
returns-in-Read g c =
    let A = g.D.Oracle.admits c.args.state.now in let X = g.D.Oracle.exact in let K = g.D.Oracle.known c.args.state.now in
    let M = g.D.Oracle.may_range c.args.state.now in
    let x = c.in-Read.x.0 in let u = c.in-Read.field-1 in
    let tree : mexpr_tree c.args.e.now ≡ Read x u = ap mexpr_tree c.in-Read.is ∙ mexpr_read c.in-Read.x u in
    subst (λ (e : MExprTree). IsResult A X K M e c.told-in-Read.result) (sym tree)
    (result_read A X K M x u c.variable.result c.told-in-Read.result c.variable.ensures.tree c.variable.ensures.range c.variable.ensures.kept
    c.told-in-Read.ensures)

pub returns-in-Convert : goal.returns-in-Convert
returns-in-Convert g c =
    let A = g.D.Oracle.admits c.args.state.now in let X = g.D.Oracle.exact in let K = g.D.Oracle.known c.args.state.now in
    let M = g.D.Oracle.may_range c.args.state.now in
    let a = mexpr_tree c.deref.result.now in let u = c.in-Convert.field-0 in
    let tree : mexpr_tree c.args.e.now ≡ Convert u a = ap mexpr_tree c.in-Convert.is ∙ mexpr_convert u c.in-Convert.a ∙ ap (λ e. Convert u (mexpr_tree e))
    (sym c.deref.ensures) in
    IfOk-weaker c.value.result _ _ (λ p h. subst (λ (e : MExprTree). IsResult A X K M e p) (sym tree) (result_convert A X K M u a p h)) c.value.ensures

pub returns-in_ok-operand-in-Unary : goal.returns-in_ok-operand-in-Unary
returns-in_ok-operand-in-Unary g c =
    let A = g.D.Oracle.admits c.args.state.now in let X = g.D.Oracle.exact in let K = g.D.Oracle.known c.args.state.now in
    let M = g.D.Oracle.may_range c.args.state.now in
    let a = mexpr_tree c.deref-in-Unary.result.now in let u = c.in-Unary.field-1 in let op = c.in-Unary.op in
    let tree : mexpr_tree c.args.e.now ≡ Unary op u a = ap mexpr_tree c.in-Unary.is ∙ mexpr_unary op u c.in-Unary.a ∙ ap (λ e. Unary op u (mexpr_tree e))
    (sym c.deref-in-Unary.ensures) in
    IfOk-weaker c.unary.result _ _ (λ p h. subst (λ (e : MExprTree). IsResult A X K M e p) (sym tree) (h u a c.in_ok-operand-in-Unary.ensures)) c.unary.ensures
