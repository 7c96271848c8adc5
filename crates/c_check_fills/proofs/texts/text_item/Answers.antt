use Rattle.std.proofs.Common.{◌≡◌, ℤ, FitsSigned, ap, ◌∙◌, rules}
use Rattle.std.specs.Int.{w128}
use Rattle.std.proofs.lemmas.Int.{to_z-of_z}
use Rattle.c_syntax_written.specs.Integer.{wrapped}
use Rattle.c_syntax.specs.Types as types
use Rattle.c_syntax.specs.TypedExpr as exprs
use Rattle.c_syntax.specs.TypedStmt as trees
use Rattle.c_check_fills.proofs.texts.text_item.Goals as goal

pub returns : goal.returns
returns c =
    let small : FitsSigned w128 c.from.result = search rules in
    let fits : FitsSigned w128 c.wrap.result = search rules in
    c.number_item.ensures
    ∙ ap (λ (value : ℤ). trees.Store c.args.offset (types.Int c.args.t) (exprs.Const c.args.at c.args.t value))
    (to_z-of_z w128 c.wrap.result fits ∙ c.wrap.ensures ∙ ap (wrapped c.args.t) (to_z-of_z w128 c.from.result small ∙ c.from.ensures))
