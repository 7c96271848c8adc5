use Rattle.std.proofs.Common.{FitsSigned, ap, sym, ◌∙◌, rules}
use Rattle.std.specs.Prelude.{Some}
use Rattle.std.specs.Int.{w128}
use Rattle.std.proofs.lemmas.Int.{to_z-of_z}
use Rattle.c_syntax.specs.Types.{ctype_tree}
use Rattle.c_syntax.proofs.TypeTrees.{ctype_int}
use Rattle.c_typing.specs.Constants as constants
use Rattle.c_check_operators.proofs.operators.unary_constant.Goals as goal

pub returns-in-Int : goal.returns-in-Int
returns-in-Int c =
    let op = c.args.op in
    let fits : FitsSigned w128 c.in-Some.n = search rules in
    c.integer_unary.ensures
    ∙ ap (constants.integer_unary op (constants.operand_at op c.in-Int.t)) (to_z-of_z w128 c.in-Some.n fits)
    ∙ sym (ap (λ ty. constants.unary_constant op ty (Some c.in-Some.n)) (ap ctype_tree c.in-Int.is ∙ ctype_int c.in-Int.t))
    ∙ ap (constants.unary_constant op (ctype_tree c.args.ty.now)) (sym c.in-Some.is)
