use Rattle.std.proofs.Common.{FitsSigned, ap, sym, ◌∙◌, rules}
use Rattle.std.specs.Prelude.{Some}
use Rattle.std.specs.Int.{w128}
use Rattle.c_syntax.specs.Types.{ctype_tree}
use Rattle.c_syntax.proofs.TypeTrees.{ctype_int}
use Rattle.c_typing.specs.Constants as constants
use Rattle.c_check_operators.proofs.Numbers.{passed_is}
use Rattle.c_check_operators.proofs.operators.converted_constant.Goals as goal

pub returns-in-Some : goal.returns-in-Some
returns-in-Some c =
    let t = c.in-Int.t in let n = c.in-Some.n in
    let small : FitsSigned w128 n = search rules in
    let fits : FitsSigned w128 c.wrap.result = search rules in
    ap Some (passed_is t n c.wrap.result small fits c.wrap.ensures)
    ∙ sym (ap (λ ty. constants.converted_constant ty (Some n)) (ap ctype_tree c.in-Int.is ∙ ctype_int t))
    ∙ ap (constants.converted_constant (ctype_tree c.args.ty.now)) (sym c.in-Some.is)
