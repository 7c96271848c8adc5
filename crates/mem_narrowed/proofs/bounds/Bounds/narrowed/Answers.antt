use Rattle.std.proofs.Common.{rules, sym, ◌∙◌, FitsSigned}
use mir.Syntax.{w128}
use Rattle.mem_narrowed.proofs.Narrowing.{narrowed_told}
use Rattle.mem_narrowed.proofs.bounds.Bounds.narrowed.Goals as goal

pub returns : goal.returns
returns c =
    let r = c.class_with-class.result in
    let fits : FitsSigned w128 r.modulus = search rules in
    let fit : FitsSigned w128 r.rem = search rules in
    narrowed_told c.args.self c.args.other c.lower.result c.upper.result r c.class_with-class.ensures
    (sym c.is_number.ensures ∙ c.if-is_number.false) c.requires.left c.requires.right c.lower.ensures c.upper.ensures fits fit
