use Rattle.std.proofs.Common.{◌∙◌, FitsSigned, to_z, of_z, rules, ap}
use Rattle.std.proofs.lemmas.Int.{to_z-of_z}
use mir.Syntax.{w128}
use Rattle.c_syntax_written.specs.Integer.{wrapped}
use Rattle.machine_nums.proofs.Wrapped.{taken_point, taken_all}
use Rattle.machine_nums.proofs.wrapping.by_bits.Goals as goal

pub returns-in-Some-clause-taken : goal.returns-in-Some-clause-taken
returns-in-Some-clause-taken c =
    let t = c.args.t in let n = c.in-Some.n in let w = c.wrap-only.result in
    let n_fits : FitsSigned w128 n = search rules in let w_fits : FitsSigned w128 w = search rules in
    taken_point t c.args.r c.point.result n (to_z w128 (of_z w128 w)) c.in-Some.ensures.some
    (to_z-of_z w128 w w_fits ∙ c.wrap-only.ensures ∙ ap (wrapped t) (to_z-of_z w128 n n_fits)) c.point.ensures

pub returns-in-None-clause-taken : goal.returns-in-None-clause-taken
returns-in-None-clause-taken c = taken_all c.args.t c.args.r c.type_range.result c.in-None.ensures.none c.type_range.ensures.value
