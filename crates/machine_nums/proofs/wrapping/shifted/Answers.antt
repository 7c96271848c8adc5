use Rattle.std.proofs.Common.{◌∙◌, ◌-ℤ◌, ◌+ℤ◌, ℤ, FitsSigned, to_z, of_z, rules, ap}
use Rattle.std.proofs.lemmas.Int.{to_z-of_z}
use mir.Syntax.{w128}
use Rattle.c_syntax_written.specs.Integer.{wrapped}
use Rattle.machine_nums.proofs.Wrapped.{taken_shift, shift_point}
use Rattle.machine_nums.proofs.wrapping.shifted.Goals as goal

pub returns-clause-taken : goal.returns-clause-taken
returns-clause-taken c =
    let t = c.args.t in let lo = c.in-Fin-Fin.lo in let hi = c.in-Fin-Fin.hi in
    let w = c.wrap-least.result in let s = c.in_ok-shift.shift in let g = c.in_ok-greatest.greatest in
    let lo_fits : FitsSigned w128 lo = search rules in let hi_fits : FitsSigned w128 hi = search rules in
    let w_fits : FitsSigned w128 w = search rules in let s_fits : FitsSigned w128 s = search rules in let g_fits : FitsSigned w128 g = search rules in
    let lo_is = to_z-of_z w128 lo lo_fits in let hi_is = to_z-of_z w128 hi hi_fits in
    taken_shift t c.args.r lo hi (to_z w128 (of_z w128 w)) (to_z w128 (of_z w128 s)) (to_z w128 (of_z w128 g)) c.in-Fin-Fin.is-0 c.in-Fin-Fin.is-1
    (to_z-of_z w128 w w_fits ∙ c.wrap-least.ensures ∙ ap (wrapped t) lo_is)
    (to_z-of_z w128 s s_fits ∙ c.in_ok-shift.ensures ∙ ap (λ (x : ℤ). to_z w128 (of_z w128 w) -ℤ x) lo_is)
    (to_z-of_z w128 g g_fits ∙ c.in_ok-greatest.ensures ∙ ap (λ (x : ℤ). x +ℤ to_z w128 (of_z w128 s)) hi_is)
    (c.is_above.ensures.not c.if-is_above.false)

pub returns-clause-point : goal.returns-clause-point
returns-clause-point c =
    let t = c.args.t in let lo = c.in-Fin-Fin.lo in let hi = c.in-Fin-Fin.hi in
    let w = c.wrap-least.result in let s = c.in_ok-shift.shift in let g = c.in_ok-greatest.greatest in
    let lo_fits : FitsSigned w128 lo = search rules in let hi_fits : FitsSigned w128 hi = search rules in
    let w_fits : FitsSigned w128 w = search rules in let s_fits : FitsSigned w128 s = search rules in let g_fits : FitsSigned w128 g = search rules in
    let lo_is = to_z-of_z w128 lo lo_fits in let hi_is = to_z-of_z w128 hi hi_fits in
    shift_point t c.args.r lo hi (to_z w128 (of_z w128 w)) (to_z w128 (of_z w128 s)) (to_z w128 (of_z w128 g)) c.in-Fin-Fin.is-0 c.in-Fin-Fin.is-1
    (to_z-of_z w128 w w_fits ∙ c.wrap-least.ensures ∙ ap (wrapped t) lo_is)
    (to_z-of_z w128 s s_fits ∙ c.in_ok-shift.ensures ∙ ap (λ (x : ℤ). to_z w128 (of_z w128 w) -ℤ x) lo_is)
    (to_z-of_z w128 g g_fits ∙ c.in_ok-greatest.ensures ∙ ap (λ (x : ℤ). x +ℤ to_z w128 (of_z w128 s)) hi_is)
    (c.is_above.ensures.not c.if-is_above.false)
