use Rattle.std.proofs.Common.{ℤ, pos, ◌+ℤ◌, get_or, FitsSigned, to_z, of_z, rules, subst, sym, ap, ◌∙◌}
use mir.Syntax.{w128}
use Rattle.std.proofs.lemmas.Int.{to_z-of_z}
use Rattle.mem_places.proofs.Balance.{if_none, goes_up, goes_down, never_up, never_down}
use Rattle.mem_places.proofs.sums.balanced.Goals as goal

pub returns-in_err-sum-in-Up-clause-none : goal.returns-in_err-sum-in-Up-clause-none
returns-in_err-sum-in-Up-clause-none c =
    let sum = to_z w128 c.loop-sum.sum-bits in let n = get_or c.args.up.now c.loop-sum.ups (pos 0) in
    let sum_fits : FitsSigned w128 (to_z w128 c.loop-sum.sum-bits) = search rules in
    let n_fits : FitsSigned w128 (get_or c.args.up.now c.loop-sum.ups (pos 0)) = search rules in
    if_none c.from_residual.result (never_up c.args.up.now c.args.down.now c.loop-sum.ups c.loop-sum.downs sum c.loop-sum.invariant c.requires sum_fits
    c.in-Up.ensures.0 c.in-Up.ensures.1 n_fits
    (λ all. c.in_err-sum-in-Up.ensures.none (subst (λ (t : ℤ). FitsSigned w128 (sum +ℤ t)) (sym (to_z-of_z w128 n n_fits)) all)))

pub loop-sum-preserved-in-Up : goal.loop-sum-preserved-in-Up
loop-sum-preserved-in-Up c =
    let sum = to_z w128 c.loop-sum.sum-bits in let n = get_or c.args.up.now c.loop-sum.ups (pos 0) in
    let n_fits : FitsSigned w128 (get_or c.args.up.now c.loop-sum.ups (pos 0)) = search rules in
    let r_fits : FitsSigned w128 c.in_ok-sum-in-Up.sum = search rules in
    goes_up c.args.up.now c.args.down.now c.loop-sum.ups c.loop-sum.downs sum c.loop-sum.invariant c.in-Up.ensures.0 (to_z w128 (of_z w128 c.in_ok-sum-in-Up.sum))
    (to_z-of_z w128 c.in_ok-sum-in-Up.sum r_fits ∙ c.in_ok-sum-in-Up.ensures.value ∙ ap (λ (t : ℤ). sum +ℤ t) (to_z-of_z w128 n n_fits))

pub returns-in_err-sum-in-Down-clause-none : goal.returns-in_err-sum-in-Down-clause-none
returns-in_err-sum-in-Down-clause-none c =
    let sum = to_z w128 c.loop-sum.sum-bits in let n = get_or c.args.down.now c.loop-sum.downs (pos 0) in
    let sum_fits : FitsSigned w128 (to_z w128 c.loop-sum.sum-bits) = search rules in
    let n_fits : FitsSigned w128 (get_or c.args.down.now c.loop-sum.downs (pos 0)) = search rules in
    if_none c.from_residual-in_err-sum-in-Down.result (never_down c.args.up.now c.args.down.now c.loop-sum.ups c.loop-sum.downs sum c.loop-sum.invariant c.requires sum_fits
    c.in-Down.ensures.0 c.in-Down.ensures.1 n_fits
    (λ all. c.in_err-sum-in-Down.ensures.none (subst (λ (t : ℤ). FitsSigned w128 (sum +ℤ t)) (sym (to_z-of_z w128 n n_fits)) all)))

pub loop-sum-preserved : goal.loop-sum-preserved
loop-sum-preserved c =
    let sum = to_z w128 c.loop-sum.sum-bits in let n = get_or c.args.down.now c.loop-sum.downs (pos 0) in
    let n_fits : FitsSigned w128 (get_or c.args.down.now c.loop-sum.downs (pos 0)) = search rules in
    let r_fits : FitsSigned w128 c.in_ok-sum-in-Down.sum = search rules in
    goes_down c.args.up.now c.args.down.now c.loop-sum.ups c.loop-sum.downs sum c.loop-sum.invariant c.in-Down.ensures.0 (to_z w128 (of_z w128 c.in_ok-sum-in-Down.sum))
    (to_z-of_z w128 c.in_ok-sum-in-Down.sum r_fits ∙ c.in_ok-sum-in-Down.ensures.value ∙ ap (λ (t : ℤ). sum +ℤ t) (to_z-of_z w128 n n_fits))
