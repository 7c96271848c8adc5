use Rattle.std.proofs.Common.{ℤ, ◌≡◌, refl, sym, ◌∙◌, subst}
use Rattle.std.proofs.lemmas.Int.{to_z-of_z}
use mir.Syntax.{w128}
use Rattle.num_api.specs.Steps.{least}
use Rattle.num_api.specs.Powers.{powers_from}
use Rattle.num_api.proofs.PowerLemmas.{above-zero, less}
use Rattle.num_api.proofs.ramp.power_step.Goals as goal

pub returns-then-n-gt0 : goal.returns-then-n-gt0
returns-then-n-gt0 c =
    let same = to_z-of_z w128 c.args.n c.ranges.n in
    subst (λ (x : ℤ). c.step_above_zero.result ≡ least (powers_from 1 64) x) same c.step_above_zero.ensures
    ∙ sym (above-zero c.args.n (less _ _ _ _ refl same c.if-n-gt0.true))
