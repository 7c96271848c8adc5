use Rattle.std.proofs.Common.{◌≡◌, ◌++◌, ◌∷◌, [], pos, ap, subst, ◌∙◌}
use Rattle.std.specs.Prelude.{OnOk}
use Rattle.num_api.specs.Powers.{powers_from}
use Rattle.ramp_constants.proofs.Around.{all_powers}
use Rattle.ramp_constants.proofs.powers.add_powers.Goals as goal

pub returns : goal.returns
returns c =
    subst (λ all. OnOk c.add_positives.result (c.add_positives.new.steps.items ≡ all))
    (ap (λ xs. xs ++ powers_from 1 64) (c.in_ok-push.ensures.items ∙ ap (λ xs. xs ++ pos 0 ∷ []) c.in_ok-add_negations.ensures)
    ∙ all_powers c.args.steps.now.items)
    c.add_positives.ensures
