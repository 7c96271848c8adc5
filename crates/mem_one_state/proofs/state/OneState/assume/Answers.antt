use Rattle.std.proofs.Common.{◌≡◌, sym, subst, ◌∙◌, Some}
use Rattle.csharp.specs.Trees.{csexpr_tree}
use Rattle.csharp.specs.States.{value_of}
use Rattle.mem_one_state.specs.One.{IsOf}
use Rattle.mem_one_state.proofs.Inputs.{value_same}
use Rattle.mem_one_state.proofs.Findings.{truth_kept}
use Rattle.mem_one_state.proofs.state.OneState.assume.Goals as goal

pub returns-in-Ok-Some-clause-stands : goal.returns-in-Ok-Some-clause-stands
returns-in-Ok-Some-clause-stands c s v h g e =
    let old = sym c.self.view_is ∙ c.in-Some.is in
    let same : value_of (csexpr_tree c.args.condition.now) c.in-Some.state ≡ Some v =
    value_same (csexpr_tree c.args.condition.now) c.in-Some.state s (subst (λ o. IsOf o s) old h) ∙ g in
    truth_kept _ c.truth.result c.args.truth c.in-Ok-Some.v v c.live_if.ensures c.truth.ensures
    (sym c.in-Ok-Some.field-0-is ∙ c.in-Ok-Some.ensures.is ∙ same) e
