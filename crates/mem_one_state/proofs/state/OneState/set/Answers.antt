use Rattle.std.proofs.Common.{sym, ◌∙◌}
use Rattle.csharp.specs.Trees.{csexpr_tree}
use Rattle.csharp.specs.Actions as acts
use Rattle.mem_one_state.proofs.Moves.{settled, sets}
use Rattle.mem_one_state.proofs.state.OneState.set.Goals as goal

pub returns-clause-stands : goal.returns-clause-stands
returns-clause-stands c =
    settled (acts.set c.args.temp (csexpr_tree c.args.value.now)) (sets c.args.temp (csexpr_tree c.args.value.now)) c.args.self.now c.in_ok-self-inside.field-0 c.in-Some.state c.set-step.new.self c.set-step.result
    (sym c.self.view_is ∙ sym c.take.ensures.value ∙ c.in-Some.is) c.set-step.ensures.took c.in_ok-self-inside.ensures
