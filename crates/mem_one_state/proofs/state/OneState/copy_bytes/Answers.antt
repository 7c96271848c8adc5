use Rattle.std.proofs.Common.{sym, subst, ◌∙◌}
use Rattle.csharp.specs.Trees.{csexpr_tree}
use Rattle.csharp.specs.Actions as acts
use Rattle.mem_one_state.proofs.Moves.{settled, copies}
use Rattle.mem_one_state.specs.One.{IsHeld}
use Rattle.mem_one_state.proofs.Held.{held_step, copies_own}
use Rattle.mem_one_state.proofs.state.OneState.copy_bytes.Goals as goal

pub returns-clause-stands : goal.returns-clause-stands
returns-clause-stands c =
    settled (acts.copy_bytes c.args.size (csexpr_tree c.args.to.now) (csexpr_tree c.args.from.now)) (copies c.args.size (csexpr_tree c.args.to.now) (csexpr_tree c.args.from.now)) c.args.self.now c.in_ok-self-inside.field-0 c.in-Some.state c.copy_bytes-step.new.self c.copy_bytes-step.result
    (sym c.self.view_is ∙ sym c.take.ensures.value ∙ c.in-Some.is) c.copy_bytes-step.ensures.took c.in_ok-self-inside.ensures

pub invariant_of-self-2 : goal.invariant_of-self-2
invariant_of-self-2 c =
    held_step (acts.copy_bytes c.args.size (csexpr_tree c.args.to.now) (csexpr_tree c.args.from.now)) (copies_own c.args.size (csexpr_tree c.args.to.now) (csexpr_tree c.args.from.now)) c.in-Some.state c.copy_bytes-step.new.self c.copy_bytes-step.result c.in_ok-self-inside.field-0
    (subst IsHeld (sym c.take.ensures.value ∙ c.in-Some.is) c.self.invariant) c.copy_bytes-step.ensures.took c.copy_bytes-step.ensures.memory c.in_ok-self-inside.ensures
