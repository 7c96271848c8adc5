use Rattle.std.proofs.Common.{sym, subst, ◌∙◌}
use Rattle.csharp.specs.Trees.{csexpr_tree}
use Rattle.csharp.specs.Actions as acts
use Rattle.mem_one_state.proofs.Moves.{settled, stores}
use Rattle.mem_one_state.specs.One.{IsHeld}
use Rattle.mem_one_state.proofs.Held.{held_step, stores_own}
use Rattle.mem_one_state.proofs.state.OneState.store.Goals as goal

pub returns-clause-stands : goal.returns-clause-stands
returns-clause-stands c =
    settled (acts.store c.args.ty (csexpr_tree c.args.address.now) (csexpr_tree c.args.value.now)) (stores c.args.ty (csexpr_tree c.args.address.now) (csexpr_tree c.args.value.now)) c.args.self.now c.in_ok-self-inside.field-0 c.in-Some.state c.store-step.new.self c.store-step.result
    (sym c.self.view_is ∙ sym c.take.ensures.value ∙ c.in-Some.is) c.store-step.ensures.took c.in_ok-self-inside.ensures

pub invariant_of-self-2 : goal.invariant_of-self-2
invariant_of-self-2 c =
    held_step (acts.store c.args.ty (csexpr_tree c.args.address.now) (csexpr_tree c.args.value.now)) (stores_own c.args.ty (csexpr_tree c.args.address.now) (csexpr_tree c.args.value.now)) c.in-Some.state c.store-step.new.self c.store-step.result c.in_ok-self-inside.field-0
    (subst IsHeld (sym c.take.ensures.value ∙ c.in-Some.is) c.self.invariant) c.store-step.ensures.took c.store-step.ensures.memory c.in_ok-self-inside.ensures
