use Rattle.std.proofs.Common.{sym, subst, ◌∙◌}
use Rattle.csharp.specs.Actions as acts
use Rattle.mem_one_state.specs.One.{IsHeld}
use Rattle.mem_one_state.proofs.Held.{held_left, undefines_own}
use Rattle.mem_one_state.proofs.state.OneState.undefine.Goals as goal

pub invariant_of-self-2 : goal.invariant_of-self-2
invariant_of-self-2 c =
    subst IsHeld (sym c.left.ensures) (held_left (acts.undefine c.args.object) (undefines_own c.args.object) c.undefine-step.result c.in-Some.state
    c.undefine-step.new.self (subst IsHeld (sym c.take.ensures.value ∙ c.in-Some.is) c.self.invariant) c.undefine-step.ensures.took c.undefine-step.ensures.memory)
