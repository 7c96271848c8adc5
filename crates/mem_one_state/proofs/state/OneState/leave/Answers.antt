use Rattle.std.proofs.Common.{sym, subst, ◌∙◌}
use Rattle.mem_one_state.specs.One.{IsHeld}
use Rattle.mem_one_state.proofs.Held.{left_held}
use Rattle.mem_one_state.proofs.state.OneState.leave.Goals as goal

pub invariant_of-self-2 : goal.invariant_of-self-2
invariant_of-self-2 c =
    left_held c.args.names.now c.in-Some.state c.leave.new.self (subst IsHeld (sym c.take.ensures.value ∙ c.in-Some.is) c.self.invariant) c.leave.ensures.left c.leave.ensures.memory
