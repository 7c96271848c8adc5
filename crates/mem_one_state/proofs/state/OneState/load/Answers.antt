use Rattle.std.proofs.Common.{sym, ◌∙◌}
use Rattle.csharp.specs.Trees.{csexpr_tree}
use Rattle.csharp.specs.Actions as acts
use Rattle.mem_one_state.proofs.Moves.{settled, loads}
use Rattle.mem_one_state.proofs.state.OneState.load.Goals as goal

pub returns-clause-stands : goal.returns-clause-stands
returns-clause-stands c =
    settled (acts.load c.args.temp c.args.ty (csexpr_tree c.args.address.now)) (loads c.args.temp c.args.ty (csexpr_tree c.args.address.now)) c.args.self.now c.in_ok-self-inside.field-0 c.in-Some.state c.load-step.new.self c.load-step.result
    (sym c.self.view_is ∙ sym c.take.ensures.value ∙ c.in-Some.is) c.load-step.ensures.took c.in_ok-self-inside.ensures
