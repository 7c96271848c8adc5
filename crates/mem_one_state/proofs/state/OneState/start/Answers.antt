use Rattle.csharp.specs.Trees.{csprogram_tree}
use Rattle.mem_one_state.proofs.Held.{first_held}
use Rattle.mem_one_state.proofs.state.OneState.start.Goals as goal

pub invariant_of-result : goal.invariant_of-result
invariant_of-result c = first_held (csprogram_tree c.args.program.now) c.in-Ok.state _ c.in-Ok.ensures.first c.in-Ok.ensures.objects
