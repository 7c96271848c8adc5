use Rattle.std.proofs.Common.{sym, ◌∙◌}
use Rattle.csharp.specs.Trees.{cscheck_tree}
use Rattle.mem_one_state.proofs.Findings.{stands_found}
use Rattle.mem_one_state.proofs.state.OneState.operand.Goals as goal

pub returns-in-Ok-clause-stands : goal.returns-in-Ok-clause-stands
returns-in-Ok-clause-stands c =
    stands_found (cscheck_tree c.args.check.now) c.args.self.now c.in-Some.state c.in-Ok.found (sym c.self.view_is ∙ c.in-Some.is) c.in-Ok.ensures.is
