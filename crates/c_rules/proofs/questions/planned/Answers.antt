use Rattle.std.proofs.Common.{refl, subst}
use Rattle.c_syntax.specs.Program.{tprogram_tree}
use Rattle.c_rules_calls.specs.Graph.{IsOrderOf}
use Rattle.c_rules.proofs.Planning.{planned}
use Rattle.c_rules.proofs.questions.planned.Goals as goal

pub returns-in-Ok-clause-plan : goal.returns-in-Ok-clause-plan
returns-in-Ok-clause-plan c =
    planned (tprogram_tree c.args.program.now) (record { order = c.args.order; main = c.args.main }) c.args.order c.args.main refl refl c.requires.main
    (subst (λ g. IsOrderOf g c.args.order) c.requires.graph c.requires.order) c.in-Ok.ensures.admitted.0
