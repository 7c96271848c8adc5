use Rattle.std.proofs.Common.{refl, sym}
use Rattle.c_grammar.specs.Descent.{no_rule}
use Rattle.c_parser_steps.specs.Answers.{halted}
use Rattle.c_parser_steps.proofs.Steps.{stopped}
use Rattle.c_parser_steps.proofs.TypeSteps.{spec_is}
use Rattle.c_parser_leaves.proofs.leaf.simple_spec.Goals as goal

pub returns-in-Neither-clause-goes : goal.returns-in-Neither-clause-goes
returns-in-Neither-clause-goes c = halted (stopped c.refused.ensures (no_rule refl (spec_is _ _ (sym c.in-Neither.ensures))))
