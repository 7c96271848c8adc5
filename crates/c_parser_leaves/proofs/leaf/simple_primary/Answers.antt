use Rattle.std.proofs.Common.{refl, sym}
use Rattle.c_grammar.specs.Descent.{no_rule}
use Rattle.c_parser_steps.specs.Answers.{halted}
use Rattle.c_parser_steps.specs.Views.{scene_of}
use Rattle.c_parser_steps.proofs.Steps.{stopped}
use Rattle.c_parser_steps.proofs.Choices.{primary_is}
use Rattle.c_parser_leaves.proofs.leaf.simple_primary.Goals as goal

pub returns-in-Neither-clause-goes : goal.returns-in-Neither-clause-goes
returns-in-Neither-clause-goes c = halted (stopped c.refused.ensures (no_rule refl (primary_is (scene_of c.args.context.now) c.args.tokens.now (sym c.in-Neither.ensures))))
