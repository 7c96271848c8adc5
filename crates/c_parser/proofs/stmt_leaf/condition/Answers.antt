use Rattle.std.proofs.Common.{arith}
use Rattle.c_grammar.specs.Descent.{stops}
use Rattle.c_parser_steps.specs.Views.{scene_of}
use Rattle.c_parser_steps.proofs.Steps.{halt, halts, not_shut, refuse}
use Rattle.c_parser.specs.SimpleKinds.{untested, in_parentheses, tested}
use Rattle.c_parser_steps.proofs.Paths.{after, from_start, goes_so, inside, shuts}
use Rattle.c_parser.proofs.stmt_leaf.condition.Goals as goal

pub returns-in-Err-clause-goes : goal.returns-in-Err-clause-goes
returns-in-Err-clause-goes c = untested (halts (refuse c.in-Err.ensures.goes) (λ why rest h p k. h p _))

pub returns-in-Err-joined_operands-clause-goes : goal.returns-in-Err-joined_operands-clause-goes
returns-in-Err-joined_operands-clause-goes c = untested (halts (halt c.in-Err-joined_operands.ensures.goes) (λ why rest h p k. goes_so (after (from_start {p = p} (in_parentheses (scene_of c.args.context.now) k) c.args.tokens.now) c.in-Ok.ensures.goes) _ (stops h)))

pub returns-in-Err-taken-clause-goes : goal.returns-in-Err-taken-clause-goes
returns-in-Err-taken-clause-goes c = untested (halts (not_shut c.in-Err-taken.ensures.goes) (λ why rest h p k. goes_so (inside (after (from_start {p = p} (in_parentheses (scene_of c.args.context.now) k) c.args.tokens.now) c.in-Ok.ensures.goes) c.in-Ok-joined_operands.ensures.goes) _ (h p _)))

pub returns-clause-goes : goal.returns-clause-goes
returns-clause-goes c = tested (λ p k o g. goes_so (shuts (inside (after (from_start {p = p} (in_parentheses (scene_of c.args.context.now) k) c.args.tokens.now) c.in-Ok.ensures.goes) c.in-Ok-joined_operands.ensures.goes) c.in-Ok-taken.ensures.goes) o g)

pub returns-clause-shorter : goal.returns-clause-shorter
returns-clause-shorter c = omega (arith, c.in-Ok.ensures.shorter, c.in-Ok-joined_operands.ensures.shorter, c.in-Ok-taken.ensures.shorter)
