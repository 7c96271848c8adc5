use Rattle.c_grammar.specs.Grammar.{type_rule}
use Rattle.c_grammar.specs.TypeRules as kind
use Rattle.c_parser_steps.specs.Answers.{given, halted}
use Rattle.c_parser_steps.proofs.Steps.{halts, refuse, take, by, done, if_true, unborne}
use Rattle.c_parser_steps.proofs.TypeSteps.{no_colon, members_are}
use Rattle.c_parser_leaves.proofs.ends.members_end.Goals as goal

pub returns-in-Err-clause-goes : goal.returns-in-Err-clause-goes
returns-in-Err-clause-goes c = halted (halts (refuse c.in-Err.ensures.goes) (λ why rest g. by (type_rule kind.declarators_end) (unborne _ (no_colon _ c.requires)) (if_true _ c.requires) (g _ _)))

pub returns-clause-goes : goal.returns-clause-goes
returns-clause-goes c = given (by (type_rule kind.declarators_end) (unborne _ (no_colon _ c.requires)) (if_true _ c.requires) (take c.in-Ok.ensures.goes (done (members_are c.args.specs c.from_vec.result c.specs_pos.ensures c.from_vec.ensures))))
