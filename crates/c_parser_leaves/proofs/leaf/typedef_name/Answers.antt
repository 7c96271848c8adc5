use Rattle.std.proofs.Common.{refl}
use Rattle.c_grammar.specs.Grammar.{type_rule}
use Rattle.c_grammar.specs.TypeRules as kind
use Rattle.c_parser_steps.specs.Answers.{given, Gives, halted, no_memory}
use Rattle.c_parser_steps.proofs.Steps.{halts, refuse, take, by, done, passed_on}
use Rattle.c_parser_steps.proofs.TypeSteps.{spec_is, typedef_name_is}
use Rattle.c_parser_leaves.proofs.leaf.typedef_name.Goals as goal

pub returns-in-Err-clause-goes : goal.returns-in-Err-clause-goes
returns-in-Err-clause-goes c = halted (halts (refuse (c.in-Err.ensures.goes)) (λ why rest g. by (type_rule kind.typedef_name) refl (spec_is _ _ c.requires) (g _ _)))

pub returns-clause-goes : goal.returns-clause-goes
returns-clause-goes c = given (by (type_rule kind.typedef_name) refl (spec_is _ _ c.requires) (take (c.in-Ok.ensures.goes) (done (typedef_name_is c.in_ok-name.ensures))))

pub returns-in_err-name-clause-goes : goal.returns-in_err-name-clause-goes
returns-in_err-name-clause-goes c = passed_on (Gives _ _) c.from_residual.ensures.1 (halted no_memory)
