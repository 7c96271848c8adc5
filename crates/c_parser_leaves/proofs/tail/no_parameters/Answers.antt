use Rattle.std.proofs.Common.{refl}
use Rattle.c_grammar.specs.Grammar.{type_rule}
use Rattle.c_grammar.specs.TypeRules as kind
use Rattle.c_parser_steps.proofs.Steps.{by, if_true}
use Rattle.c_parser_leaves.proofs.EndSteps.{closed_so}
use Rattle.c_parser_leaves.proofs.tail.no_parameters.Goals as goal

pub returns-clause-goes : goal.returns-clause-goes
returns-clause-goes c = closed_so (λ o g. by (type_rule kind.no_parameters) refl (if_true _ c.requires) g) c.empty_declarator-whole.ensures c.closed.ensures.goes
