use Rattle.c_grammar.specs.Grammar.{type_rule}
use Rattle.c_grammar.specs.TypeRules as kind
use Rattle.c_parser_steps.proofs.Steps.{by, if_true, unborne}
use Rattle.c_parser_leaves.proofs.DeclaratorSteps.{second_false}
use Rattle.c_parser_leaves.proofs.EndSteps.{closed_so}
use Rattle.c_parser_leaves.proofs.tail.no_size.Goals as goal

pub returns-clause-goes : goal.returns-clause-goes
returns-clause-goes c = closed_so (λ o g. by (type_rule kind.no_size) (unborne _ (second_false _ c.requires.0)) (if_true _ c.requires.1) g) c.open_array_declarator-whole.ensures c.closed.ensures.goes
