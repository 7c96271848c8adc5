use Rattle.std.proofs.Common.{refl}
use Rattle.c_grammar.specs.Grammar.{type_rule}
use Rattle.c_grammar.specs.TypeRules as kind
use Rattle.c_parser_steps.specs.Answers.{stepped, stalled}
use Rattle.c_parser_steps.proofs.Steps.{halts, refuse, stall, step, take, by, stops_here}
use Rattle.c_parser_steps.proofs.TypeSteps.{spec_is}
use Rattle.c_parser_leaves.specs.Tags.{of_enumeration}
use Rattle.c_parser_steps.proofs.Last.{same, last_part}
use Rattle.c_parser_leaves.proofs.tag.enumeration_head.Goals as goal

pub returns-in-Err-clause-goes : goal.returns-in-Err-clause-goes
returns-in-Err-clause-goes c = stalled (halts (refuse c.in-Err.ensures.goes) (λ why rest g. by (type_rule kind.enumeration) refl (spec_is _ _ c.requires) (g _ _)))

pub returns-in-Err-tag-clause-goes : goal.returns-in-Err-tag-clause-goes
returns-in-Err-tag-clause-goes c = stalled (halts (stall (c.in-Err-tag.ensures.goes of_enumeration _)) (λ why rest g. by (type_rule kind.enumeration) refl (spec_is _ _ c.requires) (take c.in-Ok.ensures.goes (stops_here g))))

pub returns-clause-goes : goal.returns-clause-goes
returns-clause-goes c = stepped (λ o h. by (type_rule kind.enumeration) refl (spec_is _ _ c.requires) (take c.in-Ok.ensures.goes (last_part same o (step (c.in-Ok-tag.ensures.goes of_enumeration _) o h))))
