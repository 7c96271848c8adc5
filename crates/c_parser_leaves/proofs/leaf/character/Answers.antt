use Rattle.std.proofs.Common.{arith, refl, ap, ◌∙◌}
use Rattle.c_syntax_written.specs.Written as trees
use Rattle.c_syntax_written.proofs.WrittenTrees.{expr_character}
use Rattle.c_grammar.specs.Grammar.{expr_rule}
use Rattle.c_grammar.specs.ExprRules as rule
use Rattle.c_parser_steps.specs.Answers.{halted}
use Rattle.c_parser_steps.proofs.Steps.{halts, refuse, take, by}
use Rattle.c_parser_steps.proofs.Choices.{primary_is}
use Rattle.c_parser_leaves.proofs.Boxes.{boxed_so}
use Rattle.c_parser_leaves.proofs.EndSteps.{made_so}
use Rattle.c_parser_leaves.proofs.Shorter.{shorter_by}
use Rattle.c_grammar.specs.Descent.{is_done}
use Rattle.c_parser_leaves.proofs.leaf.character.Goals as goal

pub returns-in-Err-clause-goes : goal.returns-in-Err-clause-goes
returns-in-Err-clause-goes c = halted (halts (refuse c.in-Err.ensures.goes) (λ why rest g. by (expr_rule rule.a_character) refl (primary_is _ _ c.requires) (g _ _)))

pub returns-clause-goes : goal.returns-clause-goes
returns-clause-goes c = made_so _ (by (expr_rule rule.a_character) refl (primary_is _ _ c.requires) (take c.in-Ok.ensures.goes is_done)) (boxed_so _ c.boxed-whole.result c.boxed-whole.ensures (expr_character c.in-Ok.got.0.now.pos _ ∙ ap (trees.Character c.in-Ok.got.0.now.pos) c.byte_of.ensures)) c.handed.ensures.goes

pub returns-clause-shorter : goal.returns-clause-shorter
returns-clause-shorter c = shorter_by c.handed.result c.handed.ensures.shorter (omega (arith, c.in-Ok.ensures.shorter))
