use Rattle.std.proofs.Common.{arith, refl, ap, ◌∙◌}
use Rattle.c_syntax_written.specs.Written as trees
use Rattle.c_syntax_written.proofs.WrittenTrees.{expr_word}
use Rattle.c_grammar.specs.Grammar.{expr_rule}
use Rattle.c_grammar.specs.ExprRules as rule
use Rattle.c_parser_steps.specs.Answers.{Gives, halted, no_memory}
use Rattle.c_parser_steps.proofs.Steps.{halts, refuse, take, by, passed_on}
use Rattle.c_parser_steps.proofs.Choices.{primary_is}
use Rattle.c_parser_leaves.proofs.Boxes.{boxed_so}
use Rattle.c_parser_leaves.proofs.EndSteps.{made_so}
use Rattle.c_parser_leaves.proofs.Shorter.{shorter_by}
use Rattle.c_grammar.specs.Descent.{is_done}
use Rattle.c_parser_leaves.proofs.leaf.word.Goals as goal

pub returns-in-Err-clause-goes : goal.returns-in-Err-clause-goes
returns-in-Err-clause-goes c = halted (halts (refuse c.in-Err.ensures.goes) (λ why rest g. by (expr_rule rule.a_word) refl (primary_is _ _ c.requires) (g _ _)))

pub returns-in_err-name-clause-goes : goal.returns-in_err-name-clause-goes
returns-in_err-name-clause-goes c = passed_on (Gives _ _) c.from_residual.ensures.1 (halted no_memory)

pub returns-clause-goes : goal.returns-clause-goes
returns-clause-goes c = made_so _ (by (expr_rule rule.a_word) refl (primary_is _ _ c.requires) (take c.in-Ok.ensures.goes is_done)) (boxed_so _ c.boxed-whole.result c.boxed-whole.ensures (expr_word c.in-Ok.got.0.now.pos _ ∙ ap (trees.Word c.in-Ok.got.0.now.pos) c.in_ok-name.ensures)) c.handed.ensures.goes

pub returns-clause-shorter : goal.returns-clause-shorter
returns-clause-shorter c = shorter_by c.handed.result c.handed.ensures.shorter (omega (arith, c.in-Ok.ensures.shorter))
