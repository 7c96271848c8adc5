use Rattle.std.proofs.Common.{refl, sym, arith, ap, ◌∙◌}
use Rattle.c_syntax_written.specs.Written as trees
use Rattle.c_syntax_written.proofs.WrittenTrees.{expr_strings}
use Rattle.c_grammar.specs.Grammar.{expr_rule}
use Rattle.c_grammar.specs.ExprRules as rule
use Rattle.c_parser_steps.specs.Answers.{Gives, halted, no_memory}
use Rattle.c_parser_steps.proofs.Steps.{halts, refuse, by, passed_on}
use Rattle.c_parser_steps.proofs.TextSteps.{text_step, text_stop, text_ends}
use Rattle.c_parser_leaves.proofs.Boxes.{boxed_so}
use Rattle.c_parser_leaves.proofs.EndSteps.{made_so}
use Rattle.c_parser_leaves.proofs.Shorter.{no_longer_by}
use Rattle.c_grammar.specs.Descent.{is_done}
use Rattle.c_parser_leaves.proofs.leaf.more_strings.Goals as goal

pub returns-in-Err-clause-goes : goal.returns-in-Err-clause-goes
returns-in-Err-clause-goes c = halted (halts (refuse c.in-Err.ensures.goes) (λ why rest g. c.texts.invariant.0 _ (text_stop (sym c.texts-test.ensures) g)))

pub returns-in_err-push_bytes-clause-goes : goal.returns-in_err-push_bytes-clause-goes
returns-in_err-push_bytes-clause-goes c = passed_on (Gives _ _) c.from_residual.ensures.1 (halted no_memory)

pub texts-preserved : goal.texts-preserved
texts-preserved c = ((λ o g. c.texts.invariant.0 o (text_step o (sym c.texts-test.ensures) c.in-Ok.ensures.goes c.in_ok-push_bytes.ensures g)), omega (arith, c.in-Ok.ensures.shorter))

pub returns-clause-goes : goal.returns-clause-goes
returns-clause-goes c = made_so _ (c.texts.invariant.0 _ (by (expr_rule rule.texts_end) refl (text_ends _ _ _ _ (sym c.texts-test.ensures)) is_done)) (boxed_so _ c.boxed-whole.result c.boxed-whole.ensures (expr_strings c.args.pos _ ∙ ap (trees.Strings c.args.pos) c.from_vec.ensures)) c.handed.ensures.goes

pub returns-clause-shorter : goal.returns-clause-shorter
returns-clause-shorter c = no_longer_by c.handed.result c.handed.ensures.shorter c.texts.invariant.1
