use Rattle.std.proofs.Common.{refl, sym, arith}
use Rattle.c_grammar.specs.Grammar.{type_rule}
use Rattle.c_grammar.specs.TypeRules as kind
use Rattle.c_parser_steps.specs.Answers.{stepped, stalled}
use Rattle.c_parser_steps.proofs.Steps.{halts, refuse, by, if_true}
use Rattle.c_parser_leaves.proofs.DeclaratorSteps.{const_step}
use Rattle.c_parser_leaves.proofs.tail.consts.Goals as goal

pub returns-in-Err-clause-goes : goal.returns-in-Err-clause-goes
returns-in-Err-clause-goes c = stalled (halts (refuse c.in-Err.ensures.goes) (λ why rest g. c.words.invariant.0 _ (by (type_rule kind.pointer_const) refl (if_true _ (sym c.words-test.ensures)) (g _ _))))

pub words-preserved : goal.words-preserved
words-preserved c = ((λ o g. c.words.invariant.0 o (const_step o (sym c.words-test.ensures) c.in-Ok.ensures.goes g)), omega (arith, c.in-Ok.ensures.shorter))

pub returns-clause-goes : goal.returns-clause-goes
returns-clause-goes c = stepped (λ o h. c.words.invariant.0 o h)
