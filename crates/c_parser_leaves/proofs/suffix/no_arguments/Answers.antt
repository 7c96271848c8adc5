use Rattle.std.proofs.Common.{refl}
use Rattle.c_grammar.specs.Grammar.{expr_rule}
use Rattle.c_grammar.specs.ExprRules as rule
use Rattle.c_parser_steps.specs.Answers.{given, halted}
use Rattle.c_parser_steps.proofs.Steps.{halts, refuse, take, by, done, if_true}
use Rattle.c_parser_leaves.proofs.suffix.no_arguments.Goals as goal

pub returns-in-Err-clause-goes : goal.returns-in-Err-clause-goes
returns-in-Err-clause-goes c = halted (halts (refuse c.in-Err.ensures.goes) (λ why rest g. by (expr_rule rule.no_arguments) refl (if_true _ c.requires) (g _ _)))

pub returns-clause-goes : goal.returns-clause-goes
returns-clause-goes c = given (by (expr_rule rule.no_arguments) refl (if_true _ c.requires) (take c.in-Ok.ensures.goes (done c.new.ensures)))
