use Rattle.std.proofs.Common.{arith}
use Rattle.c_grammar.specs.Grammar.{expr_rule}
use Rattle.c_grammar.specs.ExprRules as rule
use Rattle.c_parser_steps.specs.Views.{boxed_expr, scene_of}
use Rattle.c_parser_steps.specs.Answers.{stalled}
use Rattle.c_parser_steps.proofs.Steps.{halts, refuse, take, by, sign_is}
use Rattle.c_parser_steps.proofs.Choices.{suffix_is}
use Rattle.c_parser_leaves.proofs.ExprSteps.{suffix_free}
use Rattle.c_parser_steps.proofs.Last.{same, last_inside}
use Rattle.c_parser_leaves.proofs.EndSteps.{longer_so}
use Rattle.c_parser_leaves.proofs.Shorter.{shorter_by}
use Rattle.c_parser_leaves.proofs.suffix.post_step.Goals as goal

pub returns-in-Err-clause-goes : goal.returns-in-Err-clause-goes
returns-in-Err-clause-goes c =
    stalled (halts (refuse (sign_is c.step_sign.ensures c.in-Err.ensures.goes)) (λ why rest g. by (expr_rule (rule.post_step c.args.way)) (suffix_free (scene_of c.args.context.now) (boxed_expr c.args.base) c.args.tokens.now (suffix_is (scene_of c.args.context.now) (boxed_expr c.args.base) c.args.tokens.now c.requires).1) (suffix_is (scene_of c.args.context.now) (boxed_expr c.args.base) c.args.tokens.now c.requires).0 (g _ _)))

pub returns-clause-goes : goal.returns-clause-goes
returns-clause-goes c =
    longer_so _ (λ o h. by (expr_rule (rule.post_step c.args.way)) (suffix_free (scene_of c.args.context.now) (boxed_expr c.args.base) c.args.tokens.now (suffix_is (scene_of c.args.context.now) (boxed_expr c.args.base) c.args.tokens.now c.requires).1) (suffix_is (scene_of c.args.context.now) (boxed_expr c.args.base) c.args.tokens.now c.requires).0 (take (sign_is c.step_sign.ensures c.in-Ok.ensures.goes) (last_inside same o h))) c.post_step_expr.ensures c.handed.ensures.goes

pub returns-clause-shorter : goal.returns-clause-shorter
returns-clause-shorter c = shorter_by c.handed.result c.handed.ensures.shorter (omega (arith, c.in-Ok.ensures.shorter))
