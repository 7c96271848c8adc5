use Rattle.std.proofs.Common.{arith}
use Rattle.c_syntax_written.specs.Written as trees
use Rattle.c_grammar.specs.Parts as part
use Rattle.c_grammar.specs.Process as process
use Rattle.c_grammar.specs.Grammar.{expr_rule}
use Rattle.c_grammar.specs.ExprRules as rule
use Rattle.c_parser_steps.specs.Views.{boxed_expr, scene_of}
use Rattle.c_parser_steps.specs.Answers.{stalled}
use Rattle.c_parser_steps.proofs.Steps.{halts, stall, step, by}
use Rattle.c_parser_steps.proofs.Choices.{suffix_is}
use Rattle.c_parser_leaves.proofs.ExprSteps.{suffix_free}
use Rattle.c_parser_steps.proofs.Last.{same, last_inside}
use Rattle.c_parser_leaves.proofs.EndSteps.{longer_so}
use Rattle.c_parser_leaves.proofs.Shorter.{shorter_by}
use Rattle.c_parser_leaves.proofs.suffix.dot.Goals as goal

pub returns-in-Err-clause-goes : goal.returns-in-Err-clause-goes
returns-in-Err-clause-goes c = stalled (halts (stall (c.in-Err.ensures.goes (part.AnExpr (part.Suffixes (boxed_expr c.args.base))) (λ at name. process.part 1 (scene_of c.args.context.now) (part.AnExpr (part.Suffixes (trees.Dot at (boxed_expr c.args.base) name))) process.give))) (λ why rest g. by (expr_rule rule.dot) (suffix_free (scene_of c.args.context.now) (boxed_expr c.args.base) c.args.tokens.now (suffix_is (scene_of c.args.context.now) (boxed_expr c.args.base) c.args.tokens.now c.requires).1) ((suffix_is (scene_of c.args.context.now) (boxed_expr c.args.base) c.args.tokens.now c.requires).0) g))

pub returns-clause-goes : goal.returns-clause-goes
returns-clause-goes c = longer_so _ (λ o h. by (expr_rule rule.dot) (suffix_free (scene_of c.args.context.now) (boxed_expr c.args.base) c.args.tokens.now (suffix_is (scene_of c.args.context.now) (boxed_expr c.args.base) c.args.tokens.now c.requires).1) ((suffix_is (scene_of c.args.context.now) (boxed_expr c.args.base) c.args.tokens.now c.requires).0) (step (c.in-Ok.ensures.goes (part.AnExpr (part.Suffixes (boxed_expr c.args.base))) (λ at name. process.part 1 (scene_of c.args.context.now) (part.AnExpr (part.Suffixes (trees.Dot at (boxed_expr c.args.base) name))) process.give)) o (last_inside same o h))) c.dot_expr.ensures c.handed.ensures.goes

pub returns-clause-shorter : goal.returns-clause-shorter
returns-clause-shorter c = shorter_by c.handed.result c.handed.ensures.shorter (omega (arith, c.in-Ok.ensures.shorter))
