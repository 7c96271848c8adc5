use Rattle.std.proofs.Common.{sym, ap, ◌∙◌}
use Rattle.c_syntax_written.specs.declared.written.Expr.{Expr}
use Rattle.c_syntax_written.specs.Written.{expr_tree}
use Rattle.c_syntax_written.specs.WrittenParts.{as_word}
use Rattle.c_parser_leaves.proofs.ExprSteps.{word_is, word_given}
use Rattle.c_parser_leaves.proofs.suffix.word_of.Goals as goal

pub returns : goal.returns
returns c = word_is (expr_tree c.args.base.value) (ap (λ (v : Expr). as_word (expr_tree v)) (sym c.into_inner.ensures) ∙ sym c.in-Some.ensures)

pub unreachable-requires : goal.unreachable-requires
unreachable-requires c = word_given (expr_tree c.args.base.value) c.requires (ap (λ (v : Expr). as_word (expr_tree v)) (sym c.into_inner.ensures) ∙ sym c.in-None.ensures)
