use Rattle.c_grammar.specs.Parts as parts
use Rattle.c_grammar.specs.Parts.{AnOuter}
use Rattle.std.proofs.Common.{refl}
use Rattle.c_parser_steps.proofs.Paths.{begin, behind, lasts, not_behind}
use Rattle.c_parser.proofs.outer.outer.Goals as goal

pub returns-in_err-words-clause-goes : goal.returns-in_err-words-clause-goes
returns-in_err-words-clause-goes c = not_behind c.from_residual.ensures.1 (begin {p = AnOuter parts.Outer} (λ o g. g) refl refl) c.in_err-words.ensures.goes

pub returns-clause-goes : goal.returns-clause-goes
returns-clause-goes c = lasts (behind (begin {p = AnOuter parts.Outer} (λ o g. g) refl refl) c.in_ok-words.ensures.goes) c.outer_declared.ensures.goes (λ o. refl)
