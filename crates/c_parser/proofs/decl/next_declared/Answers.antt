use Rattle.std.proofs.Common.{refl, arith}
use Rattle.c_grammar.specs.Parts.{ADecl, Ending}
use Rattle.c_parser_steps.specs.Answers.{stepped, stalled}
use Rattle.c_parser_steps.proofs.Steps.{halts, if_false}
use Rattle.c_parser_steps.proofs.Paths.{after, begin, behind, goes_so, halts_after, halts_behind}
use Rattle.c_parser_steps.proofs.Last.{same, last_part}
use Rattle.c_parser.proofs.DeclSteps.{initialised_at, not_initialised_at}
use Rattle.c_parser.proofs.decl.next_declared.Goals as goal

pub returns-in-Err-clause-goes : goal.returns-in-Err-clause-goes
returns-in-Err-clause-goes c = λ s before. stalled (halts_after (begin {p = ADecl (Ending s before)} (λ o g. g) refl (if_false _ c.requires)) c.in-Err.ensures.goes)

pub returns-in-Err-declarator-clause-goes : goal.returns-in-Err-declarator-clause-goes
returns-in-Err-declarator-clause-goes c = λ s before. stalled (halts_behind (after (begin {p = ADecl (Ending s before)} (λ o g. g) refl (if_false _ c.requires)) c.in-Ok.ensures.goes) c.in-Err-declarator.ensures.goes)

pub returns-in-Err-init_of-clause-goes : goal.returns-in-Err-init_of-clause-goes
returns-in-Err-init_of-clause-goes c = λ s before. stalled (halts (not_initialised_at c.in-Err-init_of.ensures.goes) (λ why rest g. goes_so (behind (after (begin {p = ADecl (Ending s before)} (λ o g. g) refl (if_false _ c.requires)) c.in-Ok.ensures.goes) c.in-Ok-declarator.ensures.goes) _ (last_part same _ g)))

pub returns-clause-goes : goal.returns-clause-goes
returns-clause-goes c = λ s before. stepped (λ o g. goes_so (behind (after (begin {p = ADecl (Ending s before)} (λ o g. g) refl (if_false _ c.requires)) c.in-Ok.ensures.goes) c.in-Ok-declarator.ensures.goes) o (last_part same o (initialised_at c.in-Ok-init_of.ensures.goes o g)))

pub returns-clause-shorter : goal.returns-clause-shorter
returns-clause-shorter c = omega (arith, c.in-Ok.ensures.shorter, c.in-Ok-declarator.ensures.shorter, c.in-Ok-init_of.ensures.shorter)
