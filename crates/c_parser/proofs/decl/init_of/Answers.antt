use Rattle.c_grammar.specs.Parts.{ADecl, Initial}
use Rattle.std.proofs.Common.{[], ◌∷◌, ◌++◌, refl, sym, ap, ◌∙◌, arith}
use Rattle.std.specs.Prelude.{Some}
use Rattle.c_syntax_written.specs.declared.declaration.Init.{Init}
use Rattle.c_syntax_written.specs.WrittenDecl.{init_tree}
use Rattle.c_parser_steps.specs.Answers.{no_memory, stepped, stalled}
use Rattle.c_parser_steps.proofs.Steps.{if_false, if_true}
use Rattle.c_parser_steps.proofs.Paths.{after, begin, goes_so, halts_after, halts_inside, inside}
use Rattle.c_parser.proofs.DeclSteps.{same_ending}
use Rattle.c_parser_steps.proofs.Last.{same, last_part}
use Rattle.c_parser.proofs.decl.init_of.Goals as goal

pub returns-clause-goes : goal.returns-clause-goes
returns-clause-goes c = λ s before d. stepped (λ o g. goes_so (begin {p = ADecl (Initial s before d)} (λ o g. g) refl (if_false _ (sym c.comes.ensures ∙ c.if-comes.false))) o (last_part same o g))

pub returns-in-Err-clause-goes : goal.returns-in-Err-clause-goes
returns-in-Err-clause-goes c = λ s before d. stalled (halts_after (begin {p = ADecl (Initial s before d)} (λ o g. g) refl (if_true _ (sym c.comes.ensures ∙ c.if-comes.true))) c.in-Err.ensures.goes)

pub returns-in-Err-initialiser-clause-goes : goal.returns-in-Err-initialiser-clause-goes
returns-in-Err-initialiser-clause-goes c = λ s before d. stalled (halts_inside (after (begin {p = ADecl (Initial s before d)} (λ o g. g) refl (if_true _ (sym c.comes.ensures ∙ c.if-comes.true))) c.in-Ok.ensures.goes) c.in-Err-initialiser.ensures.goes)

pub returns-in-Err-boxed-clause-goes : goal.returns-in-Err-boxed-clause-goes
returns-in-Err-boxed-clause-goes c = λ s before d. stalled no_memory

pub returns-then-comes-clause-goes : goal.returns-then-comes-clause-goes
returns-then-comes-clause-goes c = λ s before d. stepped (λ o g. goes_so (inside (after (begin {p = ADecl (Initial s before d)} (λ o g. g) refl (if_true _ (sym c.comes.ensures ∙ c.if-comes.true))) c.in-Ok.ensures.goes) c.in-Ok-initialiser.ensures.goes) o (last_part same o (same_ending (ap (λ (v : Init). before ++ record { declarator = d; init = Some (init_tree v) } ∷ []) c.in-Ok-boxed.ensures) g)))

pub returns-then-comes-clause-shorter : goal.returns-then-comes-clause-shorter
returns-then-comes-clause-shorter c = omega (arith, c.in-Ok.ensures.shorter, c.in-Ok-initialiser.ensures.shorter)
