use Rattle.c_syntax_written.specs.declared.declaration.Init.{Init}
use Rattle.c_parser_steps.specs.Views.{scene_of}
use Rattle.c_syntax_written.specs.WrittenDecl.{init_tree, inits_from}
use Rattle.c_grammar.specs.Parts.{Initialiser, Initialisers, MoreInitialisers, NextInitialiser}
use Rattle.std.proofs.Common.{refl, sym, ◌∙◌, arith}
use Rattle.c_syntax_written.proofs.WrittenDeclTrees.{init_braces}
use Rattle.c_parser_steps.proofs.Steps.{borne, if_false, if_true, unborne, carried}
use Rattle.c_parser.proofs.DeclStarts.{brace_first}
use Rattle.c_parser_steps.proofs.Paths.{after, barred_at, begin, behind, ends, goes_so, inside, lasts, halts_after, halts_behind, halts_inside}
use Rattle.c_parser.proofs.DeclSteps.{same_inits}
use Rattle.c_parser_steps.proofs.Last.{same, last_part}
use Rattle.c_parser_steps.specs.Answers.{halted, no_memory}
use Rattle.c_parser_exprs.proofs.Shorter.{shorter_still}
use Rattle.c_parser.proofs.init.+initialisers.Goals as goal

pub initialiser-returns-then-designator_ahead-clause-goes : goal.initialiser-returns-then-designator_ahead-clause-goes
initialiser-returns-then-designator_ahead-clause-goes t c = barred_at {w = scene_of c.args.context.now} {p = Initialiser} {view = λ (i : Init). init_tree i} (borne _ (sym c.designator_ahead.ensures ∙ c.if-designator_ahead.true)) c.barred.ensures

pub initialiser-returns-then-comes-clause-goes : goal.initialiser-returns-then-comes-clause-goes
initialiser-returns-then-comes-clause-goes t c = c.braces.ensures.goes

pub initialiser-returns-in-Err-clause-goes : goal.initialiser-returns-in-Err-clause-goes
initialiser-returns-in-Err-clause-goes t c = halted (halts_behind (begin {p = Initialiser} (λ o g. g) (unborne _ (sym c.designator_ahead.ensures ∙ c.if-designator_ahead.false)) (if_false _ (sym c.comes.ensures ∙ c.if-comes.false))) c.in-Err.ensures.goes)

pub initialiser-returns-clause-goes : goal.initialiser-returns-clause-goes
initialiser-returns-clause-goes t c = ends (behind (begin {p = Initialiser} (λ o g. g) (unborne _ (sym c.designator_ahead.ensures ∙ c.if-designator_ahead.false)) (if_false _ (sym c.comes.ensures ∙ c.if-comes.false))) c.in-Ok.ensures.goes) c.value_init.ensures

pub braces-returns-in-Err-clause-goes : goal.braces-returns-in-Err-clause-goes
braces-returns-in-Err-clause-goes t c = halted (halts_after (begin {p = Initialiser} (λ o g. g) (unborne _ (brace_first _ c.requires)) (if_true _ c.requires)) c.in-Err.ensures.goes)

pub braces-returns-in-Err-initialisers-clause-goes : goal.braces-returns-in-Err-initialisers-clause-goes
braces-returns-in-Err-initialisers-clause-goes t c = halted (halts_inside (after (begin {p = Initialiser} (λ o g. g) (unborne _ (brace_first _ c.requires)) (if_true _ c.requires)) c.in-Ok.ensures.goes) c.in-Err-initialisers.ensures.goes)

pub braces-returns-clause-goes : goal.braces-returns-clause-goes
braces-returns-clause-goes t c = ends (inside (after (begin {p = Initialiser} (λ o g. g) (unborne _ (brace_first _ c.requires)) (if_true _ c.requires)) c.in-Ok.ensures.goes) c.in-Ok-initialisers.ensures.goes) (init_braces _ _)

pub initialisers-returns-in-Err-clause-goes : goal.initialisers-returns-in-Err-clause-goes
initialisers-returns-in-Err-clause-goes t c = halted (halts_behind (begin {p = Initialisers} (λ o g. g) refl refl) c.in-Err.ensures.goes)

pub initialisers-returns-in-Err-one_init-clause-goes : goal.initialisers-returns-in-Err-one_init-clause-goes
initialisers-returns-in-Err-one_init-clause-goes t c = halted no_memory

pub initialisers-returns-clause-goes : goal.initialisers-returns-clause-goes
initialisers-returns-clause-goes t c = lasts (behind (begin {p = Initialisers} (λ o g. g) refl refl) c.in-Ok.ensures.goes) (carried c.more_initialisers.ensures.goes (λ o g. same_inits c.in-Ok-one_init.ensures g)) (λ i. refl)

pub more_initialisers-returns-in-Err-clause-goes : goal.more_initialisers-returns-in-Err-clause-goes
more_initialisers-returns-in-Err-clause-goes t c = halted (halts_after (begin {p = MoreInitialisers (inits_from c.loop-rest.items.items)} c.loop-rest.invariant.0 refl (if_false _ (sym c.comes.ensures ∙ c.loop-rest-test.true))) c.in-Err.ensures.goes)

pub more_initialisers-returns-then-comes-clause-goes : goal.more_initialisers-returns-then-comes-clause-goes
more_initialisers-returns-then-comes-clause-goes t c = carried c.comma_end.ensures.goes (λ o g. goes_so (after (begin {p = MoreInitialisers (inits_from c.loop-rest.items.items)} c.loop-rest.invariant.0 refl (if_false _ (sym c.comes.ensures ∙ c.loop-rest-test.true))) c.in-Ok.ensures.goes) o (last_part same o g))

pub more_initialisers-returns-in-Err-initialiser-clause-goes : goal.more_initialisers-returns-in-Err-initialiser-clause-goes
more_initialisers-returns-in-Err-initialiser-clause-goes t c = halted (halts_behind (begin {p = NextInitialiser (inits_from c.loop-rest.items.items)} (λ o g. goes_so (after (begin {p = MoreInitialisers (inits_from c.loop-rest.items.items)} c.loop-rest.invariant.0 refl (if_false _ (sym c.comes.ensures ∙ c.loop-rest-test.true))) c.in-Ok.ensures.goes) o (last_part same o g)) refl (if_false _ (sym c.comes-in-loop-rest.ensures ∙ c.if-comes.false))) c.in-Err-initialiser.ensures.goes)

pub more_initialisers-returns-in-Err-push_init-clause-goes : goal.more_initialisers-returns-in-Err-push_init-clause-goes
more_initialisers-returns-in-Err-push_init-clause-goes t c = halted no_memory

pub more_initialisers-loop-rest-preserved : goal.more_initialisers-loop-rest-preserved
more_initialisers-loop-rest-preserved t c = ((λ o g. goes_so (behind (begin {p = NextInitialiser (inits_from c.loop-rest.items.items)} (λ o g. goes_so (after (begin {p = MoreInitialisers (inits_from c.loop-rest.items.items)} c.loop-rest.invariant.0 refl (if_false _ (sym c.comes.ensures ∙ c.loop-rest-test.true))) c.in-Ok.ensures.goes) o (last_part same o g)) refl (if_false _ (sym c.comes-in-loop-rest.ensures ∙ c.if-comes.false))) c.in-Ok-initialiser.ensures.goes) o (last_part same o (same_inits c.in-Ok-push_init.ensures g))), omega (arith, c.in-Ok-initialiser.ensures.shorter, c.in-Ok.ensures.shorter))

pub more_initialisers-returns-in-Err-taken-clause-goes : goal.more_initialisers-returns-in-Err-taken-clause-goes
more_initialisers-returns-in-Err-taken-clause-goes t c = halted (halts_after (begin {p = MoreInitialisers (inits_from c.loop-rest.items.items)} c.loop-rest.invariant.0 refl (if_true _ (sym c.comes.ensures ∙ c.loop-rest-test.false))) c.in-Err-taken.ensures.goes)

pub more_initialisers-returns-clause-goes : goal.more_initialisers-returns-clause-goes
more_initialisers-returns-clause-goes t c = ends (after (begin {p = MoreInitialisers (inits_from c.loop-rest.items.items)} c.loop-rest.invariant.0 refl (if_true _ (sym c.comes.ensures ∙ c.loop-rest-test.false))) c.in-Ok-taken.ensures.goes) c.from_vec.ensures

pub braces-returns-clause-shorter : goal.braces-returns-clause-shorter
braces-returns-clause-shorter t c = omega (arith, c.in-Ok.ensures.shorter, c.in-Ok-initialisers.ensures.shorter)

pub initialisers-returns-clause-shorter : goal.initialisers-returns-clause-shorter
initialisers-returns-clause-shorter t c = shorter_still c.more_initialisers.result c.more_initialisers.ensures.shorter (omega (arith, c.in-Ok.ensures.shorter))

pub more_initialisers-returns-then-comes-clause-shorter : goal.more_initialisers-returns-then-comes-clause-shorter
more_initialisers-returns-then-comes-clause-shorter t c = shorter_still c.comma_end.result c.comma_end.ensures.shorter (omega (arith, c.in-Ok.ensures.shorter))

pub more_initialisers-returns-clause-shorter : goal.more_initialisers-returns-clause-shorter
more_initialisers-returns-clause-shorter t c = omega (arith, c.in-Ok-taken.ensures.shorter)
