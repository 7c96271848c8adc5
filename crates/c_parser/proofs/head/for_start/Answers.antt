use Rattle.c_grammar.specs.Parts.{ForStart}
use Rattle.std.proofs.Common.{refl, sym, ap, ◌∙◌, arith}
use Rattle.std.specs.Prelude.{not}
use Rattle.c_syntax_written.specs.declared.declaration.Decl.{Decl}
use Rattle.c_syntax_written.specs.WrittenDecl.{decl_tree}
use Rattle.c_syntax_written.specs.WrittenFile as trees
use Rattle.c_syntax_written.proofs.WrittenFileTrees.{forstart_nothing, forstart_value, forstart_declares}
use Rattle.c_parser_steps.proofs.Steps.{if_false, if_true}
use Rattle.c_parser_steps.proofs.Paths.{after, begin, behind, ends, halts_after, halts_behind, where_so}
use Rattle.c_parser_steps.specs.Answers.{halted, no_memory}
use Rattle.c_parser.proofs.head.for_start.Goals as goal

pub returns-in-Err-clause-goes : goal.returns-in-Err-clause-goes
returns-in-Err-clause-goes c = halted (halts_after (begin {p = ForStart} (λ o g. g) refl (if_true _ (sym c.comes.ensures ∙ c.if-comes.true))) c.in-Err.ensures.goes)

pub returns-then-comes-clause-goes : goal.returns-then-comes-clause-goes
returns-then-comes-clause-goes c = ends (after (begin {p = ForStart} (λ o g. g) refl (if_true _ (sym c.comes.ensures ∙ c.if-comes.true))) c.in-Ok.ensures.goes) forstart_nothing

pub returns-in-Err-declaration-clause-goes : goal.returns-in-Err-declaration-clause-goes
returns-in-Err-declaration-clause-goes c = halted (halts_behind (where_so (begin {p = ForStart} (λ o g. g) refl (if_false _ (sym c.comes.ensures ∙ c.if-comes.false) ∙ if_true _ (sym c.spec_ahead.ensures ∙ c.if-spec_ahead.true))) (sym c.spec_ahead.ensures ∙ c.if-spec_ahead.true)) c.in-Err-declaration.ensures.goes)

pub returns-then-spec_ahead-clause-goes : goal.returns-then-spec_ahead-clause-goes
returns-then-spec_ahead-clause-goes c = ends (behind (where_so (begin {p = ForStart} (λ o g. g) refl (if_false _ (sym c.comes.ensures ∙ c.if-comes.false) ∙ if_true _ (sym c.spec_ahead.ensures ∙ c.if-spec_ahead.true))) (sym c.spec_ahead.ensures ∙ c.if-spec_ahead.true)) c.in-Ok-declaration.ensures.goes) (forstart_declares _ ∙ ap (λ (v : Decl). trees.Declares (decl_tree v)) c.in-Ok-boxed.ensures)

pub returns-in-Err-boxed-clause-goes : goal.returns-in-Err-boxed-clause-goes
returns-in-Err-boxed-clause-goes c = halted no_memory

pub returns-in-Err-joined_operands-clause-goes : goal.returns-in-Err-joined_operands-clause-goes
returns-in-Err-joined_operands-clause-goes c = halted (halts_behind (where_so (begin {p = ForStart} (λ o g. g) refl (if_false _ (sym c.comes.ensures ∙ c.if-comes.false) ∙ if_false _ (sym c.spec_ahead.ensures ∙ c.if-spec_ahead.false))) (ap not (sym c.spec_ahead.ensures ∙ c.if-spec_ahead.false))) c.in-Err-joined_operands.ensures.goes)

pub returns-in-Err-taken-clause-goes : goal.returns-in-Err-taken-clause-goes
returns-in-Err-taken-clause-goes c = halted (halts_after (behind (where_so (begin {p = ForStart} (λ o g. g) refl (if_false _ (sym c.comes.ensures ∙ c.if-comes.false) ∙ if_false _ (sym c.spec_ahead.ensures ∙ c.if-spec_ahead.false))) (ap not (sym c.spec_ahead.ensures ∙ c.if-spec_ahead.false))) c.in-Ok-joined_operands.ensures.goes) c.in-Err-taken.ensures.goes)

pub returns-clause-goes : goal.returns-clause-goes
returns-clause-goes c = ends (after (behind (where_so (begin {p = ForStart} (λ o g. g) refl (if_false _ (sym c.comes.ensures ∙ c.if-comes.false) ∙ if_false _ (sym c.spec_ahead.ensures ∙ c.if-spec_ahead.false))) (ap not (sym c.spec_ahead.ensures ∙ c.if-spec_ahead.false))) c.in-Ok-joined_operands.ensures.goes) c.in-Ok-taken.ensures.goes) (forstart_value _)

pub returns-clause-shorter : goal.returns-clause-shorter
returns-clause-shorter c = omega (arith, c.in-Ok-joined_operands.ensures.shorter, c.in-Ok-taken.ensures.shorter)
