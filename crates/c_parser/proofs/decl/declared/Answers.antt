use Rattle.c_syntax_written.specs.Written.{specs_tree}
use Rattle.c_grammar.specs.Parts.{ADecl, Declared}
use Rattle.std.proofs.Common.{refl, sym, ◌∙◌, arith}
use Rattle.c_parser_steps.proofs.Steps.{if_false, if_true}
use Rattle.c_parser_steps.proofs.Paths.{after, begin, behind, ends, lasts, halts_after, halts_behind}
use Rattle.c_parser_exprs.proofs.Shorter.{shorter_still}
use Rattle.c_parser_steps.specs.Answers.{halted}
use Rattle.c_parser.proofs.decl.declared.Goals as goal

pub returns-in-Err-clause-goes : goal.returns-in-Err-clause-goes
returns-in-Err-clause-goes c = halted (halts_after (begin {p = ADecl (Declared (specs_tree c.args.specs))} (λ o g. g) refl (if_true _ (sym c.comes.ensures ∙ c.if-comes.true))) c.in-Err.ensures.goes)

pub returns-then-comes-clause-goes : goal.returns-then-comes-clause-goes
returns-then-comes-clause-goes c = ends (after (begin {p = ADecl (Declared (specs_tree c.args.specs))} (λ o g. g) refl (if_true _ (sym c.comes.ensures ∙ c.if-comes.true))) c.in-Ok.ensures.goes) c.no_declarators.ensures

pub returns-in-Err-declarator-clause-goes : goal.returns-in-Err-declarator-clause-goes
returns-in-Err-declarator-clause-goes c = halted (halts_behind (begin {p = ADecl (Declared (specs_tree c.args.specs))} (λ o g. g) refl (if_false _ (sym c.comes.ensures ∙ c.if-comes.false))) c.in-Err-declarator.ensures.goes)

pub returns-clause-goes : goal.returns-clause-goes
returns-clause-goes c = lasts (behind (begin {p = ADecl (Declared (specs_tree c.args.specs))} (λ o g. g) refl (if_false _ (sym c.comes.ensures ∙ c.if-comes.false))) c.in-Ok-declarator.ensures.goes) c.initial.ensures.goes (λ d. refl)

pub returns-clause-shorter : goal.returns-clause-shorter
returns-clause-shorter c = shorter_still c.initial.result c.initial.ensures.shorter (omega (arith, c.in-Ok-declarator.ensures.shorter))
