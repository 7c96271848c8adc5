use Rattle.c_syntax_written.specs.Written.{specs_tree}
use Rattle.c_grammar.specs.Parts.{AnOuter, OuterDeclared}
use Rattle.std.proofs.Common.{refl, sym, ap, ◌∙◌}
use Rattle.c_syntax_written.specs.WrittenFile as trees
use Rattle.c_syntax_written.proofs.WrittenFileTrees.{outer_declared}
use Rattle.c_parser_steps.proofs.Steps.{if_false, if_true}
use Rattle.c_parser_steps.proofs.Paths.{after, begin, behind, ends, lasts, not_after, not_behind}
use Rattle.c_parser.proofs.outer.outer_declared.Goals as goal

pub returns-in_err-_end-clause-goes : goal.returns-in_err-_end-clause-goes
returns-in_err-_end-clause-goes c = not_after c.from_residual.ensures.1 (begin {p = AnOuter (OuterDeclared (specs_tree c.args.specs))} (λ o g. g) refl (if_true _ (sym c.comes.ensures ∙ c.if-comes.true))) c.in_err-_end.ensures.goes

pub returns-then-comes-clause-goes : goal.returns-then-comes-clause-goes
returns-then-comes-clause-goes c = ends (after (begin {p = AnOuter (OuterDeclared (specs_tree c.args.specs))} (λ o g. g) refl (if_true _ (sym c.comes.ensures ∙ c.if-comes.true))) c.in_ok-_end.ensures.goes) (outer_declared _ ∙ ap trees.Declared c.no_declarators-decl.ensures)

pub returns-in_err-first-clause-goes : goal.returns-in_err-first-clause-goes
returns-in_err-first-clause-goes c = not_behind c.from_residual-in_err-first.ensures.1 (begin {p = AnOuter (OuterDeclared (specs_tree c.args.specs))} (λ o g. g) refl (if_false _ (sym c.comes.ensures ∙ c.if-comes.false))) c.in_err-first.ensures.goes

pub returns-clause-goes : goal.returns-clause-goes
returns-clause-goes c = lasts (behind (begin {p = AnOuter (OuterDeclared (specs_tree c.args.specs))} (λ o g. g) refl (if_false _ (sym c.comes.ensures ∙ c.if-comes.false))) c.in_ok-first.ensures.goes) c.outer_initial.ensures.goes (λ o. refl)
