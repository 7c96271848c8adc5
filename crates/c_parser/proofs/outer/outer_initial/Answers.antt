use Rattle.c_syntax_written.specs.Written.{specs_tree}
use Rattle.c_parser_steps.specs.Views.{boxed_declarator}
use Rattle.c_grammar.specs.Parts.{AnOuter, OuterInitial}
use Rattle.std.proofs.Common.{refl, sym, ◌∙◌}
use Rattle.c_syntax_written.proofs.WrittenFileTrees.{outer_declared}
use Rattle.c_parser_steps.proofs.Steps.{if_false}
use Rattle.c_parser_steps.proofs.Paths.{begin, behind, ends, not_behind}
use Rattle.c_parser.proofs.outer.outer_initial.Goals as goal

pub returns-then-comes-clause-goes : goal.returns-then-comes-clause-goes
returns-then-comes-clause-goes c = c.function.ensures.goes

pub returns-in_err-decl-clause-goes : goal.returns-in_err-decl-clause-goes
returns-in_err-decl-clause-goes c = not_behind c.from_residual.ensures.1 (begin {p = AnOuter (OuterInitial (specs_tree c.args.specs) (boxed_declarator c.args.first))} (λ o g. g) refl (if_false _ (sym c.comes.ensures ∙ c.if-comes.false))) c.in_err-decl.ensures.goes

pub returns-clause-goes : goal.returns-clause-goes
returns-clause-goes c = ends (behind (begin {p = AnOuter (OuterInitial (specs_tree c.args.specs) (boxed_declarator c.args.first))} (λ o g. g) refl (if_false _ (sym c.comes.ensures ∙ c.if-comes.false))) c.in_ok-decl.ensures.goes) (outer_declared _)
