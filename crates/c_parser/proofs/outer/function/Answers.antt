use Rattle.c_syntax_written.specs.Written.{specs_tree}
use Rattle.c_parser_steps.specs.Views.{boxed_declarator}
use Rattle.c_grammar.specs.Parts.{AnOuter, OuterInitial}
use Rattle.std.proofs.Common.{refl}
use Rattle.c_parser_steps.proofs.Steps.{if_true}
use Rattle.c_parser_steps.proofs.Paths.{after, begin, ends, inside, not_after, not_inside}
use Rattle.c_parser.proofs.outer.function.Goals as goal

pub returns-in_err-opening-clause-goes : goal.returns-in_err-opening-clause-goes
returns-in_err-opening-clause-goes c = not_after c.from_residual.ensures.1 (begin {p = AnOuter (OuterInitial (specs_tree c.args.specs) (boxed_declarator c.args.declarator))} (λ o g. g) refl (if_true _ c.requires)) c.in_err-opening.ensures.goes

pub returns-in_err-body-clause-goes : goal.returns-in_err-body-clause-goes
returns-in_err-body-clause-goes c = not_inside c.from_residual-in_err-body.ensures.1 (after (begin {p = AnOuter (OuterInitial (specs_tree c.args.specs) (boxed_declarator c.args.declarator))} (λ o g. g) refl (if_true _ c.requires)) c.in_ok-opening.ensures.goes) c.in_err-body.ensures.goes

pub returns-clause-goes : goal.returns-clause-goes
returns-clause-goes c = ends (inside (after (begin {p = AnOuter (OuterInitial (specs_tree c.args.specs) (boxed_declarator c.args.declarator))} (λ o g. g) refl (if_true _ c.requires)) c.in_ok-opening.ensures.goes) c.in_ok-body.ensures.goes) c.function_outer.ensures
