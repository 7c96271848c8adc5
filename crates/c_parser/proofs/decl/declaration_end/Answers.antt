use Rattle.c_syntax_written.specs.Written.{specs_tree}
use Rattle.c_grammar.specs.Parts.{ADecl, Ending}
use Rattle.std.proofs.Common.{refl, ap}
use Rattle.c_syntax_written.specs.WrittenDecl.{initdeclarator_tree}
use Rattle.std.specs.Prelude.{map}
use Rattle.c_parser_steps.proofs.Steps.{if_true}
use Rattle.c_parser.proofs.MadeDecls.{same_decl}
use Rattle.c_parser_steps.proofs.Paths.{after, begin, ends, halts_after}
use Rattle.c_parser_steps.specs.Answers.{halted}
use Rattle.c_parser.proofs.decl.declaration_end.Goals as goal

pub returns-in-Err-clause-goes : goal.returns-in-Err-clause-goes
returns-in-Err-clause-goes c = halted (halts_after (begin {p = ADecl (Ending (specs_tree c.args.specs) (map initdeclarator_tree c.args.inits.items))} (λ o g. g) refl (if_true _ c.requires)) c.in-Err.ensures.goes)

pub returns-clause-goes : goal.returns-clause-goes
returns-clause-goes c = ends (after (begin {p = ADecl (Ending (specs_tree c.args.specs) (map initdeclarator_tree c.args.inits.items))} (λ o g. g) refl (if_true _ c.requires)) c.in-Ok.ensures.goes) (same_decl c.specs_pos.ensures (ap (map initdeclarator_tree) c.from_vec.ensures))
