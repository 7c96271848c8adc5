use Rattle.c_syntax_written.specs.WrittenDecl.{inits_from}
use Rattle.c_grammar.specs.Parts.{NextInitialiser}
use Rattle.std.proofs.Common.{refl}
use Rattle.c_parser_steps.proofs.Steps.{if_true}
use Rattle.c_parser_steps.proofs.Paths.{after, begin, ends, halts_after}
use Rattle.c_parser_steps.specs.Answers.{halted}
use Rattle.c_parser.proofs.init.comma_end.Goals as goal

pub returns-in-Err-clause-goes : goal.returns-in-Err-clause-goes
returns-in-Err-clause-goes c = halted (halts_after (begin {p = NextInitialiser (inits_from c.args.items.items)} (λ o g. g) refl (if_true _ c.requires)) c.in-Err.ensures.goes)

pub returns-clause-goes : goal.returns-clause-goes
returns-clause-goes c = ends (after (begin {p = NextInitialiser (inits_from c.args.items.items)} (λ o g. g) refl (if_true _ c.requires)) c.in-Ok.ensures.goes) c.from_vec.ensures
