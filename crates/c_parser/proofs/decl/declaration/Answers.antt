use Rattle.std.proofs.Common.{refl, arith}
use Rattle.c_grammar.specs.Parts.{ADecl, Declaration}
use Rattle.c_parser_steps.proofs.Paths.{begin, behind, lasts, halts_behind}
use Rattle.c_parser_exprs.proofs.Shorter.{shorter_still}
use Rattle.c_parser_steps.specs.Answers.{halted}
use Rattle.c_parser.proofs.decl.declaration.Goals as goal

pub returns-in-Err-clause-goes : goal.returns-in-Err-clause-goes
returns-in-Err-clause-goes c = halted (halts_behind (begin {p = ADecl Declaration} (λ o g. g) refl refl) c.in-Err.ensures.goes)

pub returns-clause-goes : goal.returns-clause-goes
returns-clause-goes c = lasts (behind (begin {p = ADecl Declaration} (λ o g. g) refl refl) c.in-Ok.ensures.goes) c.declared.ensures.goes (λ d. refl)

pub returns-clause-shorter : goal.returns-clause-shorter
returns-clause-shorter c = shorter_still c.declared.result c.declared.ensures.shorter (omega (arith, c.in-Ok.ensures.shorter))
