use Rattle.std.proofs.Common.{refl, arith}
use Rattle.c_parser_steps.specs.Answers.{no_memory, stepped, stalled}
use Rattle.c_parser.specs.declared.stmt_kind.StatementKind.TheVariants as statements
use Rattle.c_parser.proofs.SimpleStarts.{statement_begins}
use Rattle.c_parser_steps.proofs.Paths.{after, goes_so, halts_after, halts_inside, inside}
use Rattle.c_parser.proofs.Heads.{same_rest}
use Rattle.c_parser.proofs.head.for_opening.Goals as goal

pub returns-in-Err-clause-goes : goal.returns-in-Err-clause-goes
returns-in-Err-clause-goes c = λ b. stalled (halts_after (statement_begins {b = b} statements.For c.requires refl) c.in-Err.ensures.goes)

pub returns-in-Err-taken-clause-goes : goal.returns-in-Err-taken-clause-goes
returns-in-Err-taken-clause-goes c = λ b. stalled (halts_after (after (statement_begins {b = b} statements.For c.requires refl) c.in-Ok.ensures.goes) c.in-Err-taken.ensures.goes)

pub returns-in-Err-for_start-clause-goes : goal.returns-in-Err-for_start-clause-goes
returns-in-Err-for_start-clause-goes c = λ b. stalled (halts_inside (after (after (statement_begins {b = b} statements.For c.requires refl) c.in-Ok.ensures.goes) c.in-Ok-taken.ensures.goes) c.in-Err-for_start.ensures.goes)

pub returns-in-Err-optional-clause-goes : goal.returns-in-Err-optional-clause-goes
returns-in-Err-optional-clause-goes c = λ b. stalled (halts_inside (inside (after (after (statement_begins {b = b} statements.For c.requires refl) c.in-Ok.ensures.goes) c.in-Ok-taken.ensures.goes) c.in-Ok-for_start.ensures.goes) c.in-Err-optional.ensures.goes)

pub returns-in-Err-optional-2-clause-goes : goal.returns-in-Err-optional-2-clause-goes
returns-in-Err-optional-2-clause-goes c = λ b. stalled (halts_inside (inside (inside (after (after (statement_begins {b = b} statements.For c.requires refl) c.in-Ok.ensures.goes) c.in-Ok-taken.ensures.goes) c.in-Ok-for_start.ensures.goes) c.in-Ok-optional.ensures.goes) c.in-Err-optional-2.ensures.goes)

pub returns-in-Err-boxed-clause-goes : goal.returns-in-Err-boxed-clause-goes
returns-in-Err-boxed-clause-goes c = λ b. stalled no_memory

pub returns-clause-goes : goal.returns-clause-goes
returns-clause-goes c = λ b. stepped (λ o g. goes_so (inside (inside (inside (after (after (statement_begins {b = b} statements.For c.requires refl) c.in-Ok.ensures.goes) c.in-Ok-taken.ensures.goes) c.in-Ok-for_start.ensures.goes) c.in-Ok-optional.ensures.goes) c.in-Ok-optional-2.ensures.goes) o (same_rest c.in-Ok-boxed.ensures g))

pub returns-clause-shorter : goal.returns-clause-shorter
returns-clause-shorter c = omega (arith, c.in-Ok.ensures.shorter, c.in-Ok-taken.ensures.shorter, c.in-Ok-for_start.ensures.shorter, c.in-Ok-optional.ensures.shorter, c.in-Ok-optional-2.ensures.shorter)
