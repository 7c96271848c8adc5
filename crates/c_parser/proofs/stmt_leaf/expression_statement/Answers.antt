use Rattle.std.proofs.Common.{refl, ap}
use Rattle.std.specs.Prelude.{not}
use Rattle.c_parser.specs.declared.stmt_kind.StatementKind.TheVariants as statements
use Rattle.c_parser.proofs.SimpleStarts.{statement_begins}
use Rattle.c_parser_steps.proofs.Paths.{after, behind, ends, halts_after, halts_behind, where_so}
use Rattle.c_parser_steps.specs.Answers.{halted}
use Rattle.c_parser.proofs.stmt_leaf.expression_statement.Goals as goal

pub returns-in-Err-clause-goes : goal.returns-in-Err-clause-goes
returns-in-Err-clause-goes c = λ b. halted (halts_behind (where_so (statement_begins statements.Expression c.requires refl) (ap not c.requires.0)) c.in-Err.ensures.goes)

pub returns-in-Err-taken-clause-goes : goal.returns-in-Err-taken-clause-goes
returns-in-Err-taken-clause-goes c = λ b. halted (halts_after (behind (where_so (statement_begins statements.Expression c.requires refl) (ap not c.requires.0)) c.in-Ok.ensures.goes) c.in-Err-taken.ensures.goes)

pub returns-clause-goes : goal.returns-clause-goes
returns-clause-goes c = λ b. ends (after (behind (where_so (statement_begins statements.Expression c.requires refl) (ap not c.requires.0)) c.in-Ok.ensures.goes) c.in-Ok-taken.ensures.goes) c.expression_stmt.ensures
