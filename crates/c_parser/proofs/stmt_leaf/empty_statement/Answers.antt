use Rattle.std.proofs.Common.{refl}
use Rattle.c_syntax_written.proofs.WrittenFileTrees.{stmt_empty}
use Rattle.c_parser.specs.declared.stmt_kind.StatementKind.TheVariants as statements
use Rattle.c_parser.proofs.SimpleStarts.{statement_begins}
use Rattle.c_parser_steps.proofs.Paths.{after, ends, halts_after}
use Rattle.c_parser_steps.specs.Answers.{halted}
use Rattle.c_parser.proofs.stmt_leaf.empty_statement.Goals as goal

pub returns-in-Err-clause-goes : goal.returns-in-Err-clause-goes
returns-in-Err-clause-goes c = λ b. halted (halts_after (statement_begins statements.Empty c.requires refl) c.in-Err.ensures.goes)

pub returns-clause-goes : goal.returns-clause-goes
returns-clause-goes c = λ b. ends (after (statement_begins statements.Empty c.requires refl) c.in-Ok.ensures.goes) (stmt_empty _)
