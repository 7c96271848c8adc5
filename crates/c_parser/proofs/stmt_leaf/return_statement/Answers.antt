use Rattle.std.proofs.Common.{refl}
use Rattle.c_syntax_written.proofs.WrittenFileTrees.{stmt_return}
use Rattle.c_parser.specs.declared.stmt_kind.StatementKind.TheVariants as statements
use Rattle.c_parser.proofs.SimpleStarts.{statement_begins}
use Rattle.c_parser_steps.proofs.Paths.{after, behind, ends, halts_after, halts_behind}
use Rattle.c_parser_steps.specs.Answers.{halted}
use Rattle.c_parser.proofs.stmt_leaf.return_statement.Goals as goal

pub returns-in-Err-clause-goes : goal.returns-in-Err-clause-goes
returns-in-Err-clause-goes c = λ b. halted (halts_after (statement_begins statements.Return c.requires refl) c.in-Err.ensures.goes)

pub returns-in-Err-optional-clause-goes : goal.returns-in-Err-optional-clause-goes
returns-in-Err-optional-clause-goes c = λ b. halted (halts_behind (after (statement_begins statements.Return c.requires refl) c.in-Ok.ensures.goes) c.in-Err-optional.ensures.goes)

pub returns-clause-goes : goal.returns-clause-goes
returns-clause-goes c = λ b. ends (behind (after (statement_begins statements.Return c.requires refl) c.in-Ok.ensures.goes) c.in-Ok-optional.ensures.goes) (stmt_return _ _)
