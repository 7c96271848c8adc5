use Rattle.std.proofs.Common.{refl, ap, ◌∙◌, arith}
use Rattle.c_syntax_written.specs.WrittenFile as trees
use Rattle.c_syntax_written.proofs.WrittenFileTrees.{stmt_goto}
use Rattle.c_parser.specs.declared.stmt_kind.StatementKind.TheVariants as statements
use Rattle.c_parser.proofs.SimpleStarts.{statement_begins}
use Rattle.c_parser_steps.proofs.Paths.{after, ends, halts_after}
use Rattle.c_parser_steps.specs.Answers.{halted, no_memory}
use Rattle.c_parser.proofs.stmt_leaf.goto_statement.Goals as goal

pub returns-in-Err-clause-goes : goal.returns-in-Err-clause-goes
returns-in-Err-clause-goes c = λ b. halted (halts_after (statement_begins statements.Goto c.requires refl) c.in-Err.ensures.goes)

pub returns-in-Err-taken-clause-goes : goal.returns-in-Err-taken-clause-goes
returns-in-Err-taken-clause-goes c = λ b. halted (halts_after (after (statement_begins statements.Goto c.requires refl) c.in-Ok.ensures.goes) c.in-Err-taken.ensures.goes)

pub returns-in-Err-taken-2-clause-goes : goal.returns-in-Err-taken-2-clause-goes
returns-in-Err-taken-2-clause-goes c = λ b. halted (halts_after (after (after (statement_begins statements.Goto c.requires refl) c.in-Ok.ensures.goes) c.in-Ok-taken.ensures.goes) c.in-Err-taken-2.ensures.goes)

pub returns-in-Err-name_of-clause-goes : goal.returns-in-Err-name_of-clause-goes
returns-in-Err-name_of-clause-goes c = λ b. halted no_memory

pub returns-clause-goes : goal.returns-clause-goes
returns-clause-goes c = λ b. ends (after (after (after (statement_begins statements.Goto c.requires refl) c.in-Ok.ensures.goes) c.in-Ok-taken.ensures.goes) c.in-Ok-taken-2.ensures.goes) (stmt_goto _ _ ∙ ap (trees.Goto c.in-Ok.got.0.now.pos) c.in-Ok-name_of.ensures)

pub returns-clause-shorter : goal.returns-clause-shorter
returns-clause-shorter c = omega (arith, c.in-Ok.ensures.shorter, c.in-Ok-taken.ensures.shorter, c.in-Ok-taken-2.ensures.shorter)
