use Rattle.std.proofs.Common.{◌≡◌}
use Rattle.c_syntax_written.specs.WrittenFile as files
use Rattle.c_syntax.specs.TypedStmt.{tstmt_tree, Continue}
use Rattle.c_typing.specs.Stmts.{TypesStmt, allowed, one}
use Rattle.c_check_jumps.specs.ContextViews.{context_tree}
use Rattle.c_check_stmts.proofs.Lines.{continue_line}
use Rattle.c_check_stmts.proofs.Results.{by}
use Rattle.c_check_stmts.proofs.simple.continue_form.Goals as goal

pub returns : goal.returns
returns c w =
    let around = context_tree c.args.around in
    let at = c.args.at in
    by (λ out. out ≡ allowed w at around.continues (Continue at)) (TypesStmt w around (files.Continue at)) (λ s. one (tstmt_tree s)) w
    c.continue_of.result (c.continue_of.ensures w) (λ o p. continue_line w around at o p)
