use Rattle.std.proofs.Common.{◌≡◌, ap, ◌∙◌}
use Rattle.c_syntax_written.specs.WrittenFile as files
use Rattle.c_syntax.specs.TypedStmt.{tstmt_tree}
use Rattle.c_typing.specs.Stmts.{TypesStmt, goto_of, one}
use Rattle.c_check_jumps.specs.ContextViews.{context_tree}
use Rattle.c_check_stmts.proofs.Lines.{goto_line}
use Rattle.c_check_stmts.proofs.Results.{by}
use Rattle.c_check_stmts.proofs.simple.goto_form.Goals as goal

pub returns : goal.returns
returns c w =
    let around = context_tree c.args.around in
    let at = c.args.at in
    by (λ out. out ≡ goto_of w around at c.as_slice.result.now) (TypesStmt w around (files.Goto at c.args.label.now)) (λ s. one (tstmt_tree s)) w c.goto_of.result
    (c.goto_of.ensures w) (λ o p. goto_line w around at c.args.label.now o (p ∙ ap (goto_of w around at) c.as_slice.ensures))
