use Rattle.c_syntax_written.specs.WrittenFile as files
use Rattle.c_syntax_written.specs.WrittenFile.{optional_tree}
use Rattle.c_syntax.specs.TypedStmt.{tstmt_tree}
use Rattle.c_typing.specs.Stmts.{TypesStmt, one}
use Rattle.c_check_jumps.specs.ContextViews.{context_tree}
use Rattle.c_check_names.specs.Worlds.{world_of}
use Rattle.c_check_stmts.specs.PartForms.{Returns}
use Rattle.c_check_stmts.proofs.Lines.{return_line}
use Rattle.c_check_stmts.proofs.Results.{by}
use Rattle.c_check_stmts.proofs.simple.return_form.Goals as goal

pub returns : goal.returns
returns c =
    let w = world_of c.args.world.now in
    let around = context_tree c.args.around in
    let e = optional_tree c.args.e.now in
    by (Returns w c.args.at around.result e) (TypesStmt w around (files.Return c.args.at e)) (λ s. one (tstmt_tree s)) (world_of c.return_of.new.world)
    c.return_of.result c.return_of.ensures (λ o p. return_line w around c.args.at e o p)
