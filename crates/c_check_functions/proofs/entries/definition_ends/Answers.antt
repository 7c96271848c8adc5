use Rattle.std.proofs.Common.{ap, ◌∙◌}
use Rattle.c_typing.specs.File.{with_body, with_function_at}
use Rattle.c_typing.specs.Names.{closed}
use Rattle.c_typing.specs.World.{World}
use Rattle.c_check_names.specs.Worlds.{world_of}
use Rattle.c_check_functions.specs.Views.{without_jumps}
use Rattle.c_syntax.specs.TypedStmt.{TStmtTree, tstmt_tree}
use Rattle.c_check_functions.proofs.entries.definition_ends.Goals as goal

pub returns : goal.returns
returns c = λ outside e.
    let n = c.args.begun.number in
    let ended = without_jumps (closed outside (world_of c.args.world.now)) in
    c.add_body.ensures
    ∙ ap (λ (w : World). with_function_at w n (with_body (tstmt_tree c.body_node-body.result))) (c.forget_jumps.ensures ∙ ap without_jumps (c.close.ensures outside e))
    ∙ ap (λ (b : TStmtTree). with_function_at ended n (with_body b)) c.body_node-body.ensures
