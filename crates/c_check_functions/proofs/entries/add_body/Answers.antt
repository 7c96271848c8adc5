use Rattle.std.proofs.Common.{◌<◌, ap, length, arith}
use Rattle.c_syntax.specs.TypedStmt.{tstmt_tree}
use Rattle.c_typing.specs.File.{with_body}
use Rattle.c_check_names.specs.Worlds.{world_of}
use Rattle.c_check_functions.proofs.Changed.{with_changed}
use Rattle.c_check_functions.proofs.entries.add_body.Goals as goal

pub returns : goal.returns
returns c =
    let functions = c.args.world.now.functions.items in
    let within : c.args.n < length functions = omega (arith, c.args.world.now.functions.ok.0) in
    ap (λ fs. record (world_of c.args.world.now) { functions = fs })
    (with_changed functions c.args.n c.index_mut.result.now c.set_body.new.function (with_body (tstmt_tree c.args.body)) within c.index_mut.ensures.value c.set_body.ensures)
