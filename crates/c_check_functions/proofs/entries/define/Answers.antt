use Rattle.std.proofs.Common.{◌<◌, ap, length, arith}
use Rattle.c_typing.specs.File.{defined_function}
use Rattle.c_check_declarators.specs.Views.{name_tree}
use Rattle.c_check_names.specs.Worlds.{world_of}
use Rattle.c_check_functions.proofs.Changed.{with_changed}
use Rattle.c_check_functions.proofs.entries.define.Goals as goal

pub returns : goal.returns
returns c =
    let functions = c.args.world.now.functions.items in
    let within : c.args.n < length functions = omega (arith, c.args.world.now.functions.ok.0) in
    ap (λ fs. record (world_of c.args.world.now) { functions = fs })
    (with_changed functions c.args.n c.index_mut.result.now c.set_head.new.function (defined_function (name_tree c.args.named.now) c.args.params) within
    c.index_mut.ensures.value c.set_head.ensures)
