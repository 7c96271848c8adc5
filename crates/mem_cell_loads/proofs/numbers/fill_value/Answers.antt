use Rattle.machine_nums.specs.MExprs.{mexpr_tree}
use Rattle.mem_cell_loads.proofs.Made.{fill-made}
use Rattle.mem_cell_loads.proofs.numbers.fill_value.Goals as goal

pub returns-in_ok-constant-in-Num : goal.returns-in_ok-constant-in-Num
returns-in_ok-constant-in-Num g c =
    λ there. fill-made g.D.Oracle.admits c.args.known.now c.args.object c.args.at c.args.ty c.read_as.result c.args.x c.in-Num.byte (mexpr_tree c.in_ok-constant-in-Num.field-0) c.read_as.ensures c.in-Num.is
    c.in_ok-constant-in-Num.ensures.proper c.in_ok-constant-in-Num.ensures.value there
