use Rattle.std.proofs.Common.{refl}
use Rattle.mem_cell_grid.proofs.Lists.{get-index}
use Rattle.tests_cells.proofs.memory.load_into.Goals as goal

pub load-requires : goal.load-requires
load-requires c =
    rw (← c.as_slice-types.ensures) (get-index c.as_slice-types.result.now c.args.temp _ _ c.if-temp-types.true refl)
