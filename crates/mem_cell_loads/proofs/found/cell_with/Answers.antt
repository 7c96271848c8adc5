use Rattle.std.proofs.Common.{refl}
use Rattle.mem_cell_grid.proofs.Lists.{has-index}
use Rattle.mem_cell_loads.proofs.found.cell_with.Goals as goal

pub returns-then-has_bytes : goal.returns-then-has_bytes
returns-then-has_bytes c =
    let cells = c.args.cells.now in let e = c.e-item.result in
    record {
      has = has-index cells c.loop-e.e-index e e c.loop-e-test.true c.e-item.is;
      low = c.if-has_bytes.ensures.low refl;
      high = c.if-has_bytes.ensures.high refl;
      small = c.if-has_bytes.ensures.small refl;
    }
