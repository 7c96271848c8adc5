use Rattle.mem_cell_stores.proofs.Told.{number-fits, pointer-fits}
use Rattle.mem_cell_stores.proofs.values.cell_for.Goals as goal

pub returns-in-Int : goal.returns-in-Int
returns-in-Int c = rw c.in-Int.is (number-fits c.args.at c.in-Int.ty c.args.content.now c.number_cell.result c.number_cell.ensures)

pub returns-in_ok-share-in-Some : goal.returns-in_ok-share-in-Some
returns-in_ok-share-in-Some c =
    rw c.in-Pointer.is (pointer-fits c.args.at c.args.content.now c.in-Some.set c.in_ok-share-in-Some.field-0 c.holds.result c.in-Some.is c.holds.ensures c.in_ok-share-in-Some.ensures)
