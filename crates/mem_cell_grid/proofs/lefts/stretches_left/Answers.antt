use Rattle.std.proofs.Common.{get_or}
use Rattle.mem_cell_bytes.specs.declared.entry.FillByte.TheVariants as fills
use Rattle.mem_cell_bytes.specs.declared.entry.Stretch.{Stretch}
use Rattle.mem_cell_grid.proofs.Cutting.{bytes-left}
use Rattle.mem_cell_grid.proofs.Lists.{has-or}
use Rattle.mem_cell_grid.proofs.lefts.stretches_left.Goals as goal

pub loop-f-preserved : goal.loop-f-preserved
loop-f-preserved c =
    let stretches = c.args.stretches.now in let i = c.loop-f.f-index in let none : Stretch = record { from = 0; to = 0; byte = fills.Undef } in
    bytes-left stretches (get_or stretches i none) c.args.at c.args.count c.loop-f.left.items c.push_ends.new.stretches.items c.loop-f.invariant
    (has-or stretches i none c.loop-f-test.true) c.in_ok-push_ends.ensures
