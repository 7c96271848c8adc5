use Rattle.std.proofs.Common.{get_or}
use Rattle.mem_cell_bytes.specs.declared.entry.FillByte.TheVariants as fills
use Rattle.mem_cell_bytes.specs.declared.entry.Stretch.{Stretch}
use Rattle.mem_cell_grid.proofs.Meetings.{seen-step}
use Rattle.mem_cell_grid.proofs.Lists.{has-or}
use Rattle.mem_cell_grid.proofs.stretches_met.meet_stretch.Goals as goal

pub loop-g-preserved : goal.loop-g-preserved
loop-g-preserved c =
    let others = c.args.others.now in let i = c.loop-g.g-index in let none : Stretch = record { from = 0; to = 0; byte = fills.Undef } in
    seen-step others c.args.f (get_or others i none) c.args.met.now.items c.loop-g.met.items c.meet_part.new.met.items c.loop-g.seen.low c.in_ok-seen.seen.low
    c.loop-g.seen.kept c.in_ok-seen.seen.kept (has-or others i none c.loop-g-test.true) c.loop-g.invariant c.in_ok-seen.ensures
