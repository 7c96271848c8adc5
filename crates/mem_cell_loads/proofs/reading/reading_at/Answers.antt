use Rattle.std.proofs.Common.{subst}
use Rattle.std.proofs.lemmas.Option.{IfSome_then}
use Rattle.mem_cell_loads.specs.Found.{IsFound}
use Rattle.mem_cell_loads.proofs.Readings.{read-at}
use Rattle.mem_cell_loads.proofs.reading.reading_at.Goals as goal

pub returns : goal.returns
returns g c =
    let known = c.args.known.now in let o = c.args.object in let at = c.args.at in
    let found = subst (λ n. IsFound known.grid o at n c.in_ok-found.found) c.scalar_size.ensures.value c.in_ok-found.ensures in
    read-at g.D.Oracle.admits known o at c.args.ty c.in_ok-range.range c.in_ok-set.set c.in_ok-marks.marks (c.in_ok-range.ensures found)
    (IfSome_then c.in_ok-set.set c.in_ok-set.ensures (λ s law. law found)) (c.in_ok-marks.ensures found)
