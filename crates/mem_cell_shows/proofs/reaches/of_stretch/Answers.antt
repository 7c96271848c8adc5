use Rattle.std.proofs.Common.{false, refl}
use Rattle.mem_cell_shows.specs.declared.reaches.Reach.{Reach}
use Rattle.mem_cell_shows.proofs.Reaching.{stretch-in}
use Rattle.mem_cell_shows.proofs.reaches.of_stretch.Goals as goal

pub returns : goal.returns
returns c = λ m b v o holds.
    let f = c.args.f in
    let r : Reach = record { end = f.to; undef = c.is_undef.result; piece = false } in
    stretch-in m b f c.args.at r (λ q x has. holds.byte q x has) c.if-at-f.false refl c.is_undef.ensures
