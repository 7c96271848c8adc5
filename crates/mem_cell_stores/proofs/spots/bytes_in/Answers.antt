use Rattle.std.proofs.Common.{arith}
use Rattle.mem_cell_stores.proofs.Reached.{if-added}
use Rattle.mem_cell_stores.proofs.spots.bytes_in.Goals as goal

pub returns : goal.returns
returns c =
    let a = c.saturating_sub.ensures in let b = c.saturating_sub-2.ensures in let step = c.from.ensures in let from = c.place_at-from.ensures in let to = c.place_at-to.ensures in
    if-added c.checked_add.result _ _ _ (omega (arith, a, b, step, from, to)) c.checked_add.ensures
