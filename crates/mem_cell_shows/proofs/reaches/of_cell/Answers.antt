use Rattle.std.proofs.Common.{◌≡◌, ◌+◌, Bool, ap, false, not, refl, true}
use Rattle.ext_int.specs.Valuation.{value_at}
use Rattle.mem_cell_bytes.specs.Cells.{var_of}
use Rattle.mem_cell_shows.specs.declared.reaches.Reach.{Reach}
use Rattle.mem_cell_shows.proofs.Reaching.{cell-in}
use Rattle.mem_cell_shows.proofs.reaches.of_cell.Goals as goal

not-false : (b : Bool) → not b ≡ false → b ≡ true
not-false true h = refl
not-false false h = cc

pub returns : goal.returns
returns c = λ m b v o holds.
    let e = c.args.e.now in
    let r : Reach = record { end = e.offset + c.size_in.result; undef = e.undef; piece = not c.is_none.result } in
    cell-in m b e (value_at v (var_of o e)) c.args.at r (holds.cell e (0, refl) c.if-e-ge65536.false) c.if-at-e.false (ap (λ n. e.offset + n) c.size_in.ensures.value) refl
    (λ none. c.is_none.ensures (not-false c.is_none.result none))
