-- Sets of which only what is known is put anew.
use Rattle.std.proofs.Common.{◌≡◌, ap}
use Rattle.mem_cell_exprs.specs.declared.known.Known.{Known}
use Rattle.mem_cell_domain.specs.declared.states.CellStates.{CellStates}

pub known-same : {D : Type 0} (m : CellStates D) (k : Known D) → k ≡ m.known → record m { known = k } ≡ m
known-same {D} m k is = ap (λ (x : Known D). record m { known = x }) is
