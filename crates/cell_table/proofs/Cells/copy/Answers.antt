use Rattle.std.proofs.Common.{ap, List, ℕ, Bool}
use Rattle.cell_table.specs.Cells.{Table}
use Rattle.cell_table.specs.Kept.{slots_of}
use Rattle.cell_table.proofs.Steps.{kept-same}
use Rattle.cell_table.proofs.Copies.{same-cells, same-places}
use Rattle.cell_table.proofs.Cells.copy.Goals as goal

pub invariant_of-result : goal.invariant_of-result
invariant_of-result c =
    kept-same _ _ c.self.inside.places c.in_ok-clone-2.field-0
    (ap slots_of (same-cells c.self.inside.cells.entries c.in_ok-clone.field-0.entries c.in_ok-clone.ensures.cases))
    (same-places c.self.inside.places.entries c.in_ok-clone-2.field-0.entries c.in_ok-clone-2.ensures.cases) c.self.invariant

pub returns : goal.returns
returns c =
    rw (← c.self.view_is)
    (ap (λ (es : List ((ℕ × ℕ × ℕ) × Bool)). let t : Table = record { slots = slots_of es } in t) (same-cells c.self.inside.cells.entries c.in_ok-clone.field-0.entries c.in_ok-clone.ensures.cases))
