use Rattle.std.proofs.Common.{◌≡◌, ◌&&◌, true, false, subst, sym}
use Rattle.mem_cell_bytes.specs.Contents.{contents}
use Rattle.mem_cell_grid.specs.Meetings.{AreCellsMet, AreContentsMet, AreStretchesMet}
use Rattle.mem_cell_grid.proofs.Meetings.{false-first, false-second, held-kept, held-lost}
use Rattle.mem_cell_grid.proofs.grid.meet_held.Goals as goal
use Rattle.mem_cell_grid.proofs.grid.meet_held.Goals.{else-cells-via-then-cells+else-stretches, else-cells-via-else-cells}

pub returns-then-stretches : goal.returns-then-stretches
returns-then-stretches c =
    let a = c.args.held.now in let b = c.args.other.now in let cells = c.in_ok-cells.cells.cells.items in let stretches = c.in_ok-stretches.stretches.stretches.items in
    let x : AreCellsMet a.cells b.cells cells true =
    subst (AreCellsMet a.cells b.cells cells) c.if-cells.true
    (subst (λ xs. AreCellsMet xs b.cells cells c.in_ok-cells.cells.kept) c.cells.ensures (subst (λ xs. AreCellsMet c.cells.result.now xs cells c.in_ok-cells.cells.kept) c.cells-2.ensures c.in_ok-cells.ensures)) in
    let y : AreStretchesMet a.stretches b.stretches stretches true =
    subst (AreStretchesMet a.stretches b.stretches stretches) c.if-stretches.true
    (subst (λ xs. AreStretchesMet xs b.stretches stretches c.in_ok-stretches.stretches.kept) c.stretches.ensures
    (subst (λ xs. AreStretchesMet c.stretches.result.now xs stretches c.in_ok-stretches.stretches.kept) c.stretches-2.ensures c.in_ok-stretches.ensures)) in
    subst (λ h. AreContentsMet a b h true) (sym c.in_ok-share.ensures) (held-kept a b cells stretches x y)

pub returns : goal.returns
returns c =
    let a = c.args.held.now in let b = c.args.other.now in let cells = c.in_ok-cells.cells.cells.items in let stretches = c.in_ok-stretches.stretches.stretches.items in
    let p = c.in_ok-cells.cells.kept in let q = c.in_ok-stretches.stretches.kept in
    let x : AreCellsMet a.cells b.cells cells p =
    subst (λ xs. AreCellsMet xs b.cells cells p) c.cells.ensures (subst (λ xs. AreCellsMet c.cells.result.now xs cells p) c.cells-2.ensures c.in_ok-cells.ensures) in
    let y : AreStretchesMet a.stretches b.stretches stretches q =
    subst (λ xs. AreStretchesMet xs b.stretches stretches q) c.stretches.ensures (subst (λ xs. AreStretchesMet c.stretches.result.now xs stretches q) c.stretches-2.ensures c.in_ok-stretches.ensures) in
    let lost : (p && q) ≡ false = elim c.else-cells.branch [
      | else-cells-via-then-cells+else-stretches w ↦ false-second p q w.if-stretches.false
      | else-cells-via-else-cells w ↦ false-first p q w.if-cells.false
    ] in
    subst (λ h. AreContentsMet a b h false) (sym c.in_ok-of.ensures) (held-lost a b (contents cells stretches) p q x y lost)
