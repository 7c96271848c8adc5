use Rattle.std.proofs.Common.{◌++◌, ◌∷◌, [], ◌∙◌, ap, refl, subst}
use Rattle.mem_cell_bytes.specs.Stands.{Has}
use Rattle.mem_cell_grid.proofs.Cutting.{cells-left}
use Rattle.mem_cell_grid.proofs.Lists.{has-index}
use Rattle.mem_cell_grid.proofs.lefts.cells_left.Goals as goal
use Rattle.mem_cell_grid.proofs.lefts.cells_left.Goals.{then-is_beside+in_ok-copy+in_ok-push, else-is_beside}

pub loop-e-preserved : goal.loop-e-preserved
loop-e-preserved c = elim c.if-is_beside.branch [
  | then-is_beside+in_ok-copy+in_ok-push w ↦
      let cells = c.args.cells.now in let e = c.e-item.result in
      cells-left cells c.args.at c.args.count c.loop-e.left.items c.if-is_beside.left.items e c.loop-e.invariant
      (has-index cells c.loop-e.e-index e e c.loop-e-test.true c.e-item.is) (w.if-is_beside.ensures refl)
      (ap (λ v. v.items) w.left-is ∙ w.in_ok-push.ensures.items ∙ ap (λ x. c.loop-e.left.items ++ x ∷ []) w.in_ok-copy.ensures)
  | else-is_beside w ↦ λ e h. c.loop-e.invariant e (subst (λ v. Has v.items e) w.left-is h)
]
