use Rattle.std.proofs.Common.{[], subst}
use Rattle.std.proofs.lemmas.Option.{IfSome_then}
use Rattle.mem_cell_bytes.specs.Contents.{contents}
use Rattle.mem_cell_shows.specs.Reaches.{IsReach}
use Rattle.mem_cell_shows.proofs.Reaching.{more-reach, no-cell, none-in}
use Rattle.mem_cell_shows.proofs.reaches.behind.Goals as goal

pub returns-in-Some : goal.returns-in-Some
returns-in-Some c =
    let held = c.args.held.now in
    more-reach held (contents [] held.stretches) c.args.at c.in-Some.r (λ e h. no-cell e h) (λ q x h. h)
    (subst (λ xs. IsReach (contents [] xs) c.args.at c.in-Some.r) c.stretches.ensures c.in-Some.ensures)

pub returns-in-None : goal.returns-in-None
returns-in-None c =
    let held = c.args.held.now in
    IfSome_then c.in_cells.result c.in_cells.ensures
    (λ r h. more-reach held (contents held.cells []) c.args.at r (λ e k. k) (λ q x k. none-in q x k) (subst (λ xs. IsReach (contents xs []) c.args.at r) c.cells.ensures h))
