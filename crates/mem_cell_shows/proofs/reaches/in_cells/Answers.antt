use Rattle.std.proofs.Common.{[], ◌∷◌}
use Rattle.mem_cell_bytes.specs.Contents.{contents}
use Rattle.mem_cell_shows.proofs.Reaching.{has-index, more-reach, one-in}
use Rattle.mem_cell_shows.proofs.reaches.in_cells.Goals as goal

pub returns-then-at-r : goal.returns-then-at-r
returns-then-at-r c =
    let cells = c.args.cells.now in let e = c.e-item.result in
    more-reach (contents cells []) (contents (e ∷ []) []) c.args.at c.in-Some.r (λ d h. one-in cells e d (has-index cells c.loop-e.e-index _ e c.loop-e-test.true c.e-item.is) h) (λ q x k. k)
    c.in-Some.ensures
