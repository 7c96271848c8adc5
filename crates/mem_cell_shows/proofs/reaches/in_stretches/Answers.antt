use Rattle.std.proofs.Common.{[], refl}
use Rattle.mem_cell_bytes.specs.Contents.{contents}
use Rattle.mem_cell_shows.proofs.Reaching.{has-index, more-reach, one-stretch}
use Rattle.mem_cell_shows.proofs.reaches.in_stretches.Goals as goal

pub returns-then-at-r : goal.returns-then-at-r
returns-then-at-r c =
    let stretches = c.args.stretches.now in
    more-reach (contents [] stretches) _ c.args.at c.in-Some.r (λ d h. h) (λ q x k. one-stretch stretches _ q x (has-index stretches c.loop-f.f-index _ _ c.loop-f-test.true refl) k) c.in-Some.ensures
