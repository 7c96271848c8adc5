use Rattle.std.proofs.Common.{refl}
use Rattle.mem_cell_shows.proofs.Reaching.{then-reach}
use Rattle.mem_cell_shows.proofs.reaches.go_on.Goals as goal

pub returns-in-Some : goal.returns-in-Some
returns-in-Some c = λ from h.
    then-reach c.args.held.now from c.args.r c.in-Some.next _ h c.in-Some.ensures refl c.either.ensures.left c.either-in-Some.ensures.left c.either.ensures.right c.either-in-Some.ensures.right
