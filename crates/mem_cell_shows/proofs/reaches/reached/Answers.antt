use Rattle.std.proofs.Common.{false}
use Rattle.mem_cell_shows.proofs.Reaching.{start-reach}
use Rattle.mem_cell_shows.proofs.reaches.reached.Goals as goal

pub returns : goal.returns
returns c = c.along.ensures c.args.from (c.along-first.ensures c.args.from (start-reach c.args.held.now c.args.from false false))
