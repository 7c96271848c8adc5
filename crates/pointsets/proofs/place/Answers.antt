use Rattle.pointsets.proofs.Names.{placed}
use Rattle.pointsets.proofs.place.Goals as goal

pub returns : goal.returns
returns c =
    rw c.err.ensures.value
    (placed c.args.names.now c.args.n c.binary_search.result c.requires c.binary_search.ensures.position)
