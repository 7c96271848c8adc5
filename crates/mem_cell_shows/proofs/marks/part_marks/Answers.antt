use Rattle.block_mem.specs.declared.types.Scalar.TheVariants.{Int}
use Rattle.block_mem.specs.Blocks.{block_at}
use Rattle.block_mem.specs.Bytes.{mark_of}
use Rattle.block_mem.specs.Pieces.{get_bytes}
use Rattle.mem_cell_shows.proofs.Marking.{part-marked}
use Rattle.mem_cell_shows.proofs.marks.part_marks.Goals as goal

pub returns-then-r-to : goal.returns-then-r-to
returns-then-r-to c = λ m b v o k n t holds within. c.all.ensures (mark_of (Int t) (get_bytes (block_at m.blocks b).bytes k n))

pub returns : goal.returns
returns c = λ m b v o k n t holds within. part-marked c.args.held.now c.args.from c.args.to c.reached-r.result c.reached-r.ensures c.if-r-to.false m b v o k n t holds within
