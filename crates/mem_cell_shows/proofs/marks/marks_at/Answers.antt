use Rattle.mem_cell_shows.proofs.Marking.{within-of}
use Rattle.mem_cell_shows.proofs.marks.marks_at.Goals as goal

pub returns : goal.returns
returns c = λ m b v o k n t holds within.
    c.part_marks.ensures m b v o k n t holds
    (within-of c.in-Some.from c.in-Some-last_place.last c.args.size k n within.0 (c.in-Some.ensures within.0 within.1) (c.in-Some-last_place.ensures.last within.0 within.1) within.2 within.3)
