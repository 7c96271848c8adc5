use Rattle.mem_intervals.proofs.tests.holds_settled.Goals as goal

pub covers-requires : goal.covers-requires
covers-requires c =
    let s = c.requires in
    (s.program, s.is_for, c.in_ok-state.ensures s.program s.is_for)
