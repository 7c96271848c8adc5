use Rattle.mem_cell_loads.proofs.Readings.{allows-first, allows-second}
use Rattle.mem_cell_loads.proofs.along.joined.Goals as goal

pub returns-clause-first : goal.returns-clause-first
returns-clause-first c =
    let set = c.in_ok-joined_set.field-0 in
    allows-first c.args.a.now c.args.b.now (record { range = c.hull.result; set = set; marks = c.joined_marks.result }) c.hull.ensures.first c.in_ok-joined_set.ensures c.joined_marks.ensures

pub returns-clause-second : goal.returns-clause-second
returns-clause-second c =
    let set = c.in_ok-joined_set.field-0 in
    allows-second c.args.a.now c.args.b.now (record { range = c.hull.result; set = set; marks = c.joined_marks.result }) c.hull.ensures.second c.in_ok-joined_set.ensures c.joined_marks.ensures
