-- What an `add` leaves.
use Rattle.std.proofs.Common.{◌∙◌}
use Rattle.outside_io.proofs.Held.{first_from_position, absent_from_position, replace_told, replace_others, replace_faults, push_told, push_others, push_faults}
use Rattle.outside_io.proofs.memory_files.MemFiles.add.Goals as goal

pub returns-in-Some-clause-told : goal.returns-in-Some-clause-told
returns-in-Some-clause-told c =
    let first = first_from_position c.self.inside.files.items c.args.name.now c.in-Some.place c.in-Some.ensures in
    rw (← c.in_ok-bytes.ensures.items) (replace_told c.self.inside.files.items _ _ _ _ first c.replace_at.ensures)

pub returns-in-Some-clause-others : goal.returns-in-Some-clause-others
returns-in-Some-clause-others c =
    let first = first_from_position c.self.inside.files.items c.args.name.now c.in-Some.place c.in-Some.ensures in
    rw (← c.self.view_is) (replace_others _ _ _ _ _ first c.replace_at.ensures)

pub returns-in-Some-clause-faults : goal.returns-in-Some-clause-faults
returns-in-Some-clause-faults c =
    let first = first_from_position c.self.inside.files.items c.args.name.now c.in-Some.place c.in-Some.ensures in
    rw (← c.self.view_is) (replace_faults _ _ _ _ _ _ first c.replace_at.ensures)

pub returns-clause-told : goal.returns-clause-told
returns-clause-told c =
    let absent = absent_from_position c.self.inside.files.items c.args.name.now c.in_default.ensures in
    rw (← c.in_ok-bytes.ensures.items) (push_told c.self.inside.files.items _ _ _ absent (c.in_ok-name.ensures.items ∙ c.as_bytes.ensures.value) c.in_ok-push.ensures.items)

pub returns-clause-others : goal.returns-clause-others
returns-clause-others c =
    let absent = absent_from_position c.self.inside.files.items c.args.name.now c.in_default.ensures in
    rw (← c.self.view_is) (push_others _ _ _ _ absent (c.in_ok-name.ensures.items ∙ c.as_bytes.ensures.value) c.in_ok-push.ensures.items)

pub returns-clause-faults : goal.returns-clause-faults
returns-clause-faults c =
    let absent = absent_from_position c.self.inside.files.items c.args.name.now c.in_default.ensures in
    rw (← c.self.view_is) (push_faults _ _ _ _ absent (c.in_ok-name.ensures.items ∙ c.as_bytes.ensures.value) c.in_ok-push.ensures.items)
