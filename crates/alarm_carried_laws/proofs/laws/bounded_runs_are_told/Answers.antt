use Rattle.alarm_carried_laws.proofs.Exact as exact
use Rattle.alarm_carried_laws.proofs.laws.bounded_runs_are_told.Goals as goal

pub returns : goal.returns
returns c = exact.bounded_runs_are_told c.typed_runs_never_stand.ensures c.bounds_change_nothing.ensures c.input_free_runs_never_wait.ensures
