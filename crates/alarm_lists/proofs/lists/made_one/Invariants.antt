use Rattle.std.proofs.Common.{vec_len}
use Rattle.alarm_lists.proofs.Merged.{Merging, Short}
use Rattle.alarm_lists.proofs.lists.made_one.Given as goal

abbrev pub invariant-loop-alarm : goal.invariant-loop-alarm
invariant-loop-alarm l = record {
  merging : Merging l.fn.alarms.items l.rest.items l.done.items;
  short : Short l.fn.alarms.items l.rest.items l.done.items;
}

abbrev pub decreases-loop-alarm : goal.decreases-loop-alarm
decreases-loop-alarm l = vec_len l.rest
