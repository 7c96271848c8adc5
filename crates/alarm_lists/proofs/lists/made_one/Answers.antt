use Rattle.std.proofs.Common.{◌≡◌, arith, rules, subst}
use Rattle.std.specs.Ordering.{is_lt}
use Rattle.std.proofs.lemmas.Fn.{always_returns_same}
use Rattle.std.proofs.lemmas.List.Elements.{All-contains, Contains-get_or, Contains-push}
use Rattle.c_syntax.specs.declared.alarm.Alarm.{Alarm}
use Rattle.c_syntax.specs.Admission.{IsProper}
use Rattle.alarm_lists.proofs.Merged.{Merging, Short, later, later_ranks, merging_begins, merging_ends, merging_steps, short_begins, short_none, short_one, short_steps}
use Rattle.alarm_lists.proofs.lists.made_one.Goals as goal

pub loop-alarm-init : goal.loop-alarm-init
loop-alarm-init c = record {
  merging = rw c.new-done.ensures.items
      (merging_begins c.args.alarms.items c.sort_by.new.self.items c.in_ok-sort_by.ensures.permutation
      (c.in_ok-sort_by.ensures.sorted later later_ranks (always_returns_same _ (λ a r. is_lt r ≡ later a.0.now a.1.0.now) _ (λ a r q k. search rules))));
  short = rw c.new-done.ensures.items (short_begins c.args.alarms.items c.sort_by.new.self.items c.in_ok-sort_by.ensures.permutation);
}

pub add_alarm-requires-clause-proper : goal.add_alarm-requires-clause-proper
add_alarm-requires-clause-proper c = λ k d l. c.loop-alarm.invariant.merging.proper _ (Contains-get_or c.loop-alarm.done.items k d l)

pub add_alarm-requires-clause-alarm : goal.add_alarm-requires-clause-alarm
add_alarm-requires-clause-alarm c =
    All-contains (λ (x : Alarm). IsProper x.shown) c.args.alarms.items c.in-Some.alarm c.requires.proper
    (c.loop-alarm.invariant.merging.among c.in-Some.alarm (rw c.in-Some.ensures.items (Contains-push c.pop.new.self.items c.in-Some.alarm)))

pub loop-alarm-preserved : goal.loop-alarm-preserved
loop-alarm-preserved c = record {
  merging = merging_steps c.args.alarms.items c.pop.new.self.items c.in-Some.alarm c.loop-alarm.done.items c.add_alarm.new.done.items
      (λ y h. All-contains (λ (x : Alarm). IsProper x.shown) c.args.alarms.items y c.requires.proper h)
      (subst (λ z. Merging c.args.alarms.items z c.loop-alarm.done.items) c.in-Some.ensures.items c.loop-alarm.invariant.merging) c.in_ok-add_alarm.ensures;
  short = short_steps c.args.alarms.items c.pop.new.self.items c.in-Some.alarm c.loop-alarm.done.items c.add_alarm.new.done.items
      (subst (λ z. Short c.args.alarms.items z c.loop-alarm.done.items) c.in-Some.ensures.items c.loop-alarm.invariant.short) c.in_ok-add_alarm.ensures;
}

pub returns-clause-made : goal.returns-clause-made
returns-clause-made c =
    merging_ends c.args.alarms.items c.loop-alarm.rest.items c.loop-alarm.done.items (omega (c.in_default.ensures.cases.0, arith)) c.loop-alarm.invariant.merging

pub returns-clause-none : goal.returns-clause-none
returns-clause-none c = short_none c.args.alarms.items c.loop-alarm.rest.items c.loop-alarm.done.items c.loop-alarm.invariant.short

pub returns-clause-one : goal.returns-clause-one
returns-clause-one c =
    short_one c.args.alarms.items c.loop-alarm.rest.items c.loop-alarm.done.items (omega (c.in_default.ensures.cases.0, arith)) c.loop-alarm.invariant.short
