-- What the report of a typed program says of its alarms.
use Rattle.std.specs.Prelude.{List, length, All, AllPairs}
use Rattle.c_syntax.specs.declared.alarm.Alarm.{Alarm}
use Rattle.c_syntax.specs.Program.{TProgramTree}
use Rattle.mem_shown.specs.Decisions.{NamesObjects}
use Rattle.mem_api.specs.FactsOf.{NamesFactObjects}
use Rattle.c_steps.specs.Order.{Precedes}
use Rattle.c_steps.specs.Sound.{IsSound}
use Rattle.c_steps.specs.Admission.{IsAdmitted}

-- each object that the alarm names is one of the program's
pub record NamesOwn (p : TProgramTree) (alarm : Alarm) : Type 0 where
  pub shown : NamesObjects (length p.objects) alarm.shown
  pub facts : All (NamesFactObjects (length p.objects)) alarm.facts

-- what the report of a typed program says of its alarms
pub record AreAlarmsOf (p : TProgramTree) (alarms : List Alarm) : Type 0 where
  pub sound : IsSound p alarms
  pub admitted : All (IsAdmitted p) alarms
  pub names : All (NamesOwn p) alarms
  pub ordered : AllPairs Precedes alarms
