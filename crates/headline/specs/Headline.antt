-- What a run may answer: every execution that goes wrong is listed, and what is listed is admitted and shown.
use Rattle.std.specs.Prelude.{◌≡◌, ◌≢◌, ℕ, Some, List, []}
use Rattle.c_syntax.specs.declared.alarm.Alarm.{Alarm}
use Rattle.headline.specs.declared.status.Status.{Status}
use Rattle.headline.specs.declared.status.Status.TheVariants.{NoAlarm, Alarms, Refused, Usage, ReadFault, NoMemory}
use Rattle.c_syntax.specs.Program.{TProgramTree}
use Rattle.c_layout.specs.MainFunction.{main_of}
use Rattle.headline.specs.Program.{IsAdmittedAs}
use Rattle.alarm_carried_laws.specs.AlarmsOf.{AreAlarmsOf}
use Rattle.report_alarms.specs.ReportText.{text_of}
use Rattle.report_alarms.specs.Told.{told_of}
use Rattle.report.specs.Refusal.{RefusalTree}
use Rattle.report.specs.RefusalText.{line_of}
use Rattle.headline_words.specs.Command.{Asked}
use Rattle.headline.specs.Verdict.{IsRefusedFor}

-- the text is the report of these alarms on the one program of the bytes, which are not refused
pub record IsReport (asked : Asked) (bytes : List ℕ) (alarms : List Alarm) (text : List ℕ) : Type 0 where
  pub program : TProgramTree
  pub main : ℕ
  pub read : IsAdmittedAs bytes program
  pub only : (other : TProgramTree) → IsAdmittedAs bytes other → other ≡ program
  pub accepted : (r : RefusalTree) → IsRefusedFor bytes r → ⊥
  pub main_is : main_of program ≡ Some main
  pub alarms_are : AreAlarmsOf program alarms
  pub text_is : text ≡ text_of asked.file (told_of program main) asked.state alarms

-- the answer and its text, where the file that is asked for has these bytes
abbrev pub IsAnswer : Asked → List ℕ → Status → List ℕ → Type 0
IsAnswer asked bytes NoAlarm text = IsReport asked bytes [] text
IsAnswer asked bytes Alarms text = (alarms : List Alarm) × (alarms ≢ []) × IsReport asked bytes alarms text
IsAnswer asked bytes Refused text = (r : RefusalTree) × IsRefusedFor bytes r × (text ≡ line_of asked.file r)
IsAnswer asked bytes status text = ⊥

-- the answer comes with a text, and of that this holds
abbrev pub OnWhole : Status → Type 0 → Type 0
OnWhole NoAlarm p = p
OnWhole Alarms p = p
OnWhole Refused p = p
OnWhole status p = Unit {0}

-- the answer comes with a text
abbrev pub IsWhole : Status → Type 0
IsWhole NoAlarm = Unit {0}
IsWhole Alarms = Unit {0}
IsWhole Refused = Unit {0}
IsWhole status = ⊥

-- the answer comes with a text, or is out of memory
abbrev pub Completes : Status → Type 0
Completes NoMemory = Unit {0}
Completes status = IsWhole status

-- the answer is one at which nothing is written, and of that this holds
abbrev pub OnNothing : Status → Type 0 → Type 0
OnNothing Usage p = p
OnNothing ReadFault p = p
OnNothing NoMemory p = p
OnNothing status p = Unit {0}

-- the answer comes where the words are a command, or is out of memory, and of that this holds
abbrev pub OnCommanded : Status → Type 0 → Type 0
OnCommanded Usage p = Unit {0}
OnCommanded NoMemory p = Unit {0}
OnCommanded status p = p
