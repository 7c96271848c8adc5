-- What a run answers of a program that reads no input, has no goto that leads back, and whose loops turn within the bound: no false alarm.
use Rattle.std.specs.Prelude.{◌≢◌, ℕ, List, []}
use Rattle.c_syntax.specs.declared.alarm.Alarm.{Alarm}
use Rattle.alarm_carried_laws.specs.ExactReport.{IsExactWithin}
use Rattle.headline_words.specs.Command.{Asked}
use Rattle.headline.specs.declared.status.Status.{Status}
use Rattle.headline.specs.declared.status.Status.TheVariants.{NoAlarm, Alarms}
use Rattle.headline.specs.Headline.{IsReport}

-- the text is the report of these alarms, which are exact within the turns that the words ask for
abbrev pub IsExactlyReported : Asked → List ℕ → List Alarm → List ℕ → Type 0
IsExactlyReported asked bytes alarms text = (report : IsReport asked bytes alarms text) × IsExactWithin asked.unroll report.program alarms

-- the answer and its text, where that is a report
abbrev pub IsExactAnswer : Asked → List ℕ → Status → List ℕ → Type 0
IsExactAnswer asked bytes NoAlarm text = IsExactlyReported asked bytes [] text
IsExactAnswer asked bytes Alarms text = (alarms : List Alarm) × (alarms ≢ []) × IsExactlyReported asked bytes alarms text
IsExactAnswer asked bytes status text = Unit {0}
