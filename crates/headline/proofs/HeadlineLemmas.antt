-- One command, and the report of alarms.
use Rattle.std.proofs.Common.{◌≡◌, ◌⊎◌, ◌∙◌, inl, inr, sym, List, ℕ, Option, Some, None}
use Rattle.std.specs.Prelude.{IfSome, IsSomeAnd}
use Rattle.c_syntax.specs.declared.alarm.Alarm.{Alarm}
use Rattle.c_syntax.specs.Program.{TProgramTree}
use Rattle.c_syntax.specs.declared.program.Plan.{Plan}
use Rattle.alarm_carried_laws.specs.AlarmsOf.{AreAlarmsOf}
use Rattle.alarm_carried_laws.specs.ExactReport.{IsExactWithin}
use Rattle.program_alarms.specs.Ready.{IsReady}
use Rattle.report_alarms.specs.ReportText.{text_of}
use Rattle.report_alarms.specs.Told.{told_of}
use Rattle.headline_words.specs.Command.{Asked, command_of}
use Rattle.headline.specs.Read.{IsOneProgram}
use Rattle.report.specs.Refusal.{RefusalTree}
use Rattle.report.specs.RefusalText.{line_of}
use Rattle.headline.specs.Verdict.{IsRefusedFor}
use Rattle.headline.specs.declared.status.Status.{Status}
use Rattle.headline.specs.declared.status.Status.TheVariants as statuses
use Rattle.headline.specs.Headline.{IsReport, OnWhole}
use Rattle.headline.specs.Exact.{IsExactlyReported}

-- the words ask for one thing
pub same_asked : (words : List (List ℕ)) (a b : Asked) → command_of words ≡ Some a → command_of words ≡ Some b → a ≡ b
same_asked words a b one two = let e : Some a ≡ Some b = sym one ∙ two in cc

-- an answer that is this status or a write fault comes with a text only where it is this status
pub on_whole : (status result : Status) (P : Type 0) → (result ≡ status) ⊎ (result ≡ statuses.WriteFault) → (result ≡ status → P) → OnWhole result P
on_whole status statuses.NoAlarm P (inl is) holds = holds is
on_whole status statuses.NoAlarm P (inr is) holds = absurd cc
on_whole status statuses.Alarms P (inl is) holds = holds is
on_whole status statuses.Alarms P (inr is) holds = absurd cc
on_whole status statuses.Refused P (inl is) holds = holds is
on_whole status statuses.Refused P (inr is) holds = absurd cc
on_whole status statuses.Usage P is holds = tt
on_whole status statuses.ReadFault P is holds = tt
on_whole status statuses.WriteFault P is holds = tt
on_whole status statuses.NoMemory P is holds = tt

-- a refusal with its line
pub refused : (name bytes text : List ℕ) (found : Option RefusalTree) → IsSomeAnd found (IsRefusedFor bytes) → IfSome found (λ r. text ≡ line_of name r)
    → (r : RefusalTree) × IsRefusedFor bytes r × (text ≡ line_of name r)
refused name bytes text None is line = absurd is
refused name bytes text (Some r) is line = (r, is, line)

-- the report of alarms of a program that is ready
pub report : (asked : Asked) (bytes : List ℕ) (program : TProgramTree) (plan : Plan) (alarms : List Alarm) (text : List ℕ) → IsReady program plan → IsOneProgram bytes program
    → AreAlarmsOf program alarms → text ≡ text_of asked.file (told_of program plan.main) asked.state alarms → IsReport asked bytes alarms text
report asked bytes program plan alarms text ready one alarms_are text_is = record {
  program = program;
  main = plan.main;
  read = one.is;
  only = one.only;
  accepted = one.accepted;
  main_is = ready.planned.main;
  alarms_are = alarms_are;
  text_is = text_is;
}

-- the same of alarms that are exact
pub exact_report : (asked : Asked) (bytes : List ℕ) (program : TProgramTree) (plan : Plan) (alarms : List Alarm) (text : List ℕ) → IsReady program plan → IsOneProgram bytes program
    → AreAlarmsOf program alarms → IsExactWithin asked.unroll program alarms → text ≡ text_of asked.file (told_of program plan.main) asked.state alarms
    → IsExactlyReported asked bytes alarms text
unfolding report
exact_report asked bytes program plan alarms text ready one alarms_are exact text_is = (report asked bytes program plan alarms text ready one alarms_are text_is, exact)
