-- What alarms on a lowered program are on the typed program from which it comes.
use Rattle.std.specs.Prelude.{List}
use Rattle.c_syntax.specs.declared.alarm.Alarm.{Alarm}
use Rattle.c_syntax.specs.declared.program.Plan.{Plan}
use Rattle.c_syntax.specs.Program.{TProgramTree}
use Rattle.c_steps_laws.specs.Fits.{Runs}
use Rattle.lower_trees.specs.Correct.{Lowers}
use Rattle.lower_trees.specs.LowerProgram.{lower}
use Rattle.alarm_claims.specs.Analyzed.{Analyzed}
use Rattle.alarm_carried_laws.specs.AlarmsOf.{AreAlarmsOf}

-- the alarms of a lowered program are alarms of the program that was lowered
abbrev pub AnalysesCarryOver : Type 0
AnalysesCarryOver = (p : TProgramTree) (plan : Plan) → Runs p plan → Lowers p plan (lower p plan)
    → (alarms : List Alarm) → Analyzed (lower p plan) alarms → AreAlarmsOf p alarms
