-- What exact alarms on a lowered program are on the typed program from which it comes.
use Rattle.std.specs.Prelude.{ℕ, List}
use Rattle.c_syntax.specs.declared.alarm.Alarm.{Alarm}
use Rattle.c_syntax.specs.declared.program.Plan.{Plan}
use Rattle.c_syntax.specs.Program.{TProgramTree}
use Rattle.c_steps.specs.Bounds.{IsForwardOnly, IsInputFree, Turns}
use Rattle.c_steps_laws.specs.Fits.{Runs}
use Rattle.lower_trees.specs.Correct.{Lowers}
use Rattle.lower_trees.specs.LowerProgram.{lower}
use Rattle.alarm_claims.specs.ExactFor.{IsExactFor}
use Rattle.alarm_carried_laws.specs.ExactReport.{IsExactReport}

abbrev pub BoundedRunsAreTold : Type 0
BoundedRunsAreTold = (p : TProgramTree) (plan : Plan) (bound : ℕ) → Runs p plan → Lowers p plan (lower p plan) → IsInputFree p → IsForwardOnly p
    → Turns p plan.main bound → (alarms : List Alarm) → IsExactFor (lower p plan) bound alarms → IsExactReport p alarms
