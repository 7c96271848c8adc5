-- What an exact analysis asks of a program, for each program that is lowered from a typed one with its plan, and what it gives of that.
use Rattle.std.specs.Prelude.{ℕ, List, IsTrue}
use Rattle.c_syntax.specs.declared.alarm.Alarm.{Alarm}
use Rattle.c_syntax.specs.declared.program.Plan.{Plan}
use Rattle.c_syntax.specs.Program.{TProgramTree}
use Rattle.c_steps_laws.specs.Fits.{Runs}
use Rattle.csharp.specs.Trees.{CsProgramTree}
use Rattle.csharp_laws.specs.Enough.{IsForwardOnly}
use Rattle.lower_trees.specs.Correct.{Lowers}
use Rattle.lower_trees.specs.LowerProgram.{lower}
use Rattle.mem_objects.specs.Under.{have_own_sizes}
use Rattle.alarm_claims.specs.ExactFor.{IsExactFor}
use Rattle.alarm_carried_laws.specs.ExactReport.{IsExactWithin}
use Rattle.analyzer.specs.Straight.{AreDefaultsOnce}

-- each switch has at most one default
abbrev pub LoweredHasOneDefault : Type 0
LoweredHasOneDefault = (p : TProgramTree) (plan : Plan) → Runs p plan → AreDefaultsOnce (lower p plan)

-- each integer object has as many bytes as its type
abbrev pub LoweredHasOwnSizes : Type 0
LoweredHasOwnSizes = (p : TProgramTree) (plan : Plan) → Runs p plan → IsTrue (have_own_sizes (lower p plan).objects)

-- what an analysis promises of its list under these premises, where its domain of memory is exact for programs whose integer objects have their types' sizes
abbrev pub IsExactAnalysis : CsProgramTree → ℕ → List Alarm → Type 0
IsExactAnalysis q bound alarms = IsTrue (have_own_sizes q.objects) → IsForwardOnly q → AreDefaultsOnce q → IsExactFor q bound alarms

-- the list is exact on the program that was lowered
abbrev pub ExactAnalysesCarryOver : Type 0
ExactAnalysesCarryOver = (p : TProgramTree) (plan : Plan) (bound : ℕ) (alarms : List Alarm) → Runs p plan → Lowers p plan (lower p plan)
    → IsExactAnalysis (lower p plan) bound alarms → IsExactWithin bound p alarms
