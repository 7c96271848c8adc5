-- What a program that is ready brings to the analysis of what it is lowered to, and what comes back.
use Rattle.std.proofs.Common.{◌≡◌, ℕ, Option, Some, None, List, sym, subst}
use Rattle.std.specs.Prelude.{IfSome, slice_get}
use Rattle.c_syntax.specs.declared.alarm.Alarm.{Alarm}
use Rattle.c_syntax.specs.declared.program.Plan.{Plan}
use Rattle.c_syntax.specs.Program.{TProgramTree}
use Rattle.c_objects.specs.Statics.{AreEightBits}
use Rattle.c_steps_laws.specs.Fits.{Runs}
use Rattle.csharp.specs.Trees.{CsCallTree, CsStmtTree, Call, CsFunctionTree, CsProgramTree}
use Rattle.lower_trees.specs.Correct.{LoweringIsRight}
use Rattle.lower_trees.specs.LowerProgram.{lower}
use Rattle.lower_sites_laws.specs.Laws as laws
use Rattle.lower_sites_laws.specs.Laws.{LoweredChecksAreOfOneForm, LoweredCallsAgree}
use Rattle.alarm_claims.specs.Admitted.{SomeIn}
use Rattle.alarm_claims.specs.Analyzed.{Analyzed}
use Rattle.alarm_claims.proofs.Parts.{some_on}
use Rattle.alarm_lists.specs.Sites as lists
use Rattle.alarm_lists.specs.Sites.{SitesAgree}
use Rattle.alarm_carried_laws.specs.AlarmsOf.{AreAlarmsOf}
use Rattle.alarm_carried_laws.specs.Carried.{AnalysesCarryOver}
use Rattle.alarm_carried_laws.specs.ExactReport.{IsExactWithin}
use Rattle.lower_exact_laws.specs.Laws.{ExactAnalysesCarryOver, IsExactAnalysis}
use Rattle.program_alarms.specs.Ready.{IsReady}

pub runs_of : (p : TProgramTree) (plan : Plan) → IsReady p plan → AreEightBits p.initial → Runs p plan
runs_of p plan ready bits = record { typed = ready.typed; planned = ready.planned; bits = bits }

called : (c : CsCallTree) (a : CsStmtTree) → lists.IsCalled c a → laws.IsCalled c a
called c (Call d) e = e
called c _ e = absurd e

calls_agree : (o : Option CsFunctionTree)
    → IfSome o (λ function. (c d : CsCallTree) → SomeIn (laws.IsCalled c) function.body → SomeIn (laws.IsCalled d) function.body → c.pos ≡ d.pos → c.function ≡ d.function)
    → IfSome o (λ function. (c d : CsCallTree) → SomeIn (lists.IsCalled c) function.body → SomeIn (lists.IsCalled d) function.body → c.pos ≡ d.pos → c.function ≡ d.function)
calls_agree None h = tt
calls_agree (Some function) h = λ c d found other at.
    h c d (some_on (lists.IsCalled c) (laws.IsCalled c) (called c) function.body found) (some_on (lists.IsCalled d) (laws.IsCalled d) (called d) function.body other) at

pub sites : LoweredChecksAreOfOneForm → LoweredCallsAgree → (p : TProgramTree) (plan : Plan) (q : CsProgramTree) → IsReady p plan → AreEightBits p.initial → q ≡ lower p plan → SitesAgree q
sites checks calls p plan q ready bits is =
    let runs = runs_of p plan ready bits in
    let agree = calls p plan runs ready.sites in
    subst SitesAgree (sym is) (record { checks = checks p plan runs ready.sites; calls = λ f. calls_agree (slice_get (lower p plan).functions f) (agree f) })

pub carried : LoweringIsRight → AnalysesCarryOver → (p : TProgramTree) (plan : Plan) (q : CsProgramTree) (alarms : List Alarm) → IsReady p plan → AreEightBits p.initial → q ≡ lower p plan
    → Analyzed q alarms → AreAlarmsOf p alarms
carried right carry p plan q alarms ready bits is found =
    let runs = runs_of p plan ready bits in
    carry p plan runs (right p plan runs) alarms (subst (λ z. Analyzed z alarms) is found)

pub exactly : LoweringIsRight → ExactAnalysesCarryOver → (p : TProgramTree) (plan : Plan) (q : CsProgramTree) (bound : ℕ) (alarms : List Alarm) → IsReady p plan → AreEightBits p.initial
    → q ≡ lower p plan → IsExactAnalysis q bound alarms → IsExactWithin bound p alarms
exactly right carry p plan q bound alarms ready bits is exact =
    let runs = runs_of p plan ready bits in
    carry p plan bound alarms runs (right p plan runs) (subst (λ z. IsExactAnalysis z bound alarms) is exact)
