-- What is asked of a program whose alarms are looked for.
use Rattle.c_syntax.specs.declared.program.Plan.{Plan}
use Rattle.c_syntax.specs.Program.{TProgramTree}
use Rattle.c_layout.specs.Plans.{IsPlanFor}
use Rattle.c_layout.specs.WellTyped.{IsWellTyped}
use Rattle.c_sites.specs.Sites.{SitesAgree}

-- it is well typed, has this plan, and what stands at one place of a function looks at the same
pub record IsReady (program : TProgramTree) (plan : Plan) : Type 0 where
  pub typed : IsWellTyped program
  pub planned : IsPlanFor program plan
  pub sites : SitesAgree program
