-- What is read of bytes, by what their typed program is.
use Rattle.std.proofs.Common.{◌≡◌, ◌≤◌, List, ℕ, length}
use Rattle.c_syntax.specs.declared.program.Plan.{Plan}
use Rattle.c_syntax.specs.Program.{TProgramTree}
use Rattle.c_layout.specs.Plans.{IsPlanFor}
use Rattle.c_typing_laws.specs.WellTypedLaws.{TypedIsWellTyped}
use Rattle.c_typing_places.specs.SiteLaws.{SitesOfTextsAgree}
use Rattle.program_alarms.specs.Ready.{IsReady}
use Rattle.headline.specs.Program.{IsTypedAs, IsAdmittedAs}
use Rattle.report.specs.Refusal.{RefusalTree}
use Rattle.headline.specs.Verdict.{IsRefusedFor}
use Rattle.headline.specs.Read.{IsOneProgram}

-- bytes whose typed program is admitted are it alone
pub one_read : ((bytes : List ℕ) (a b : TProgramTree) → IsAdmittedAs bytes a → IsAdmittedAs bytes b → a ≡ b)
    → ((bytes : List ℕ) (program : TProgramTree) (r : RefusalTree) → length bytes ≤ 4194304 → IsAdmittedAs bytes program → IsRefusedFor bytes r → ⊥)
    → (bytes : List ℕ) (program : TProgramTree) → length bytes ≤ 4194304 → IsAdmittedAs bytes program → IsOneProgram bytes program
one_read one nor bytes program small is =
    record { is = is; only = λ other found. one bytes other program found is; accepted = λ r refused. nor bytes program r small is refused }

-- the typed program of a text is ready to be analysed, where it has a plan
pub ready : TypedIsWellTyped → SitesOfTextsAgree → (bytes : List ℕ) (program : TProgramTree) (plan : Plan) → IsTypedAs bytes program → IsPlanFor program plan → IsReady program plan
ready typed sites bytes program plan (file, (ts, cut, (tree, refused)), types) planned =
    record { typed = typed file program types; planned = planned; sites = sites 0 bytes ts file program cut tree types }
