-- What is read of a file's bytes.
use Rattle.std.specs.Prelude.{◌≡◌, ℕ, List, IsSomeAnd}
use Rattle.headline.specs.declared.program.Read.{Read}
use Rattle.headline.specs.declared.program.Read.TheVariants as reads
use Rattle.c_syntax.specs.Program.{TProgramTree, tprogram_tree}
use Rattle.program_alarms.specs.Ready.{IsReady}
use Rattle.headline.specs.Program.{IsAdmittedAs}
use Rattle.report.specs.Refusal.{RefusalTree, refusal_tree}
use Rattle.headline.specs.Verdict.{IsRefusedFor}

-- the bytes are this program, no other, and not refused
pub record IsOneProgram (bytes : List ℕ) (program : TProgramTree) : Type 0 where
  pub is : IsAdmittedAs bytes program
  pub only : (other : TProgramTree) → IsAdmittedAs bytes other → other ≡ program
  pub accepted : (r : RefusalTree) → IsRefusedFor bytes r → ⊥

abbrev pub Tells : List ℕ → Read → Type 0
Tells bytes (reads.Program program plan) = IsOneProgram bytes (tprogram_tree program) × IsReady (tprogram_tree program) plan
Tells bytes (reads.Refused r) = IsSomeAnd (refusal_tree r) (IsRefusedFor bytes)
