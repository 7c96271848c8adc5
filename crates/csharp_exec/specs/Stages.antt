-- Stages of the meaning, by the fuel that is left.
use Rattle.std.specs.Prelude.{◌≡◌, ℕ, ℤ, Bool, true, List, Option, Some, None, if◌then◌else◌, slice_get}
use Rattle.csharp.specs.Trees.{CsStmtTree, CsStmtTrees, CsProgramTree}
use Rattle.csharp.specs.States.{State, first}
use Rattle.csharp.specs.Outcomes as pure
use Rattle.csharp.specs.Outcomes.{or_stuck}
use Rattle.csharp.specs.Meaning as meaning
use Rattle.csharp.specs.Meaning.{AtLabel, bounded_exec, has, is_mark, items, later_by, caught, within}
use Rattle.csharp_exec.specs.declared.outcome.Outcome.{Outcome}
use Rattle.csharp_exec.specs.declared.outcome.Outcome.TheVariants as outcomes
use Rattle.csharp_exec.specs.declared.outcome.Way.TheVariants as ways
use Rattle.csharp_exec.specs.Told.{told}

-- items in their order
abbrev pub row : (ℕ → Bool) → CsProgramTree → ℕ → Option meaning.Mark → CsStmtTrees → State → pure.Outcome
row over q fuel from all s = items over q (later_by over q fuel) from all s

-- what is looked for behind an item
abbrev pub behind : meaning.Mark → CsStmtTree → Option meaning.Mark
behind mark item = if is_mark mark item then None else Some mark

-- items that catch gotos to their labels
abbrev pub catching : (ℕ → Bool) → CsProgramTree → ℕ → Option meaning.Mark → CsStmtTrees → State → pure.Outcome
catching over q fuel from all s = caught (later_by over q fuel) all (row over q fuel from all s)

-- items in whose order objects live
abbrev pub scoped : (ℕ → Bool) → CsProgramTree → ℕ → List ℕ → Option meaning.Mark → CsStmtTrees → State → pure.Outcome
scoped over q fuel xs from all s = within q xs s (λ t. catching over q fuel from all t)

-- a run of main with a bound on turns; with none it is `run`
abbrev pub main_of : (ℕ → Bool) → CsProgramTree → ℕ → List ℤ → pure.Outcome
main_of over q fuel inputs = or_stuck (slice_get q.functions q.main) (λ f. bounded_exec over q fuel f.body (first q inputs))

-- a goto to this label of the items; or the outcome is none to one of them
abbrev pub IsLanding : Option ℕ → Outcome → CsStmtTrees → Type 0
IsLanding (Some label) o all = (o ≡ outcomes.Leaves (ways.Goto label)) × (has (AtLabel label) all ≡ true)
IsLanding None o all = (later : meaning.Later) (s : State) → caught later all (told o s) ≡ told o s
