-- Runs of main whose loops have a bound on their turns (this profile).
use Rattle.std.specs.Prelude.{◌≡◌, ◌⊎◌, ◌≤◌, ℕ, ℤ, Bool, List, Some, slice_get}
use Rattle.csharp.specs.Trees.{CsFunctionTree, CsProgramTree}
use Rattle.csharp.specs.Outcomes.{NoFuel, Over}
use Rattle.csharp.specs.Formed.{AreCallsFounded}
use Rattle.csharp.specs.Meaning.{beyond, bounded_run, run}
use Rattle.csharp_laws.specs.Enough.{IsForwardOnly, call_need, need}

-- a run within the bound is the run without one
abbrev pub BoundedRunIsSame : Type 0
BoundedRunIsSame = (over : ℕ → Bool) (q : CsProgramTree) (fuel : ℕ) (inputs : List ℤ)
    → (bounded_run over q fuel inputs ≡ Over) ⊎ (run q fuel inputs ≡ bounded_run over q fuel inputs)

-- a bounded run of main comes to an outcome other than out of fuel, with the fuel that main needs
abbrev pub RunsHaveEnough : Type 0
RunsHaveEnough = (bound : ℕ) (q : CsProgramTree) (founded : AreCallsFounded q) → IsForwardOnly q
    → (function : CsFunctionTree) → slice_get q.functions q.main ≡ Some function
    → (fuel : ℕ) (inputs : List ℤ) → need bound (call_need bound q (founded.rank q.main)) function.body ≤ fuel
    → bounded_run (beyond bound) q fuel inputs ≡ NoFuel → ⊥
