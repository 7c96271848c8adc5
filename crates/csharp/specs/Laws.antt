-- Laws of the meaning alone.
use Rattle.std.specs.Prelude.{◌≡◌, ◌⊎◌, ℕ, ◌+◌, Bool}
use Rattle.csharp.specs.Trees.{CsStmtTree, CsProgramTree}
use Rattle.csharp.specs.States.{State}
use Rattle.csharp.specs.Outcomes.{NoFuel, Over}
use Rattle.csharp.specs.Meaning.{bounded_exec, exec}

-- more fuel changes no outcome but out of fuel
abbrev pub MoreFuelIsSame : Type 0
MoreFuelIsSame = (over : ℕ → Bool) (q : CsProgramTree) (fuel more : ℕ) (a : CsStmtTree) (s : State)
    → (bounded_exec over q fuel a s ≡ NoFuel) ⊎ (bounded_exec over q (fuel + more) a s ≡ bounded_exec over q fuel a s)

-- a bound on turns changes no outcome but too many turns
abbrev pub BoundIsSame : Type 0
BoundIsSame = (over : ℕ → Bool) (q : CsProgramTree) (fuel : ℕ) (a : CsStmtTree) (s : State)
    → (bounded_exec over q fuel a s ≡ Over) ⊎ (exec q fuel a s ≡ bounded_exec over q fuel a s)
