-- What holds of runs of any program.
use Rattle.std.specs.Prelude.{◌≡◌, ℕ, ℤ, List}
use Rattle.c_syntax.specs.Program.{TProgramTree}
use Rattle.c_steps.specs.States.{State, Goes}
use Rattle.c_steps.specs.Steps.{step}
use Rattle.c_steps.specs.Runs.{steps, after}

-- a state whose step gives no new one
abbrev pub IsLast : TProgramTree → State → Type 0
IsLast p s = (t : State) → step p s ≡ Goes t → ⊥

-- a state that is a run's last stays, whatever number of steps is made
abbrev pub LastStatesStay : Type 0
LastStatesStay = (p : TProgramTree) (s : State) (n : ℕ) → IsLast p s → steps p n s ≡ s

-- a run has one last state at most
abbrev pub RunsEndOnce : Type 0
RunsEndOnce =
    (p : TProgramTree) (main : ℕ) (inputs : List ℤ) (m n : ℕ)
    → IsLast p (after p main inputs m) → IsLast p (after p main inputs n) → after p main inputs m ≡ after p main inputs n
