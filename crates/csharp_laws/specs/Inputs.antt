-- Programs that read no input, and that they never wait for one (this profile).
use Rattle.std.specs.Prelude.{◌≡◌, ℕ, ℤ, Bool, List}
use Rattle.csharp.specs.Trees.{CsStmtTree, Input, CsProgramTree}
use Rattle.csharp.specs.Outcomes.{Waiting}
use Rattle.csharp.specs.Formed.{Throughout}
use Rattle.csharp.specs.Meaning.{bounded_run}

abbrev pub IsNoInput : CsStmtTree → Type 0
IsNoInput (Input d t) = ⊥
IsNoInput a = Unit {0}

abbrev pub IsInputFree : CsProgramTree → Type 0
IsInputFree q = Throughout (λ f around a. IsNoInput a) q

abbrev pub NeverWaits : Type 0
NeverWaits = (over : ℕ → Bool) (q : CsProgramTree) (fuel : ℕ) (inputs : List ℤ) → IsInputFree q → bounded_run over q fuel inputs ≡ Waiting → ⊥
