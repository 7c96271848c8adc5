-- How many temporaries there are.
use Rattle.std.specs.Prelude.{◌≡◌, ℕ, Bool, length}
use Rattle.csharp.specs.Trees.{CsStmtTree, CsProgramTree}
use Rattle.csharp.specs.States.{State}
use Rattle.csharp.specs.Meaning.{bounded_exec}
use Rattle.csharp_laws.specs.LeftAlone.{IsBehind}

-- behind a statement that ends normally or leaves there are as many temporaries as before it, whatever the program
abbrev pub CountsStay : Type 0
CountsStay = (over : ℕ → Bool) (q : CsProgramTree) (fuel : ℕ) (a : CsStmtTree) (s t : State)
    → IsBehind (bounded_exec over q fuel a s) t → length t.temps ≡ length s.temps
