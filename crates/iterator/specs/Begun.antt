-- Heads with which items are begun again.
use Rattle.std.specs.Prelude.{◌≡◌, ◌⊎◌, ℕ, Bool, List, Option, None}
use Rattle.csharp.specs.Trees.{CsStmtTrees, CsProgramTree}
use Rattle.csharp.specs.States.{State}
use Rattle.csharp.specs.Meaning as meaning
use Rattle.csharp.specs.Meaning.{caught, items, later_by}
use Rattle.walk_owes.specs.declared.marks.Mark.{Mark}
use Rattle.walk_owes.specs.declared.marks.Head.{Head}
use Rattle.walk_owes.specs.Exactly.{AllLeadOn, BeginsAlone, BodiesLeadOn, IsBare, IsSilent}

-- where items are begun from the first heads they are begun from the later ones too, or nothing is asked of the run
pub record BeginsOn {M : Type 0} (sharp : M → State → Type 0) (over : ℕ → Bool) (q : CsProgramTree) (all : CsStmtTrees) (heads : List (Head M)) (flow : Option M)
    (later : List (Head M)) : Type 0 where
  pub by : BodiesLeadOn q → AllLeadOn all → (n : ℕ) (from : Option meaning.Mark) (s : State) → BeginsAlone sharp all heads flow from s
      → IsSilent (caught (later_by over q n) all (items over q (later_by over q n) from all s)) ⊎ BeginsAlone sharp all later flow from s
  pub dead : flow ≡ None → ((mark : Mark) → IsBare heads mark) → (mark : Mark) → IsBare later mark
