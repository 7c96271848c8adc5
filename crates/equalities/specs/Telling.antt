-- Equalities that are told one after another, and the truth of a test that is followed along them.
use Rattle.std.specs.Prelude.{ℤ, List, Option, IsTrue, IfSome}
use Rattle.ext_int.specs.Valuation.{value_at}
use Rattle.num_api.specs.Value.{has_truth}
use Rattle.num_api.specs.declared.message.Message.{Message}
use Rattle.num_api.specs.Messages.{Adds, TellsOf}
use Rattle.equalities.specs.declared.following.Truth.{Truth}
use Rattle.equalities.specs.Pairs.{Equality, AreSo}

-- the equalities before `rest` are put out
pub record IsToldSoFar (first now : List Message) (all rest : List Equality) : Type 0 where
  pub adds : Adds first now
  pub tells : (v : List ℤ) → AreSo v all → TellsOf v first now
  pub left : (v : List ℤ) → AreSo v all → AreSo v rest

-- the variable has this truth
abbrev pub HasTruth : List ℤ → Truth → Type 0
HasTruth v t = IsTrue (has_truth t.holds (value_at v t.x.0))

-- what was found on the way is put out, and the next variable has its truth
pub record IsFollowedSoFar (Fits : List ℤ → Type 0) (first now : List Message) (next : Option Truth) : Type 0 where
  pub adds : Adds first now
  pub tells : (v : List ℤ) → Fits v → TellsOf v first now
  pub stands : (v : List ℤ) → Fits v → IfSome next (HasTruth v)
