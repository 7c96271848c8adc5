-- Ranks of functions that are no more than the functions (this profile).
use Rattle.std.specs.Prelude.{ℕ, ◌<◌, length}
use Rattle.csharp.specs.Trees.{CsProgramTree}
use Rattle.csharp.specs.Formed.{AreCallsFounded, IsFormed}

-- ranks by which calls lead down, those of functions below the number of functions
pub record AreRanksSmall (q : CsProgramTree) : Type 0 where
  pub founded : AreCallsFounded q
  pub small : (f : ℕ) → f < length q.functions → founded.rank f < length q.functions

abbrev pub FormedRanksAreSmall : Type 0
FormedRanksAreSmall = (q : CsProgramTree) → IsFormed q → AreRanksSmall q
