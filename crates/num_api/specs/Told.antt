-- What a ramp is told of the closure that finds its steps.
use Rattle.std.specs.Prelude.{ℕ, ℤ, ◌≡◌, neg_ℤ, List, Option, length, map, reverse, All}
use Rattle.num_api.specs.Steps.{IsSmall, IsRising, least}
use Rattle.num_api.specs.declared.ramp.Ramp.{Ramp}

-- the closure may be asked of every small number, and answers the least of `count` steps that is not below it;
-- the steps rise, are small, and stay the same steps when each is negated
pub record Answers {U : Type 0} (pre : U → ℤ → Type 0) (post : U → ℤ → Option ℤ → Type 0) (count : ℕ) (up : U) (steps : List ℤ) : Type 0 where
  pub counted : length steps ≡ count
  pub rising : IsRising steps
  pub small : All IsSmall steps
  pub mirrored : reverse (map neg_ℤ steps) ≡ steps
  pub callable : (n : ℤ) → IsSmall n → pre up n
  pub least_step : (n : ℤ) (r : Option ℤ) → IsSmall n → post up n r → r ≡ least steps n

-- the same of the closure and the number of steps that a ramp holds
abbrev pub Keeps : {U : Type 0} → (U → ℤ → Type 0) → (U → ℤ → Option ℤ → Type 0) → Ramp U → List ℤ → Type 0
Keeps pre post ramp steps = Answers pre post ramp.steps ramp.up steps
