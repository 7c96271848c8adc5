-- How abstract states stand to plain ones, and to what goes on behind a test.
use Rattle.std.specs.Prelude.{Bool, true, false, Option, Some, None}
use Rattle.plain_runs.specs.States.{Plain}

-- what is left behind a test is under what the plain run leaves: a dead state is under anything, and no live one is under what is not reached
abbrev pub IsBelow : {M : Type 0} → (M → Plain → Type 0) → Bool → M → Option Plain → Type 0
IsBelow under false m p = Unit {0}
IsBelow under true m None = ⊥
IsBelow under true m (Some p) = under m p
