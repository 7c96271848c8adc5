-- Steps: the whole numbers at which widening stops, as a list in rising order.
use Rattle.std.specs.Prelude.{ℕ, ℤ, pos, ◌+◌, ◌^◌, neg_ℤ, ◌≤ℤ◌, ◌<ℤ◌, cond, List, [], ◌∷◌, Option, None, Some, MatchOption}
use Rattle.std.specs.Int.RustNames.{int_le}

-- the number has a size of at most 2^100
pub record IsSmall (n : ℤ) : Type 0 where
  pub low : neg_ℤ (pos (2 ^ 100)) ≤ℤ n
  pub high : n ≤ℤ pos (2 ^ 100)

-- the first of the numbers is above `low`, and each other one above the one before it
abbrev pub RisesFrom : ℤ → List ℤ → Type 0
RisesFrom low [] = Unit {0}
RisesFrom low (x ∷ xs) = (low <ℤ x) × RisesFrom x xs

-- each number is above the one before it
abbrev pub IsRising : List ℤ → Type 0
IsRising [] = Unit {0}
IsRising (x ∷ xs) = RisesFrom x xs

-- the least of rising steps that is not below n
abbrev pub least : List ℤ → ℤ → Option ℤ
least [] n = None
least (x ∷ xs) n = cond (int_le n x) (Some x) (least xs n)

-- the second of two, where it is there, and else the first
abbrev pub later : Option ℤ → Option ℤ → Option ℤ
later a None = a
later a (Some x) = Some x

-- the greatest of rising steps that is not above n
abbrev pub greatest : List ℤ → ℤ → Option ℤ
greatest [] n = None
greatest (x ∷ xs) n = later (cond (int_le x n) (Some x) None) (greatest xs n)

-- how many of the steps are above n
abbrev pub steps_above : List ℤ → ℤ → ℕ
steps_above [] n = 0
steps_above (x ∷ xs) n = cond (int_le x n) (steps_above xs n) (steps_above xs n + 1)

-- how many of the steps are below n
abbrev pub steps_below : List ℤ → ℤ → ℕ
steps_below [] n = 0
steps_below (x ∷ xs) n = cond (int_le n x) (steps_below xs n) (steps_below xs n + 1)
