-- Sums of lists of whole numbers.
use Rattle.std.specs.Prelude.{ℤ, pos, neg_ℤ, ◌^◌, ◌+ℤ◌, ◌≤ℤ◌, List, [], ◌∷◌, All}

abbrev pub total : List ℤ → ℤ
total [] = pos 0
total (n ∷ ns) = n +ℤ total ns

-- the first numbers are from 0 on, and the second ones up to 0
pub record AreSigned (up down : List ℤ) : Type 0 where
  pub rise : All (λ n. pos 0 ≤ℤ n) up
  pub fall : All (λ n. n ≤ℤ pos 0) down

-- not greater in size than 2 to the 63, so that a product with any u64 is an i128
pub record IsHalf (n : ℤ) : Type 0 where
  pub low : neg_ℤ (pos (2 ^ 63)) ≤ℤ n
  pub high : n ≤ℤ pos (2 ^ 63)
