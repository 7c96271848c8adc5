-- Powers of two that divide numbers.
use Rattle.std.specs.Prelude.{◌≡◌, ℕ, ℤ, pos, ◌^◌, ◌≤◌}
use Rattle.num_api.specs.Residues.{IsMultiple}

-- the number is this power of two, and divides both numbers
pub record IsPowerDividing (bits : ℕ) (m n step : ℤ) : Type 0 where
  pub is : step ≡ pos (2 ^ bits)
  pub first : IsMultiple step m
  pub second : IsMultiple step n

-- the number is a power of two, at most 2^100, that divides both numbers
pub record IsCommonPower (m n step : ℤ) : Type 0 where
  pub bits : ℕ
  pub small : bits ≤ 100
  pub divides : IsPowerDividing bits m n step
