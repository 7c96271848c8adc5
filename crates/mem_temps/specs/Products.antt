-- Products of which not every one need be an `i128`: numbers up to multiples of 2^64.
use Rattle.std.specs.Prelude.{ℤ, pos, ◌^◌, ◌-ℤ◌}
use Rattle.num_api.specs.declared.message.Range.{Range}
use Rattle.num_api.specs.Ranges.{InRange, IsPoint}
use Rattle.num_api.specs.Residues.{IsMultiple}

-- the range holds a number that is n up to such a multiple
abbrev pub HoldsLike : Range → ℤ → Type 0
HoldsLike r n = (m : ℤ) × InRange r m × IsMultiple (pos (2 ^ 64)) (m -ℤ n)

-- it is the point of one
abbrev pub IsPointLike : Range → ℤ → Type 0
IsPointLike r n = (m : ℤ) × IsPoint r m × IsMultiple (pos (2 ^ 64)) (m -ℤ n)
