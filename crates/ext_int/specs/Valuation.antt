-- Valuations. A valuation gives each variable a whole number: it is a list of whole numbers, and a variable past its end is 0.
use Rattle.std.specs.Prelude.{ℕ, ℤ, zero, suc, pos, List, [], ◌∷◌}

-- the number of a variable
abbrev pub value_at : List ℤ → ℕ → ℤ
value_at [] k = pos 0
value_at (n ∷ ns) zero = n
value_at (n ∷ ns) (suc k) = value_at ns k
