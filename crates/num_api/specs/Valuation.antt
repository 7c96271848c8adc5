-- Assignments between valuations.
use Rattle.std.specs.Prelude.{ℕ, ℤ, ◌≡◌, ◌≢◌, List}
use Rattle.ext_int.specs.Valuation.{value_at}

-- after is before with the number n at x
pub record SetTo (x : ℕ) (n : ℤ) (before after : List ℤ) : Type 0 where
  pub here : value_at after x ≡ n
  pub others : (y : ℕ) → y ≢ x → value_at after y ≡ value_at before y
