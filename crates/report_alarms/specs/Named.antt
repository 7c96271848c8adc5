-- The least name from a number on.
use Rattle.std.specs.Prelude.{◌≡◌, ◌≤◌, ◌<◌, ℕ, true, false, List, Option, Some, None, IfSome}
use Rattle.report_alarms.specs.ReportText.{has_name}

-- no name from this number on
abbrev pub HasNoName : List ℕ → ℕ → Type 0
HasNoName names from = (n : ℕ) → from ≤ n → has_name names n ≡ false

-- a name, and the least from this number on
pub record IsNextName (names : List ℕ) (from next : ℕ) : Type 0 where
  pub behind : from ≤ next
  pub named : has_name names next ≡ true
  pub least : (n : ℕ) → from ≤ n → n < next → has_name names n ≡ false

-- before the one that was found, where one was
abbrev pub IsBefore : ℕ → Option ℕ → Type 0
IsBefore n None = Unit
IsBefore n (Some next) = n < next

-- of the names from this number on, those before the one that was found are among those that are left
pub record IsNextBut (names rest : List ℕ) (from : ℕ) (next : Option ℕ) : Type 0 where
  pub found : IfSome next (λ n. (from ≤ n) × (has_name names n ≡ true))
  pub others : (n : ℕ) → from ≤ n → IsBefore n next → has_name names n ≡ has_name rest n
