-- States: a value for some of the variables, of which each other may be anything.
use Rattle.std.specs.Prelude.{ℕ, ℤ, ◌≡◌, List, Option, Some, None}
use Rattle.ext_int.specs.Valuation.{value_at}
use Rattle.num_api.specs.declared.message.Range.{Range}
use Rattle.num_api.specs.Ranges.{all_numbers}
use Rattle.env_lift.specs.declared.entries.Entry.{Entry}
use Rattle.env_lift.specs.Entries.{value_in}

-- each value admits the number of its variable
abbrev pub AllAdmit : {V : Type 0} → (V → ℤ → Type 0) → List (Entry V) → List ℤ → Type 0
AllAdmit {V} A state v = (x : ℕ) (a : V) → value_in state x ≡ Some a → A a (value_at v x)

-- the range of a value, and all numbers where there is none
abbrev pub known_of : {V : Type 0} → (V → Range) → Option V → Range
known_of K None = all_numbers
known_of K (Some a) = K a

-- the range that is known of each variable
abbrev pub known_in : {V : Type 0} → (V → Range) → List (Entry V) → ℕ → Range
known_in K state x = known_of K (value_in state x)
