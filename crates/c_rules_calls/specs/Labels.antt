-- Labels as a set and as a list.
use Rattle.std.specs.Prelude.{◌≡◌, ◌==◌, ℕ, List}
use Rattle.std.specs.List.{list_any}

-- a number is in the one list where it is in the other
abbrev pub AreKnown : List ℕ → List ℕ → Type 0
AreKnown keys labels = (label : ℕ) → list_any (λ x. x == label) keys ≡ list_any (λ x. x == label) labels
