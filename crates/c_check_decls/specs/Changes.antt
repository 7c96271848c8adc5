-- Items of a list that are changed where they have a name.
use Rattle.std.specs.Prelude.{ℕ, zero, suc, if◌then◌else◌, List, [], ◌∷◌}
use Rattle.std.specs.Str.{bytes_eq}

-- an item, changed where it has the name
abbrev pub become : {B : Type 0} → (B → List ℕ) → List ℕ → (B → B) → B → B
become name_of name change b = if bytes_eq (name_of b) name then change b else b

-- a list, whose item at a place is changed
abbrev pub changed_at : {B : Type 0} → (B → B) → ℕ → List B → List B
changed_at change n [] = []
changed_at change zero (b ∷ bs) = change b ∷ bs
changed_at change (suc n) (b ∷ bs) = b ∷ changed_at change n bs
