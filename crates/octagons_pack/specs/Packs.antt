-- Packs: lists of variables, the one that was used latest first.
use Rattle.std.specs.Prelude.{ℕ, zero, suc, ℤ, ◌≡◌, ◌<◌, ◌+◌, Bool, true, false, not, if◌then◌else◌, nat_eq, List, [], ◌∷◌, length, take, filter, map, slice_index_or, Option, None, Some, is_some}
use Rattle.ext_int.specs.Valuation.{value_at}

-- the numbers of the variables of a pack
abbrev pub picked : List ℤ → List ℕ → List ℤ
picked v [] = []
picked v (x ∷ xs) = value_at v x ∷ picked v xs

-- the variable at a place of the pack
abbrev pub at : List ℕ → ℕ → ℕ
at pack k = slice_index_or pack k 0

abbrev pub later : Option ℕ → Option ℕ
later None = None
later (Some k) = Some (k + 1)

-- the first place of a variable in a pack
abbrev pub place_in : ℕ → List ℕ → Option ℕ
place_in x [] = None
place_in x (z ∷ zs) = if nat_eq z x then Some 0 else later (place_in x zs)

-- the pack without a variable
abbrev pub without : ℕ → List ℕ → List ℕ
without x pack = filter (λ z. not (nat_eq z x)) pack

-- the pack with the variable as the one that was used latest; of more than 24 the one that was used longest ago goes
abbrev pub brought : ℕ → List ℕ → List ℕ
brought x pack = x ∷ take 23 (without x pack)

-- the variables that are in the other pack too
abbrev pub common : List ℕ → List ℕ → List ℕ
common pack other = filter (λ z. is_some (place_in z other)) pack

-- where each variable of a pack stands in another one, if it does
abbrev pub places_in : List ℕ → List ℕ → List (Option ℕ)
places_in own other = map (λ z. place_in z other) own
