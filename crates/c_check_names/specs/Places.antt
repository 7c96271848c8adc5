-- Where names stand in a list of them.
use Rattle.std.specs.Prelude.{ℕ, suc, ◌-◌, nat_le, if◌then◌else◌, Option, find, slice_get, List, [], ◌∷◌, length}
use Rattle.std.specs.Str.{bytes_eq}

-- the places at which a name stands, rising, where the first name has this place
abbrev pub places_from : ℕ → List ℕ → List (List ℕ) → List ℕ
places_from k name [] = []
places_from k name (n ∷ ns) = if bytes_eq n name then k ∷ places_from (suc k) name ns else places_from (suc k) name ns

abbrev pub places_of : List ℕ → List (List ℕ) → List ℕ
places_of name names = places_from 0 name names

-- the last of them
abbrev pub last_place : List ℕ → List (List ℕ) → Option ℕ
last_place name names = slice_get (places_of name names) (length (places_of name names) - 1)

-- the first of them that is not below a place
abbrev pub first_place : ℕ → List ℕ → List (List ℕ) → Option ℕ
first_place from name names = find (λ place. nat_le from place) (places_of name names)
