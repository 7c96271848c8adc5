-- How the places of names are kept: in a map from each name.
use Rattle.std.specs.Prelude.{◌≡◌, ℕ, List, []}
use Rattle.std.specs.Option.{option_map_or}
use Rattle.std.specs.Str.{bytes_eq}
use Rattle.std.specs.HashMap.{HashMap, get_by}
use Rattle.std.specs.declared.vec.Vec.{Vec}
use Rattle.std.specs.declared.alloc.Global.{Global}
use Rattle.c_check_names.specs.Places.{places_of}

-- the places that the map holds of a name
abbrev pub places_at : {S : Type 0} → HashMap (Vec ℕ Global) (Vec ℕ Global) S → List ℕ → List ℕ
places_at map name = option_map_or (λ places. places.items) (get_by (λ key. bytes_eq name key.items) map) []

-- the map holds the places of all names
abbrev pub IsIndexOf : {S : Type 0} → HashMap (Vec ℕ Global) (Vec ℕ Global) S → List (List ℕ) → Type 0
IsIndexOf map names = (name : List ℕ) → places_at map name ≡ places_of name names
