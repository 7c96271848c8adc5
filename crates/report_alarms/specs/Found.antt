-- What is kept of the calls of a program, to be looked up.
use Rattle.std.specs.Prelude.{◌≡◌, ◌==◌, ◌&&◌, ℕ, Bool, List, Option, None, if◌then◌else◌}
use Rattle.std.specs.Option.{option_or}
use Rattle.std.specs.HashMap.{HashMap, get_by}
use Rattle.c_syntax_written.specs.declared.place.Pos.{Pos}
use Rattle.c_layout.specs.Calls.{PlacedCall}
use Rattle.report_alarms.specs.Told.{called_from, callee_at}

-- a function and a place in it, as they are looked up
abbrev pub Key : Type 0
Key = ℕ × ℕ × ℕ × ℕ

abbrev pub key_of : ℕ → Pos → Key
key_of f at = (f, at.file, at.line, at.col)

-- whether this is the key of a place of a function
abbrev pub is_key : ℕ → Pos → Key → Bool
is_key f at key = (f == key.0) && (at.file == key.1) && (at.line == key.2) && (at.col == key.3)

-- the callee that a map holds for a place of a function
abbrev pub found : {S : Type 0} → HashMap Key ℕ S → ℕ → Pos → Option ℕ
found map f at = get_by (is_key f at) map

-- the callee that these calls of a function have at a place of a function
abbrev pub callee_in : ℕ → List PlacedCall → ℕ → Pos → Option ℕ
callee_in f calls g at = if f == g then callee_at at calls else None

-- a map holds the first callee of each place
abbrev pub HoldsCallees : {S : Type 0} → HashMap Key ℕ S → List (Option (List PlacedCall)) → Type 0
HoldsCallees map graph = (f : ℕ) (at : Pos) → found map f at ≡ called_from graph f at

-- these calls of a function stand behind what a map has
abbrev pub AddsCalls : {S : Type 0} → HashMap Key ℕ S → HashMap Key ℕ S → ℕ → List PlacedCall → Type 0
AddsCalls before after f calls = (g : ℕ) (at : Pos) → found after g at ≡ option_or (found before g at) (callee_in f calls g at)
