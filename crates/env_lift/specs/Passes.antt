-- Two lists of entries at once: what is so of the variables that both have.
use Rattle.std.specs.Prelude.{◌≡◌, Bool, true, false, ◌&&◌, List, [], ◌∷◌, ◌++◌, Option, Some, None}
use Rattle.env_lift.specs.declared.entries.Entry.{Entry}
use Rattle.env_lift.specs.Entries.{entry, value_in}

-- an entry is put out with some number that the relation makes of its value and of the other one, and nothing where there is no other
abbrev pub Puts : {T : Type 0} → (T → T → T → Type 0) → Entry T → Option T → List (Entry T) → Type 0
Puts P e None put = put ≡ []
Puts {T} P e (Some b) put = (c : T) × P e.value b c × (put ≡ entry e.var c ∷ [])

-- what is put out of each entry in turn, beside the others' value of its variable
abbrev pub IsMerged : {T : Type 0} → (T → T → T → Type 0) → List (Entry T) → List (Entry T) → List (Entry T) → Type 0
IsMerged P [] others merged = merged ≡ []
IsMerged {T} P (e ∷ es) others merged =
    (put : List (Entry T)) × (rest : List (Entry T)) × Puts P e (value_in others e.var.0) put × IsMerged P es others rest × (merged ≡ put ++ rest)

-- there is a second value, and the relation holds of both
abbrev pub IsMet : {T : Type 0} → (T → T → Type 0) → T → Option T → Type 0
IsMet R a None = ⊥
IsMet R a (Some b) = R a b

-- the others have each entry's variable, and the relation holds of both values
abbrev pub AllMet : {T : Type 0} → (T → T → Type 0) → List (Entry T) → List (Entry T) → Type 0
AllMet R [] others = Unit {0}
AllMet R (e ∷ es) others = IsMet R e.value (value_in others e.var.0) × AllMet R es others

-- the same as tests
abbrev pub is_met : {T : Type 0} → (T → T → Bool) → T → Option T → Bool
is_met test a None = false
is_met test a (Some b) = test a b

abbrev pub all_met : {T : Type 0} → (T → T → Bool) → List (Entry T) → List (Entry T) → Bool
all_met test [] others = true
all_met test (e ∷ es) others = is_met test e.value (value_in others e.var.0) && all_met test es others

-- each answer of a call is the test's
abbrev pub Computes : {T : Type 0} → (T → T → Bool → Type 0) → (T → T → Bool) → Type 0
Computes {T} post test = (a b : T) (r : Bool) → post a b r → r ≡ test a b
