-- What a statement leaves alone, whatever it comes to (this profile).
use Rattle.std.specs.Prelude.{◌≡◌, ℕ, Bool, List, [], ◌∷◌, ◌++◌, Contains, Some, slice_get}
use Rattle.c_values.specs.Places.{place_of}
use Rattle.csharp.specs.Trees.{CsStmtTree, Call, CsFunctionTree, CsProgramTree}
use Rattle.csharp.specs.States.{State}
use Rattle.csharp.specs.Outcomes.{Outcome, Normal, Leaves}
use Rattle.csharp.specs.Formed.{gathered, temps_of}
use Rattle.csharp.specs.Meaning.{bounded_exec}

-- the function that a statement itself calls
abbrev pub calls_of : CsStmtTree → List ℕ
calls_of (Call c) = c.function ∷ []
calls_of a = []

-- Code that has these numbers itself and calls these functions may come to a number: it is one of them, or a function that is called has it, or may come to
-- it by a call of its own
pub data May (q : CsProgramTree) (of : CsFunctionTree → List ℕ) (y : ℕ) : List ℕ → List ℕ → Type 0 where
  Itself : (own calls : List ℕ) → Contains own y → May q of y own calls
  ByCall : (own calls : List ℕ) (f : ℕ) (function : CsFunctionTree)
      → Contains calls f → slice_get q.functions f ≡ Some function
      → May q of y (of function) (gathered calls_of function.body) → May q of y own calls

-- the temporaries that a call of a function sets: its parameters, and those of its body
abbrev pub temps_within : CsFunctionTree → List ℕ
temps_within function = function.params ++ gathered temps_of function.body

-- a statement may set a temporary, itself, in its parts, or by what it calls
abbrev pub MaySet : CsProgramTree → ℕ → CsStmtTree → Type 0
MaySet q d a = May q temps_within d (gathered temps_of a) (gathered calls_of a)

-- the state behind a statement that ends normally or leaves
abbrev pub IsBehind : Outcome → State → Type 0
IsBehind (Normal s) t = s ≡ t
IsBehind (Leaves way s) t = s ≡ t
IsBehind o t = ⊥

-- a temporary that a statement may not set has its value still
abbrev pub TempsStay : Type 0
TempsStay = (over : ℕ → Bool) (q : CsProgramTree) (fuel : ℕ) (a : CsStmtTree) (s t : State) (d : ℕ)
    → IsBehind (bounded_exec over q fuel a s) t → (MaySet q d a → ⊥) → slice_get t.temps d ≡ slice_get s.temps d

-- each object lives where it lived, or does not live as before: scopes end where they are left
abbrev pub PlacesStay : Type 0
PlacesStay = (over : ℕ → Bool) (q : CsProgramTree) (fuel : ℕ) (a : CsStmtTree) (s t : State) (x : ℕ)
    → IsBehind (bounded_exec over q fuel a s) t → place_of t.memory x ≡ place_of s.memory x
