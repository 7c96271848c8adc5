-- Changes of a state: one variable's value, and cuts.
use Rattle.std.specs.Prelude.{ℕ, ℤ, ◌≡◌, nat_eq, if◌then◌else◌, Bool, IsTrue, List, Option, Some, None}
use Rattle.ext_int.specs.declared.Live.{Live as LiveOrDead}
use Rattle.num_api.specs.declared.message.Range.{Range}
use Rattle.num_api.specs.Exprs.{NExprTree}
use Rattle.num_api.specs.Value.{value_of, has_truth}
use Rattle.num_api.specs.Ranges.{IsUnder}
use Rattle.num_api.specs.Plain.{Standing}
use Rattle.num_api.specs.Lives.{is_live}
use Rattle.env_lift.specs.declared.entries.Entry.{Entry}
use Rattle.env_lift.specs.Entries.{value_in}
use Rattle.env_lift.specs.States.{AllAdmit, known_in}
use Rattle.num_api.specs.Standings.{Stands}

-- the value, where there is one, admits the number
abbrev pub MayAdmit : {V : Type 0} → (V → ℤ → Type 0) → Option V → ℤ → Type 0
MayAdmit A None n = Unit {0}
MayAdmit A (Some a) n = A a n

-- after is before with this value at x, or with none there
abbrev pub IsChanged : {V : Type 0} → ℕ → Option V → List (Entry V) → List (Entry V) → Type 0
IsChanged x value before after = (y : ℕ) → value_in after y ≡ (if nat_eq y x then value else value_in before y)

-- a cut keeps the valuations of which P holds, answers Dead only where there is none, and makes no range wider
pub record IsCut {V : Type 0} (A : V → ℤ → Type 0) (K : V → Range) (exact : Bool) (before after : List (Entry V))
    (P : List ℤ → Type 0) (live : LiveOrDead) : Type 0 where
  pub keeps : (v : List ℤ) → AllAdmit A before v → P v → IsTrue (is_live live) × AllAdmit A after v
  pub narrows : IsTrue exact → IsUnder (known_in K after) (known_in K before)

-- the expression has a number that the value admits
abbrev pub LiesIn : {V : Type 0} → (V → ℤ → Type 0) → NExprTree → V → List ℤ → Type 0
LiesIn A e value v = (n : ℤ) × (value_of v e ≡ Some n) × A value n

-- it has a number of this truth
abbrev pub HasTruth : NExprTree → Bool → List ℤ → Type 0
HasTruth e truth v = (n : ℤ) × (value_of v e ≡ Some n) × IsTrue (has_truth truth n)

-- both expressions have numbers, which stand so to each other
abbrev pub Compare : NExprTree → NExprTree → Standing → List ℤ → Type 0
Compare a b how v = (x : ℤ) × (y : ℤ) × (value_of v a ≡ Some x) × (value_of v b ≡ Some y) × Stands how x y
