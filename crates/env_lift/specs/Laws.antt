-- The laws on what states know.
use Rattle.std.specs.Prelude.{ℕ, ℤ, ◌≡◌, ◌+◌, ◌&&◌, Bool, true, false, IsTrue, List, Option, Some, None, sum_by}
use Rattle.std.proofs.Common.{refl}
use Rattle.ext_int.specs.Valuation.{value_at}
use Rattle.num_api.specs.declared.message.Range.{Range}
use Rattle.num_api.specs.Ranges.{InRange, holds_some}
use Rattle.env_lift.specs.declared.entries.Entry.{Entry}
use Rattle.env_lift.specs.Entries.{value_in}
use Rattle.env_lift.specs.States.{AllAdmit, known_of, known_in}

-- the weights of all values, and one more for each
abbrev pub total_weight : {V : Type 0} → (V → ℕ) → List (Entry V) → ℕ
total_weight W state = sum_by (λ e. W e.value + 1) state

pub known_holds_in : {V : Type 0} (A : V → ℤ → Type 0) (K : V → Range) → ((a : V) (n : ℤ) → A a n → InRange (K a) n)
    → (state : List (Entry V)) (v : List ℤ) (x : ℕ) → AllAdmit A state v → InRange (known_in K state x) (value_at v x)
known_holds_in {V} A K law state v x p = of (value_in state x) (p x)
  where
    of : (found : Option V) → ((a : V) → found ≡ Some a → A a (value_at v x)) → InRange (known_of K found) (value_at v x)
    of None h = record { low = tt; high = tt }
    of (Some a) h = law a (value_at v x) (h a refl)

pub known_some_in : {V : Type 0} (K : V → Range) → ((a : V) → IsTrue (holds_some (K a))) → (state : List (Entry V)) (x : ℕ)
    → IsTrue (holds_some (known_in K state x))
known_some_in {V} K law state x = of (value_in state x)
  where
    of : (found : Option V) → IsTrue (holds_some (known_of K found))
    of None = refl
    of (Some a) = law a

-- two flags that are both set
pub first_flag : (a b : Bool) → IsTrue (a && b) → IsTrue a
first_flag true b h = refl
first_flag false b h = h

pub second_flag : (a b : Bool) → IsTrue (a && b) → IsTrue b
second_flag true b h = h
second_flag false true h = refl
second_flag false false h = h

pub both_flags : (a b : Bool) → IsTrue a → IsTrue b → IsTrue (a && b)
both_flags true b h k = k
both_flags false b h k = h
