-- The first call in the text of a function without a body, by the names of the functions that are called.
use Rattle.std.specs.Prelude.{◌≡◌, ◌⊎◌, ◌<◌, ℕ, Option, List, take, All, Contains, IsSomeAnd, MatchOption}
use Rattle.c_layout.specs.Calls.{PlacedCall, IsBefore}
use Rattle.c_rules_calls.specs.Graph.{calls_from, IsDefined}
use Rattle.c_rules_calls.specs.Placed.{placed}
use Rattle.c_rules_calls.specs.declared.call.Call.{Call}

pub record IsFirstUndefined (graph : List (Option (List PlacedCall))) (call : PlacedCall) : Type 0 where
  pub function : ℕ
  pub made : Contains (calls_from graph function) call
  pub undefined : IsDefined graph call.callee → ⊥
  pub first : (f : ℕ) → All (λ other. (IsDefined graph other.callee → ⊥) → IsBefore other.pos call.pos → ⊥) (calls_from graph f)

-- the call is one of a function below this one, or one of the first of this one
abbrev pub IsSeen : List (Option (List PlacedCall)) → ℕ → ℕ → PlacedCall → Type 0
IsSeen graph f i call = ((g : ℕ) × (g < f) × Contains (calls_from graph g) call) ⊎ Contains (take i (calls_from graph f)) call

-- of the calls that were seen, the first of a function without a body
pub record IsFirstSeen (graph : List (Option (List PlacedCall))) (f i : ℕ) (call : PlacedCall) : Type 0 where
  pub seen : IsSeen graph f i call
  pub undefined : IsDefined graph call.callee → ⊥
  pub first : (other : PlacedCall) → IsSeen graph f i other → (IsDefined graph other.callee → ⊥) → IsBefore other.pos call.pos → ⊥

-- what was found among the calls that were seen
abbrev pub IsFound : List (Option (List PlacedCall)) → ℕ → ℕ → Option Call → Type 0
IsFound graph f i found = MatchOption found ((call : PlacedCall) → IsSeen graph f i call → IsDefined graph call.callee)
    (λ call. IsFirstSeen graph f i (placed call))

-- the second call, where it stands before the first, and else the first
abbrev pub IsEarlier : Call → Call → Call → Type 0
IsEarlier first call earlier = ((earlier ≡ call) × IsBefore call.pos first.pos) ⊎ ((earlier ≡ first) × (IsBefore call.pos first.pos → ⊥))

-- what was found stays where the function has a body, and else the earlier of it and the call is found
abbrev pub IsFoundWith : List (Option (List PlacedCall)) → Option Call → Call → Option Call → Type 0
IsFoundWith graph found call result =
    (IsDefined graph call.callee × (result ≡ found))
    ⊎ ((IsDefined graph call.callee → ⊥) × IsSomeAnd result (λ now. MatchOption found (now ≡ call) (λ first. IsEarlier first call now)))
