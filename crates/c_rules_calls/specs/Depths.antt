-- How deep calls go, where what is 65 or more is told as 65.
use Rattle.std.specs.Prelude.{◌≡◌, ◌<◌, ◌≤◌, ◌+◌, ℕ, min, Option, List, length, get_or, All, Contains}
use Rattle.c_layout.specs.Calls.{PlacedCall}
use Rattle.c_rules_calls.specs.Graph.{calls_from, IsDefined, IsWay}
use Rattle.c_rules_calls.specs.declared.depth.DepthError.{DepthError}
use Rattle.c_rules_calls.specs.declared.depth.DepthError.TheVariants as errors

-- a call of a function of this depth at least
abbrev pub HasDeepCall : List ℕ → List PlacedCall → ℕ → Type 0
HasDeepCall depths calls depth = (call : PlacedCall) × Contains calls call × (depth ≤ get_or depths call.callee 0)

-- at most 65, more than the depth of each function that is called, and no more than one more than that of one
pub record IsDepth (depths : List ℕ) (calls : List PlacedCall) (depth : ℕ) : Type 0 where
  pub capped : depth ≤ 65
  pub over : All (λ call. min 65 (get_or depths call.callee 0 + 1) ≤ depth) calls
  pub reached : (n : ℕ) → n < depth → HasDeepCall depths calls n

abbrev pub AreDepths : List (Option (List PlacedCall)) → List ℕ → Type 0
AreDepths graph depths = (f : ℕ) → IsDefined graph f → IsDepth depths (calls_from graph f) (get_or depths f 0)

-- an error that tells of calls tells of 65 in a chain
abbrev pub TellsDeepCalls : List (Option (List PlacedCall)) → ℕ → DepthError → Type 0
TellsDeepCalls graph main (errors.TooDeep calls) = IsWay graph main calls × (length calls ≡ 65)
TellsDeepCalls graph main errors.NoMemory = Unit {0}
