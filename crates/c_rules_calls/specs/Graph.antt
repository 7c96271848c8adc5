-- The calls of a program as a list of lists, and the ways through it.
use Rattle.std.specs.Prelude.{◌≡◌, ◌≢◌, ◌<◌, ◌==◌, ℕ, Option, Some, option_map, IsSome, IsSomeAnd, List, [], ◌∷◌, map, length, take, All, AllPairs, Contains, count_by, slice_get}
use Rattle.c_syntax.specs.Program.{TFunctionTree, TProgramTree}
use Rattle.c_layout.specs.Calls.{PlacedCall, stmt_calls, chain_end}
use Rattle.c_layout.specs.WellTyped.{EachOf}

-- the calls in the body of a function, if it has one
abbrev pub calls_in : TFunctionTree → Option (List PlacedCall)
calls_in function = option_map stmt_calls function.body

-- the calls of each function of a program that has a body
abbrev pub graph_of : TProgramTree → List (Option (List PlacedCall))
graph_of program = map calls_in program.functions

abbrev pub calls_or_none : Option (Option (List PlacedCall)) → List PlacedCall
calls_or_none (Some (Some calls)) = calls
calls_or_none entry = []

-- the calls that the function of this number makes
abbrev pub calls_from : List (Option (List PlacedCall)) → ℕ → List PlacedCall
calls_from graph f = calls_or_none (slice_get graph f)

-- the function of this number is there, and has a body
abbrev pub IsDefined : List (Option (List PlacedCall)) → ℕ → Type 0
IsDefined graph f = IsSomeAnd (slice_get graph f) IsSome

-- each function that is called has a body
abbrev pub AreDefined : List (Option (List PlacedCall)) → Type 0
AreDefined graph = (f : ℕ) → All (λ call. IsDefined graph call.callee) (calls_from graph f)

-- calls of which the first stands in the function, and each next one in the function that the one before calls
abbrev pub IsWay : List (Option (List PlacedCall)) → ℕ → List PlacedCall → Type 0
IsWay graph f [] = Unit {0}
IsWay graph f (call ∷ rest) = Contains (calls_from graph f) call × IsWay graph call.callee rest

-- calls that lead from a function back to itself, of which no two call one function
pub record IsClosedList (graph : List (Option (List PlacedCall))) (calls : List PlacedCall) : Type 0 where
  pub from : ℕ
  pub leads : IsWay graph from calls
  pub closes : chain_end from calls ≡ from
  pub some : 0 < length calls
  pub apart : AllPairs (λ a b. a.callee ≢ b.callee) calls

-- each function with a body once, after those that it calls
pub record IsOrderOf (graph : List (Option (List PlacedCall))) (order : List ℕ) : Type 0 where
  pub defined : All (IsDefined graph) order
  pub once : (f : ℕ) → IsDefined graph f → count_by (λ x. x == f) order ≡ 1
  pub callees_first : EachOf order (λ k f. All (λ call. Contains (take k order) call.callee) (calls_from graph f))

-- where there is an order, no list of calls is closed
abbrev pub OrdersExcludeClosedLists : Type 0
OrdersExcludeClosedLists = (graph : List (Option (List PlacedCall))) (order : List ℕ) (calls : List PlacedCall)
    → IsOrderOf graph order → IsClosedList graph calls → ⊥
