-- What a search in depth keeps: the functions that stand in the order so far, and those on the way to the one that is looked at.
use Rattle.std.specs.Prelude.{◌≡◌, ◌⊎◌, ◌≤◌, ◌+◌, ◌-◌, ◌==◌, ℕ, suc, Option, Some, List, [], ◌∷◌, ◌++◌, length, get_or, take, All, Contains, count_by, slice_get}
use Rattle.std.specs.List.{AllByRecursion}
use Rattle.c_layout.specs.Calls.{PlacedCall, chain_end}
use Rattle.c_layout.specs.WellTyped.{EachOf}
use Rattle.c_rules_calls.specs.Graph.{calls_or_none, calls_from, IsDefined, IsClosedList}
use Rattle.c_rules_calls.specs.declared.search.OrderError.{OrderError}
use Rattle.c_rules_calls.specs.declared.search.OrderError.TheVariants as errors
use Rattle.c_rules_calls.specs.declared.search.Search.{Search}
use Rattle.c_rules_calls.specs.declared.search.Turn.{Turn}
use Rattle.c_rules_calls.specs.declared.search.Turn.TheVariants as turns
use Rattle.c_rules_calls.specs.declared.search.Progress.{Progress}
use Rattle.c_rules_calls.specs.declared.search.Progress.TheVariants.{New, Open, Done}

-- how far the search is with the function of this number
abbrev pub at : List Progress → ℕ → Progress
at progress f = get_or progress f New

abbrev pub IsDone : List Progress → ℕ → Type 0
IsDone progress f = at progress f ≡ Done

-- the functions that are done stand in the order, each after those that it calls
pub record AreOrdered (graph : List (Option (List PlacedCall))) (progress : List Progress) (order : List ℕ) : Type 0 where
  pub sizes : length progress ≡ length graph
  pub done : All (IsDone progress) order
  pub once : (f : ℕ) → IsDone progress f → count_by (λ x. x == f) order ≡ 1
  pub defined : All (IsDefined graph) order
  pub callees_first : EachOf order (λ k f. All (λ call. Contains (take k order) call.callee) (calls_from graph f))

-- so many calls of the function were gone through, and what they call is done
pub record HasGone (graph : List (Option (List PlacedCall))) (progress : List Progress) (f n : ℕ) : Type 0 where
  pub is_open : at progress f ≡ Open n
  pub within : n ≤ length (calls_from graph f)
  pub done : All (λ call. IsDone progress call.callee) (take n (calls_from graph f))

-- this call of the function is gone through, and what the calls before it call is done
pub record IsGoing (graph : List (Option (List PlacedCall))) (progress : List Progress) (f : ℕ) (call : PlacedCall) : Type 0 where
  pub n : ℕ
  pub is_open : at progress f ≡ Open (suc n)
  pub call_is : slice_get (calls_from graph f) n ≡ Some call
  pub done : All (λ before. IsDone progress before.callee) (take n (calls_from graph f))

-- each function of the way is gone through at the call that the way makes
abbrev pub AreGoing : List (Option (List PlacedCall)) → List Progress → ℕ → List PlacedCall → Type 0
AreGoing graph progress f [] = Unit {0}
AreGoing graph progress f (call ∷ rest) = IsGoing graph progress f call × AreGoing graph progress call.callee rest

-- the functions that are called, one by one
abbrev pub callees : List PlacedCall → List ℕ
callees [] = []
callees (call ∷ rest) = call.callee ∷ callees rest

-- the functions of a way
abbrev pub functions_of : ℕ → List PlacedCall → List ℕ
functions_of root made = root ∷ callees made

-- the number stands in the list
abbrev pub IsAmong : List ℕ → ℕ → Type 0
IsAmong [] f = ⊥
IsAmong (x ∷ xs) f = (x ≡ f) ⊎ IsAmong xs f

-- no number stands in the list twice
abbrev pub AreApart : List ℕ → Type 0
AreApart [] = Unit {0}
AreApart (x ∷ xs) = (IsAmong xs x → ⊥) × AreApart xs

-- what is said of the functions on the way
pub record AreOnWay (graph : List (Option (List PlacedCall))) (progress : List Progress) (functions : List ℕ) : Type 0 where
  pub apart : AreApart functions
  pub all : (f n : ℕ) → at progress f ≡ Open n → IsAmong functions f
  pub defined : AllByRecursion (IsDefined graph) functions

-- the last function of the way is looked at
pub record IsUnderWay (graph : List (Option (List PlacedCall))) (progress : List Progress) (root : ℕ) (made : List PlacedCall) : Type 0 where
  pub going : AreGoing graph progress root made
  pub next : ℕ
  pub gone : HasGone graph progress (chain_end root made) next
  pub way : AreOnWay graph progress (functions_of root made)

-- this call of the last function is looked at
pub record IsAtCall (graph : List (Option (List PlacedCall))) (progress : List Progress) (root : ℕ) (made : List PlacedCall) (call : PlacedCall) : Type 0 where
  pub going : AreGoing graph progress root (made ++ call ∷ [])
  pub way : AreOnWay graph progress (functions_of root made)

-- how many steps the search can make with a function still
abbrev pub left : Option (List PlacedCall) → Progress → ℕ
left entry New = length (calls_or_none (Some entry)) + 2
left entry (Open n) = suc (length (calls_or_none (Some entry))) - n
left entry Done = 0

-- and with all functions
abbrev pub all_left : List (Option (List PlacedCall)) → List Progress → ℕ
all_left [] progress = 0
all_left (entry ∷ graph) [] = 0
all_left (entry ∷ graph) (p ∷ progress) = left entry p + all_left graph progress

-- no function is on a way
abbrev pub NoneIsOpen : List Progress → Type 0
NoneIsOpen progress = (f n : ℕ) → at progress f ≡ Open n → ⊥

-- what is done stays done
abbrev pub KeepsDone : List Progress → List Progress → Type 0
KeepsDone before after = (f : ℕ) → IsDone before f → IsDone after f

-- a step of the search from one state to another that is on a way still, of so many steps at least
pub record IsStep (graph : List (Option (List PlacedCall))) (s t : Search) (steps : ℕ) : Type 0 where
  pub ordered : AreOrdered graph t.progress.items t.order.items
  pub way : IsUnderWay graph t.progress.items t.root t.made
  pub falls : steps + all_left graph t.progress.items ≤ all_left graph s.progress.items
  pub keeps : KeepsDone s.progress.items t.progress.items
  pub root : t.root ≡ s.root

-- a step after which all is done that the function leads to from which the search went out
pub record IsLastStep (graph : List (Option (List PlacedCall))) (s t : Search) : Type 0 where
  pub ordered : AreOrdered graph t.progress.items t.order.items
  pub none_open : NoneIsOpen t.progress.items
  pub none_made : t.made ≡ []
  pub keeps : KeepsDone s.progress.items t.progress.items
  pub done : IsDone t.progress.items s.root

abbrev pub IsTurn : List (Option (List PlacedCall)) → ℕ → Search → Search → Turn → Type 0
IsTurn graph steps s t turns.GoesOn = IsStep graph s t steps
IsTurn graph steps s t turns.Ends = IsLastStep graph s t

-- an error that tells of calls tells of a closed list
abbrev pub TellsClosedList : List (Option (List PlacedCall)) → OrderError → Type 0
TellsClosedList graph (errors.Recursion calls) = IsClosedList graph calls
TellsClosedList graph errors.NoMemory = Unit {0}
