-- Which programs are admitted, and for what another is refused (this profile).
use Rattle.std.specs.Prelude.{◌≡◌, ◌<◌, ◌≤◌, ℕ, Some, option_and_then, option_map, unwrap_or, IsSomeAnd, List, [], length, slice_get}
use Rattle.c_syntax_written.specs.declared.place.Pos.{Pos}
use Rattle.c_syntax.specs.Program.{TProgramTree}
use Rattle.c_layout.specs.Calls.{PlacedCall}
use Rattle.c_layout.specs.MainFunction.{main_of}
use Rattle.c_layout.specs.Plans.{IsStart}
use Rattle.c_rules_calls.specs.Graph.{AreDefined, graph_of, IsClosedList, IsOrderOf, IsWay}
use Rattle.c_rules_calls.specs.Inlined.{IsInlinedSize, sizes_of}
use Rattle.c_rules_calls.specs.Undefined.{IsFirstUndefined}
use Rattle.c_rules_calls.specs.Gotos.{strays}
use Rattle.c_rules.specs.declared.error.RuleError.{RuleError}
use Rattle.c_rules.specs.declared.error.RuleError.TheVariants as errors
use Rattle.c_rules.specs.Earliest.{IsEarliest}
use Rattle.c_rules.specs.Sequenced.{IsSequenced, IsUnsequencedAt}

-- the function named main, with which a run may begin
abbrev pub IsMain : TProgramTree → ℕ → Type 0
IsMain program main = (main_of program ≡ Some main) × IsSomeAnd (slice_get program.functions main) IsStart

-- the gotos of a function that lead into a block, in the order of the text
abbrev pub strays_by : TProgramTree → ℕ → List Pos
strays_by program f = unwrap_or (option_map (strays []) (option_and_then (λ function. function.body) (slice_get program.functions f))) []

-- the first such goto of a function
abbrev pub IsStrayOf : TProgramTree → ℕ → Pos → Type 0
IsStrayOf program f at = slice_get (strays_by program f) 0 ≡ Some at

-- and that of no other function stands before it in the text
abbrev pub IsFirstStray : TProgramTree → Pos → Type 0
IsFirstStray program at = IsEarliest (λ at. at) (IsStrayOf program) at

-- a call here is the first in the text of a function without a body
pub record IsUndefinedAt (program : TProgramTree) (at : Pos) : Type 0 where
  pub call : PlacedCall
  pub first : IsFirstUndefined (graph_of program) call
  pub here : call.pos ≡ at

-- the inlined size, which ends at the greatest number of 64 bits
abbrev pub HasSize : TProgramTree → ℕ → ℕ → Type 0
HasSize program f n = IsInlinedSize (graph_of program) (sizes_of program) f n

-- what is asked of a program, one after the other: there is a main
abbrev pub Begins : TProgramTree → Type 0
Begins program = (main : ℕ) × IsMain program main

-- each function that is called has a body
abbrev pub IsComplete : TProgramTree → Type 0
IsComplete program = Begins program × AreDefined (graph_of program)

-- functions have an order in which each stands after those that it calls
abbrev pub HasOrder : TProgramTree → Type 0
HasOrder program = IsComplete program × ((order : List ℕ) × IsOrderOf (graph_of program) order)

-- chains of calls from main are short
abbrev pub IsShallow : TProgramTree → Type 0
IsShallow program = HasOrder program
    × ((main : ℕ) → IsMain program main → (calls : List PlacedCall) → IsWay (graph_of program) main calls → length calls ≤ 64)

-- main is small, with all that it calls
abbrev pub IsSmall : TProgramTree → Type 0
IsSmall program = IsShallow program × ((main : ℕ) → IsMain program main → (n : ℕ) × HasSize program main n × (n ≤ 2000000))

-- gotos stay in the blocks around them
abbrev pub KeepsGotos : TProgramTree → Type 0
KeepsGotos program = IsSmall program × ((f : ℕ) → strays_by program f ≡ [])

-- and nothing depends on an order that is not fixed
abbrev pub IsAdmitted : TProgramTree → Type 0
IsAdmitted program = KeepsGotos program × IsSequenced program

-- what refuses a program: the first that is asked and does not hold
abbrev pub IsRefused : TProgramTree → RuleError → Type 0
IsRefused program errors.NoMain = Begins program → ⊥
IsRefused program (errors.UndefinedFunction at) = Begins program × IsUndefinedAt program at
IsRefused program (errors.Recursion calls) = IsComplete program × IsClosedList (graph_of program) calls
IsRefused program (errors.TooDeepCalls calls) = HasOrder program × ((main : ℕ) × IsMain program main × IsWay (graph_of program) main calls × (length calls
    ≡ 65))
IsRefused program (errors.TooLarge n) = IsShallow program × ((main : ℕ) × IsMain program main × HasSize program main n × (2000000 < n))
IsRefused program (errors.GotoIntoBlock at) = IsSmall program × IsFirstStray program at
IsRefused program (errors.Unsequenced at left right) = KeepsGotos program × IsUnsequencedAt program at left right
IsRefused program errors.NoMemory = Unit {0}
