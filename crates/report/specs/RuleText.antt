-- What is told of a refusal by the rules, and where it stands.
use Rattle.std.specs.Prelude.{ℕ, List, [], ◌∷◌, ◌++◌, Option, Some, None, option_map, unwrap_or, map, slice_get, codes, decimal}
use Rattle.c_syntax_written.specs.declared.place.Pos.{Pos}
use Rattle.c_syntax.specs.Program.{TProgramTree}
use Rattle.c_layout.specs.Calls.{PlacedCall}
use Rattle.report.specs.RuleRefusals.{RuleRefusal, Unsequenced, Recursion, NoMain, UndefinedFunction, TooDeepCalls, TooLarge, GotoIntoBlock}

-- the names of the functions of a program, by their numbers
abbrev pub names_of : TProgramTree → List (List ℕ)
names_of program = map (λ function. function.name) program.functions

-- a call by the function that it calls and its own place, where these are the names of the functions by their numbers
abbrev pub call_text : List (List ℕ) → PlacedCall → List ℕ
call_text names call =
    unwrap_or (slice_get names call.callee) [] ++ (codes "@" ++ (decimal call.pos.line ++ (codes ":" ++ decimal call.pos.col)))

-- the calls behind the first
unfoldable pub calls_after : List (List ℕ) → List PlacedCall → List ℕ
calls_after names [] = []
calls_after names (call ∷ rest) = codes " > " ++ (call_text names call ++ calls_after names rest)

abbrev pub calls_text : List (List ℕ) → List PlacedCall → List ℕ
calls_text names [] = []
calls_text names (call ∷ rest) = call_text names call ++ calls_after names rest

abbrev pub rule_text : List (List ℕ) → RuleRefusal → List ℕ
rule_text names (Unsequenced at) = codes "unsequenced"
rule_text names (Recursion calls) = codes "recursion " ++ calls_text names calls
rule_text names NoMain = codes "no main"
rule_text names (UndefinedFunction at) = codes "no definition"
rule_text names (TooDeepCalls calls) = codes "calls deeper than 64"
rule_text names (TooLarge size) = codes "inlined size " ++ decimal size
rule_text names (GotoIntoBlock at) = codes "goto into block"

-- where the first of these calls stands
abbrev pub first_place : List PlacedCall → Option Pos
first_place calls = option_map (λ call. call.pos) (slice_get calls 0)

-- a program without main, and one that is too large, is refused as a whole
abbrev pub rule_pos : RuleRefusal → Option Pos
rule_pos (Unsequenced at) = Some at
rule_pos (Recursion calls) = first_place calls
rule_pos NoMain = None
rule_pos (UndefinedFunction at) = Some at
rule_pos (TooDeepCalls calls) = first_place calls
rule_pos (TooLarge size) = None
rule_pos (GotoIntoBlock at) = Some at
