-- What is kept of the cases of a switch, and of initial values, to be looked up.
use Rattle.std.specs.Prelude.{◌≡◌, ◌==◌, ℕ, ℤ, Bool, List, Option, find, is_some, option_map}
use Rattle.std.specs.Bool.{nat_eq}
use Rattle.std.specs.Ordering.{int_eq}
use Rattle.std.specs.HashMap.{HashMap, get_by}
use Rattle.std.specs.HashSet.{HashSet, contains_by}
use Rattle.c_syntax_written.specs.declared.place.Pos.{Pos}
use Rattle.c_syntax.specs.declared.program.Initial.{Initial}
use Rattle.c_check_names.specs.declared.types.CaseAt.{CaseAt}

-- the place of the first case of a value
abbrev pub first_case : ℤ → List CaseAt → Option Pos
first_case n cases = option_map (λ case. case.pos) (find (λ case. int_eq case.value n) cases)

-- the map holds the place of the first case of each value
abbrev pub HasFirstCases : {S : Type 0} → HashMap ℤ Pos S → List CaseAt → Type 0
HasFirstCases map cases = (n : ℤ) → get_by (int_eq n) map ≡ first_case n cases

-- the object of this number has an initial value
abbrev pub is_initialised : ℕ → List Initial → Bool
is_initialised n initial = is_some (find (λ one. one.object == n) initial)

-- the set holds the objects that have one
abbrev pub HasInitialised : {S : Type 0} → HashSet ℕ S → List Initial → Type 0
HasInitialised set initial = (n : ℕ) → contains_by (nat_eq n) set ≡ is_initialised n initial
