-- What a state knows of its variables: a range for each.
use Rattle.std.specs.Prelude.{ℕ, ℤ, List}
use Rattle.num_api.specs.declared.message.Range.{Range}
use Rattle.num_api.specs.Exprs.{NExprTree}
use Rattle.num_api.specs.Ranges.{IsPoint}
use Rattle.ext_int.specs.Valuation.{value_at}
use Rattle.num_api.specs.Value.{OnVariables}

-- the state knows the variable's number in this valuation
abbrev pub IsSharp : (ℕ → Range) → List ℤ → ℕ → Type 0
IsSharp known v x = IsPoint (known x) (value_at v x)

-- it knows that of each variable that the expression reads
abbrev pub IsSharpOn : (ℕ → Range) → List ℤ → NExprTree → Type 0
IsSharpOn known v e = OnVariables (IsSharp known v) e
