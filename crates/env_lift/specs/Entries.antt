-- Lists of variables with their values, by rising variable.
use Rattle.std.specs.Prelude.{ℕ, ◌≡◌, ◌<◌, ◌≤◌, length, take, drop, get_or, nat_eq, if◌then◌else◌, List, [], ◌∷◌, Option, Some, None, All}
use Rattle.num_api.specs.declared.expr.Var.{Var}
use Rattle.env_lift.specs.declared.entries.Entry.{Entry}

abbrev pub entry : {T : Type 0} → Var → T → Entry T
entry x a = record { var = x; value = a }

-- the value of a variable, where it has one
abbrev pub value_in : {T : Type 0} → List (Entry T) → ℕ → Option T
value_in [] x = None
value_in (e ∷ es) x = if nat_eq e.var.0 x then Some e.value else value_in es x

-- each variable stands below x, above it, or not below it
abbrev pub AreBelow : {T : Type 0} → ℕ → List (Entry T) → Type 0
AreBelow x es = All (λ e. e.var.0 < x) es

abbrev pub AreAbove : {T : Type 0} → ℕ → List (Entry T) → Type 0
AreAbove x es = All (λ e. x < e.var.0) es

abbrev pub AreFrom : {T : Type 0} → ℕ → List (Entry T) → Type 0
AreFrom x es = All (λ e. x ≤ e.var.0) es

-- each variable stands above those before it
abbrev pub IsRising : {T : Type 0} → List (Entry T) → Type 0
IsRising [] = Unit {0}
IsRising (e ∷ es) = AreAbove e.var.0 es × IsRising es

-- the entry at this index is the variable's, and those before it stand below it
pub record IsFoundAt {T : Type 0} (x : ℕ) (es : List (Entry T)) (i : ℕ) : Type 0 where
  pub within : i < length es
  pub below : AreBelow x (take i es)
  pub here : (d : Entry T) → (get_or es i d).var.0 ≡ x

-- no entry is the variable's; those before this index stand below it, and the others above it
pub record IsPlaceAt {T : Type 0} (x : ℕ) (es : List (Entry T)) (i : ℕ) : Type 0 where
  pub within : i ≤ length es
  pub below : AreBelow x (take i es)
  pub above : AreAbove x (drop i es)
