-- Equalities: a variable and an expression each, which have one value. A list has the newest first.
use Rattle.std.specs.Prelude.{ℕ, ℤ, ◌≡◌, List, [], ◌∷◌, take, Option, Some, None, Bool, true, false, not, nat_eq, ◌||◌, ◌&&◌, if◌then◌else◌}
use Rattle.ext_int.specs.Valuation.{value_at}
use Rattle.num_api.specs.declared.expr.NOp.TheVariants as operators
use Rattle.num_api.specs.Exprs.{NExprTree, Read, Unary, Binary, nexpr_tree}
use Rattle.num_api.specs.Value.{value_of}
use Rattle.num_api.specs.Plain.{Standing, same, standing}
use Rattle.num_api.specs.Reading.{reads, is_same}
use Rattle.num_api.specs.declared.message.Message.{Message}
use Rattle.num_api.specs.declared.message.Message.TheVariants as messages
use Rattle.equalities.specs.declared.pairs.Equation.{Equation}

pub record Equality : Type 0 where
  pub var : ℕ
  pub tree : NExprTree

abbrev pub pair_of : ℕ → NExprTree → Equality
pair_of x t = record { var = x; tree = t }

abbrev pub equality : Equation → Equality
equality p = record { var = p.x.0; tree = nexpr_tree p.e.value }

abbrev pub equalities_of : List Equation → List Equality
equalities_of [] = []
equalities_of (p ∷ ps) = equality p ∷ equalities_of ps

-- the expression has a value, and the variable has it too
abbrev pub IsSo : List ℤ → Equality → Type 0
IsSo v p = value_of v p.tree ≡ Some (value_at v p.var)

abbrev pub AreSo : List ℤ → List Equality → Type 0
AreSo v [] = Unit {0}
AreSo v (p ∷ ps) = IsSo v p × AreSo v ps

-- the equality speaks of the variable
abbrev pub touches : ℕ → Equality → Bool
touches x p = nat_eq p.var x || reads x p.tree

-- the equalities that don't
abbrev pub apart_from : ℕ → List Equality → List Equality
apart_from x [] = []
apart_from x (p ∷ ps) = if touches x p then apart_from x ps else p ∷ apart_from x ps

abbrev pub is_one : Equality → Equality → Bool
is_one p q = nat_eq p.var q.var && is_same p.tree q.tree

-- the equality is one of the list
abbrev pub is_among : List Equality → Equality → Bool
is_among [] p = false
is_among (q ∷ qs) p = is_one p q || is_among qs p

-- each equality of the first list is one of the second
abbrev pub all_among : List Equality → List Equality → Bool
all_among [] qs = true
all_among (p ∷ ps) qs = is_among qs p && all_among ps qs

-- the equalities of the first list that are in the second too
abbrev pub shared : List Equality → List Equality → List Equality
shared [] qs = []
shared (p ∷ ps) qs = if is_among qs p then p ∷ shared ps qs else shared ps qs

-- the expression that the list has for the variable, the newest of them
abbrev pub expr_of : List Equality → ℕ → Option NExprTree
expr_of [] x = None
expr_of (p ∷ ps) x = if nat_eq p.var x then Some p.tree else expr_of ps x

-- one equality more: 64 are kept, and the oldest goes
abbrev pub with_pair : Equality → List Equality → List Equality
with_pair p ps = p ∷ take 63 ps

-- what is known behind an assignment
abbrev pub assigned : ℕ → NExprTree → List Equality → List Equality
assigned x t ps = if reads x t then apart_from x ps else with_pair (pair_of x t) (apart_from x ps)

-- what is known once the variable is known to have the expression's value; that it has the value of an expression
-- which reads it, or what is known already, adds nothing
abbrev pub learned : ℕ → NExprTree → List Equality → List Equality
learned x t ps = if reads x t || is_among ps (pair_of x t) then ps else with_pair (pair_of x t) ps

-- the variable that the expression is
abbrev pub variable_in : NExprTree → Option ℕ
variable_in (Read x) = Some x
variable_in t = None

-- the equality of one side with the other where that is a variable
abbrev pub of_variables : Option ℕ → Option ℕ → NExprTree → NExprTree → Option Equality
of_variables (Some x) y a b = Some (pair_of x b)
of_variables None (Some y) a b = Some (pair_of y a)
of_variables None None a b = None

abbrev pub of_sides : NExprTree → NExprTree → Option Equality
of_sides a b = of_variables (variable_in a) (variable_in b) a b

abbrev pub where_same : Option Standing → Option Equality → Option Equality
where_same (Some same) p = p
where_same how p = None

-- the equality that a test tells where it has this truth
abbrev pub told_by : NExprTree → Bool → Option Equality
told_by (Unary operators.Not a) wanted = told_by a (not wanted)
told_by (Binary op a b) wanted = where_same (standing op wanted) (of_sides a b)
told_by t wanted = None

-- what is known behind a test, and behind a message
abbrev pub with_told : Option Equality → List Equality → List Equality
with_told None ps = ps
with_told (Some p) ps = learned p.var p.tree ps

abbrev pub accepted : Message → List Equality → List Equality
accepted (messages.Between x r) ps = ps
accepted (messages.Class x r) ps = ps
accepted (messages.Equal x e) ps = learned x.0 (nexpr_tree e) ps
accepted (messages.AtMost sx x sy y bound) ps = ps
