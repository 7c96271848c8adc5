-- Sums of at most two variables, each with a sign, and a number.
use Rattle.std.specs.Prelude.{ℤ, pos, neg_ℤ, ◌≡◌, ◌+ℤ◌, ◌≤ℤ◌, Bool, true, false, List, Option, Some, IfSome, IsTrue}
use Rattle.ext_int.specs.Valuation.{value_at}
use Rattle.num_api.specs.Exprs.{NExprTree}
use Rattle.num_api.specs.Value.{value_of, has_truth}
use Rattle.octagons_linear.specs.declared.forms.Signed.{Signed}
use Rattle.octagons_linear.specs.declared.forms.Linear.{Linear}
use Rattle.octagons_linear.specs.declared.forms.Linear.TheVariants.{Number, One, Two}
use Rattle.octagons_linear.specs.declared.limits.Limits.{Limits}

abbrev pub with_sign : Bool → ℤ → ℤ
with_sign false n = n
with_sign true n = neg_ℤ n

-- the number of a variable with its sign
abbrev pub signed_value : List ℤ → Signed → ℤ
signed_value v s = with_sign s.negated (value_at v s.var)

-- the value of the sum
abbrev pub linear_value : List ℤ → Linear → ℤ
linear_value v (Number n) = n
linear_value v (One s n) = signed_value v s +ℤ n
linear_value v (Two s t n) = (signed_value v s +ℤ signed_value v t) +ℤ n

-- the expression has the value of the sum wherever it has one
abbrev pub IsLinear : NExprTree → Linear → Type 0
IsLinear e l = (v : List ℤ) (n : ℤ) → value_of v e ≡ Some n → n ≡ linear_value v l

-- the sum is at most 0
abbrev pub IsUpToZero : List ℤ → Linear → Type 0
IsUpToZero v l = linear_value v l ≤ℤ pos 0

-- each of the limits is at most 0
pub record Keeps (v : List ℤ) (l : Limits) : Type 0 where
  pub first : IfSome l.first (IsUpToZero v)
  pub second : IfSome l.second (IsUpToZero v)
