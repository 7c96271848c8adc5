-- Ranges that the bounds of an octagon give.
use Rattle.std.specs.Prelude.{ℕ, ◌≡◌, true, false, not}
use Rattle.ext_int.specs.Ext.{half, negation}
use Rattle.num_api.specs.declared.expr.NOp.TheVariants.{Add, Sub}
use Rattle.num_api.specs.declared.message.Range.{Range}
use Rattle.num_api.specs.Exprs.{NExprTree, Read, Binary}
use Rattle.octagons_linear.specs.declared.forms.Signed.{Signed}
use Rattle.octagons_changes.specs.States.{OctagonView}
use Rattle.octagons_changes.specs.Lowerings.{sum_bound}

-- a variable as it is, and its negation
abbrev pub plus : ℕ → Signed
plus x = record { var = x; negated = false }

abbrev pub minus : ℕ → Signed
minus x = record { var = x; negated = true }

abbrev pub opposite : Signed → Signed
opposite s = record { var = s.var; negated = not s.negated }

-- the range that the bounds give of the sum of two variables, each with its sign
abbrev pub sum_range : OctagonView → Signed → Signed → Range
sum_range o s t = record { lo = negation (sum_bound o (opposite s) (opposite t)); hi = sum_bound o s t }

-- of a variable, with its sign
abbrev pub own_range : OctagonView → Signed → Range
own_range o s = record { lo = negation (half (sum_bound o (opposite s) (opposite s))); hi = half (sum_bound o s s) }

-- the range of a variable, of a sum and of a difference of two is what their bounds say
pub record IsRead (o : OctagonView) (e : NExprTree) (r : Range) : Type 0 where
  pub own : (x : ℕ) → e ≡ Read x → r ≡ own_range o (plus x)
  pub sum : (x y : ℕ) → e ≡ Binary Add (Read x) (Read y) → r ≡ sum_range o (plus x) (plus y)
  pub difference : (x y : ℕ) → e ≡ Binary Sub (Read x) (Read y) → r ≡ sum_range o (plus x) (minus y)
