-- What is known of the bounds of a matrix.
use Rattle.std.specs.Prelude.{ℕ, ◌≡◌, ◌<◌, ◌+◌, ◌*◌, Bool, IsTrue, []}
use Rattle.ext_int.specs.declared.Ext.{Ext}
use Rattle.ext_int.specs.declared.Ext.TheVariants.{Low, Fin, High}
use Rattle.bound_matrix.specs.Bound.{MatrixView, bound_at}
use Rattle.bound_matrix.specs.Points.{IsSmallNumber, IsTight}

-- where the flag is set, the matrix is tightly closed
pub record IsFlagged (flag : Bool) (m : MatrixView) : Type 0 where
  pub tight : IsTrue flag → IsTight (m.vars + m.vars) (bound_at m)

-- a bound that is a number is at most 2^90 in size
abbrev pub IsSmallBound : Ext → Type 0
IsSmallBound Low = Unit {0}
IsSmallBound (Fin x) = IsSmallNumber x
IsSmallBound High = Unit {0}

-- those of no variable
abbrev pub no_bounds : MatrixView
no_bounds = record { vars = 0; kept = [] }
