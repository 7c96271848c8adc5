-- The greatest alignment that divides a number.
use Rattle.std.specs.Prelude.{ℤ}
use Rattle.num_api.specs.Fold.{IsAlignment}
use Rattle.num_api.specs.Residues.{IsMultiple}

-- an alignment of which the number is a multiple; each other such one divides it
pub record IsUnit (n unit : ℤ) : Type 0 where
  pub alignment : IsAlignment unit
  pub divides : IsMultiple unit n
  pub greatest : (c : ℤ) → IsAlignment c → IsMultiple c n → IsMultiple c unit
