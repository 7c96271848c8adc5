-- Sizes and signs of whole numbers as the operators on bits see them: the number -1 - m has the bits that m has not.
use Rattle.std.specs.Prelude.{◌≡◌, ℕ, ℤ, pos, negsuc, ◌-◌, ◌-ℤ◌, ◌^◌, Bool, true, false, ◌⊎◌}
use Rattle.num_api.specs.declared.expr.NOp.{NOp}
use Rattle.num_api.specs.declared.expr.NOp.TheVariants.{And, Or, Xor}
use Rattle.ext_int.specs.declared.Ext.{Ext}
use Rattle.ext_int.specs.declared.Ext.TheVariants.{Low, Fin, High}
use Rattle.ext_int.specs.Ext.{AtMost}

-- the operators that go bit by bit
abbrev pub IsLogical : NOp → Type 0
IsLogical And = Unit {0}
IsLogical Or = Unit {0}
IsLogical Xor = Unit {0}
IsLogical op = ⊥

-- the number of a size: m itself, or -1 - m
abbrev pub of_sign : Bool → ℕ → ℤ
of_sign false m = pos m
of_sign true m = negsuc m

-- the end of the numbers -1 - n
abbrev pub flipped : Ext → Ext
flipped Low = High
flipped (Fin n) = Fin (negsuc 0 -ℤ n)
flipped High = Low

-- the end is 2^k - 1
abbrev pub IsMask : ℕ → Ext → Type 0
IsMask k m = m ≡ Fin (pos (2 ^ k - 1))

-- the least of the ends 2^k - 1 that is not below e, or none
pub record IsMaskAbove (e m : Ext) : Type 0 where
  pub above : AtMost e m
  pub kind : ((k : ℕ) × IsMask k m) ⊎ (m ≡ High)
  pub least : (k : ℕ) → AtMost e (Fin (pos (2 ^ k - 1))) → AtMost m (Fin (pos (2 ^ k - 1)))
