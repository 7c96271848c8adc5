-- Products and quotients of a number by the powers of two of an interval's amounts.
use Rattle.std.specs.Prelude.{◌≡◌, ◌≢◌, ℕ, ℤ, pos, negsuc, ◌*ℤ◌, ◌≤ℤ◌, ◌^◌}
use Rattle.std.specs.Int.{int_div_euclid, int_min}
use Rattle.std.specs.Int.RustNames.{FitsSigned}
use mir.Syntax.{w128}
use Rattle.ext_int.specs.declared.Ext.{Ext}
use Rattle.ext_int.specs.declared.Ext.TheVariants.{Low, Fin, High}
use Rattle.intervals.specs.declared.Interval.{Interval}
use Rattle.intervals.specs.Interval.{Admits, IsBetween}

-- z is n by the power of two of the amount, where one below 0 stands for 0; by amounts with no end only 0 has a product
abbrev pub IsShifted : ℤ → Ext → ℤ → Type 0
IsShifted n Low z = z ≡ n
IsShifted n (Fin (pos k)) z = z ≡ (n *ℤ pos (2 ^ k))
IsShifted n (Fin (negsuc k)) z = z ≡ n
IsShifted n High z = (n ≡ pos 0) × (z ≡ n)

-- there is no such product that is an i128
abbrev pub IsShiftedAway : ℤ → Ext → Type 0
IsShiftedAway n Low = ⊥
IsShiftedAway n (Fin (pos k)) = FitsSigned w128 (n *ℤ pos (2 ^ k)) → ⊥
IsShiftedAway n (Fin (negsuc k)) = ⊥
IsShiftedAway n High = n ≢ pos 0

-- the end as an amount from 0 to 127: by more an i128 leaves what it leaves by 127
abbrev pub IsAmount : Ext → ℕ → Type 0
IsAmount Low r = r ≡ 0
IsAmount (Fin (pos k)) r = pos r ≡ int_min (pos k) (pos 127)
IsAmount (Fin (negsuc k)) r = r ≡ 0
IsAmount High r = r ≡ 127

-- there is an amount, and each product of n by the power of two of one lies between l and h
pub record AreProductsBetween (l h n : ℤ) (b : Interval) : Type 0 where
  pub some : (k : ℕ) × Admits b (pos k)
  pub between : (j : ℕ) → Admits b (pos j) → IsBetween l h (n *ℤ pos (2 ^ j))

-- each quotient of n by the power of two of an amount is at least l, or at most h
abbrev pub AreQuotientsFrom : ℤ → ℤ → Interval → Type 0
AreQuotientsFrom l n b = (j : ℕ) → Admits b (pos j) → l ≤ℤ int_div_euclid n (pos (2 ^ j))

abbrev pub AreQuotientsUpTo : ℤ → ℤ → Interval → Type 0
AreQuotientsUpTo h n b = (j : ℕ) → Admits b (pos j) → int_div_euclid n (pos (2 ^ j)) ≤ℤ h
