-- What a test of a number of the machine tells.
use Rattle.std.proofs.Common.{◌≡◌, ◌≤ℤ◌, ℤ, pos, arith, true, false, FitsSigned, to_z, of_z, subst}
use Rattle.std.specs.Prelude.{int_le}
use Rattle.std.proofs.lemmas.Int.{ints, to_z-of_z}
use mir.Syntax.{w128}

from_test : (m : ℤ) → int_le (pos 1) m ≡ true → pos 1 ≤ℤ m
from_test m h = grind (arith, ints)

pub told_step : (m : ℤ) → FitsSigned w128 m → int_le (pos 1) (to_z w128 (of_z w128 m)) ≡ true → pos 1 ≤ℤ m
told_step m fits h = from_test m (subst (λ (x : ℤ). int_le (pos 1) x ≡ true) (to_z-of_z w128 m fits) h)

from_none : (m : ℤ) → int_le (pos 1) m ≡ false → pos 1 ≤ℤ m → ⊥
from_none m h k = grind (arith, ints)

pub told_no_step : (m : ℤ) → FitsSigned w128 m → int_le (pos 1) (to_z w128 (of_z w128 m)) ≡ false → pos 1 ≤ℤ m → ⊥
told_no_step m fits h = from_none m (subst (λ (x : ℤ). int_le (pos 1) x ≡ false) (to_z-of_z w128 m fits) h)
