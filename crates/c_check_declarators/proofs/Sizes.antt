-- Spaces of arrays of arrays.
use Rattle.std.proofs.Common.{◌≡◌, refl, ap, ℕ, ◌*◌, Option, Some, None, arith, mul_assoc}
use Rattle.std.specs.Prelude.{option_map}
use Rattle.c_layout.specs.Layout.{Space, array_space}

one_times : (o : Option ℕ) → option_map (λ n. 1 * n) o ≡ o
one_times None = refl
one_times (Some n) = ap Some (let e : 1 * n ≡ n = omega arith in e)

-- one element
pub array_one : (space : Space) → array_space 1 space ≡ space
array_one space = ap (λ (o : Option ℕ). let s : Space = record { size = o; align = space.align } in s) (one_times space.size)

twice : (m n : ℕ) (o : Option ℕ) → option_map (λ s. m * n * s) o ≡ option_map (λ s. m * s) (option_map (λ s. n * s) o)
twice m n None = refl
twice m n (Some s) = ap Some (mul_assoc m n s)

-- so many arrays of so many elements
pub array_twice : (m n : ℕ) (space : Space) → array_space (m * n) space ≡ array_space m (array_space n space)
array_twice m n space = ap (λ (o : Option ℕ). let s : Space = record { size = o; align = space.align } in s) (twice m n space.size)
