-- Numbers of a class, by their remainders.
use Rattle.std.proofs.Common.{◌≡◌, ◌↔◌, ◌≤ℤ◌, ◌<ℤ◌, ℤ, pos, arith, subst}
use Rattle.std.specs.Int.{int_rem_euclid}
use Rattle.std.proofs.lemmas.Int.{ints}
use Rattle.c_syntax.specs.Admission.{IsInClass}
use Rattle.num_api.specs.Residues.{class_of, InResidue}
use Rattle.num_api.proofs.Remainders.{rem_same, rem_unique}
use Rattle.mem_shown.proofs.Classes.{to_residue, from_residue}

-- the modulus 0 has one number
pub class_of_none : (r n : ℤ) → (n ≡ r) ↔ IsInClass (pos 0) r n
class_of_none r n = ((λ e. (pos 0, omega (arith, ints, e))), (λ i. let e = i.1 in omega (arith, ints, e)))

pub class_by_remainder : (m r n : ℤ) → pos 1 ≤ℤ m → (pos 0 ≤ℤ r) × (r <ℤ m) → (int_rem_euclid n m ≡ r) ↔ IsInClass m r n
class_by_remainder m r n h b = (
  λ e. from_residue m r n (subst (λ (x : ℤ). InResidue (class_of x m) n) e (rem_same n m h)),
  λ i. rem_unique n m r h (to_residue m r n i) b.0 b.1,
)
