-- What a class holds.
use Rattle.std.proofs.Common.{ℤ, ◌-ℤ◌, arith, sym, refl, subst}
use Rattle.std.proofs.lemmas.Int.{ints}
use Rattle.num_api.specs.declared.message.Residue.{Residue}
use Rattle.num_api.specs.Residues.{InResidue, IsMultiple, IsFoldResidue}
use Rattle.num_api.specs.Residues.{class_of}
use Rattle.residues.specs.Classes.{IsClassOf, LiesIn}
use Rattle.num_api.proofs.Multiples.{multiple_along, multiple_sub, multiple_trans, off_from_in, in_itself, in_shifted, in_wider}

pub is_class_of : (rem m s : ℤ) → InResidue (class_of s m) rem → IsClassOf rem m (class_of s m)
is_class_of rem m s h = record { modulus_is = refl; contains = h }

pub is_class_of_itself : (rem m : ℤ) → IsClassOf rem m (class_of rem m)
is_class_of_itself rem m = is_class_of rem m rem (in_itself rem m)

-- a class of a number and a modulus holds what differs from the number by a multiple of the modulus
pub in_class_of : (rem m x : ℤ) (r : Residue) → IsClassOf rem m r → InResidue (class_of rem m) x → InResidue r x
in_class_of rem m x r d h =
    in_shifted rem r.rem r.modulus x d.contains (subst (λ (t : ℤ). InResidue (class_of rem t) x) (sym d.modulus_is) h)

-- what divides the number and the modulus divides the remainder too
pub fold_class_of : (c rem m : ℤ) (r : Residue) → IsClassOf rem m r → IsMultiple c rem → IsMultiple c m → IsFoldResidue c r
fold_class_of c rem m r d h k =
    let modulus : IsMultiple c r.modulus = multiple_along c m r.modulus (sym d.modulus_is) k in
    record {
      rem =
          multiple_along c (rem -ℤ (rem -ℤ r.rem)) r.rem (omega (arith, ints))
          (multiple_sub c rem (rem -ℤ r.rem) h (multiple_trans c r.modulus (rem -ℤ r.rem) modulus (off_from_in r.rem r.modulus rem d.contains)));
      modulus = modulus;
    }

-- the numbers of a class that lies in another are in the other
pub in_from_lies : (r s : Residue) (x : ℤ) → LiesIn r s → InResidue r x → InResidue s x
in_from_lies r s x d h = in_shifted r.rem s.rem s.modulus x d.contains (in_wider r.rem r.modulus s.modulus x d.divides h)
