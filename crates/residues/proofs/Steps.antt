-- Steps that divide two moduli.
use Rattle.std.proofs.Common.{◌≡◌, zero, suc, ℤ, pos, negsuc, ◌+ℤ◌, ◌-ℤ◌, ◌*ℤ◌, ◌≤ℤ◌, ◌^◌, arith, ap, sym, refl, ◌∙◌, subst, inl, inr}
use Rattle.std.proofs.lemmas.Int.{ints}
use Rattle.std.proofs.Math.IntN.{*ℤ-zero}
use Rattle.num_api.specs.declared.message.Residue.{Residue}
use Rattle.num_api.specs.Residues.{InResidue, IsMultiple, IsFoldResidue}
use Rattle.num_api.specs.Fold.{IsAlignment}
use Rattle.num_api.specs.Residues.{class_of}
use Rattle.residues.specs.Classes.{IsClassOf, IsGreatestDivisor, IsCommonStep, IsByCommonStep}
use Rattle.num_api.proofs.Multiples.{multiple_along, multiple_add, multiple_times, multiple_trans, in_sum, in_difference, in_wider}
use Rattle.residues.proofs.Divisors.{divisor_bound}
use Rattle.residues.proofs.Members.{in_class_of, fold_class_of}

-- what divides both numbers divides their greatest common divisor
pub divides_greatest : (c m n g : ℤ) → IsGreatestDivisor m n g → IsMultiple c m → IsMultiple c n → IsMultiple c g
divides_greatest c m n g d h k = from d.combined
  where
    from : (x : ℤ) × (y : ℤ) × (g ≡ (x *ℤ m) +ℤ (y *ℤ n)) → IsMultiple c g
    from (x, y, p) = multiple_along c ((x *ℤ m) +ℤ (y *ℤ n)) g (sym p) (multiple_add c (x *ℤ m) (y *ℤ n) (multiple_times c x m h) (multiple_times c y n k))

-- the greatest common divisor of two zeros
pub greatest_of_zeros : (m n g : ℤ) → IsGreatestDivisor m n g → m ≡ pos 0 → n ≡ pos 0 → g ≡ pos 0
greatest_of_zeros m n g d e f = from d.combined
  where
    from : (x : ℤ) × (y : ℤ) × (g ≡ (x *ℤ m) +ℤ (y *ℤ n)) → g ≡ pos 0
    from (x, y, p) =
        let u : x *ℤ m ≡ pos 0 = ap (λ (t : ℤ). x *ℤ t) e ∙ *ℤ-zero x in
        let v : y *ℤ n ≡ pos 0 = ap (λ (t : ℤ). y *ℤ t) f ∙ *ℤ-zero y in
        omega (arith, ints)

by_zero : {P : Type 0} (m : ℤ) → pos 0 ≤ℤ m → (pos 1 ≤ℤ m → P) → (m ≡ pos 0 → P) → P
by_zero (pos zero) h f g = g refl
by_zero (pos (suc n)) h f g = f (omega (arith, ints))
by_zero (negsuc n) h f g = absurd (omega (arith, ints))

pub greatest_bound : (m n g : ℤ) → IsGreatestDivisor m n g → pos 0 ≤ℤ m → m ≤ℤ pos (2 ^ 100) → pos 0 ≤ℤ n → n ≤ℤ pos (2 ^ 100) → g ≤ℤ pos (2 ^ 100)
greatest_bound m n g d h i j k =
    by_zero m h
    (λ p. let e = divisor_bound g m d.first p d.not_negative in omega (arith, ints))
    (λ p. by_zero n j
    (λ q. let e = divisor_bound g n d.second q d.not_negative in omega (arith, ints))
    (λ q. let e = greatest_of_zeros m n g d p q in omega (arith, ints)))

pub common_from_greatest : (m n g : ℤ) → IsGreatestDivisor m n g → pos 0 ≤ℤ m → m ≤ℤ pos (2 ^ 100) → pos 0 ≤ℤ n → n ≤ℤ pos (2 ^ 100) → IsCommonStep m n g
common_from_greatest m n g d h i j k = record {
  not_negative = d.not_negative;
  bounded = greatest_bound m n g d h i j k;
  first = d.first;
  second = d.second;
  folds = λ c a p q. divides_greatest c m n g d p q;
}

-- a divisor of a common step that the same alignments divide is one too
pub common_wider : (m n g h : ℤ) → IsCommonStep m n g → pos 0 ≤ℤ h → h ≤ℤ pos (2 ^ 100) → IsMultiple h g → ((c : ℤ) → IsAlignment c → IsMultiple c g → IsMultiple c h) → IsCommonStep m n h
common_wider m n g h d i j k folds = record {
  not_negative = i;
  bounded = j;
  first = multiple_trans h g m k d.first;
  second = multiple_trans h g n k d.second;
  folds = λ c a p q. folds c a (d.folds c a p q);
}

-- every alignment divides the greatest modulus
pub fold_greatest : (c : ℤ) → IsAlignment c → IsMultiple c (pos (2 ^ 100))
fold_greatest c (inl e) = subst (λ (t : ℤ). IsMultiple t (pos (2 ^ 100))) (sym e) (pos (2 ^ 100), refl)
fold_greatest c (inr (inl e)) = subst (λ (t : ℤ). IsMultiple t (pos (2 ^ 100))) (sym e) (pos (2 ^ 99), refl)
fold_greatest c (inr (inr (inl e))) = subst (λ (t : ℤ). IsMultiple t (pos (2 ^ 100))) (sym e) (pos (2 ^ 98), refl)
fold_greatest c (inr (inr (inr e))) = subst (λ (t : ℤ). IsMultiple t (pos (2 ^ 100))) (sym e) (pos (2 ^ 97), refl)

-- ---- sums and differences

pub sum_holds : (r s t : Residue) (x y : ℤ) → IsByCommonStep r.modulus s.modulus (r.rem +ℤ s.rem) t → InResidue r x → InResidue s y → InResidue t (x +ℤ y)
sum_holds r s t x y d h k =
    in_class_of (r.rem +ℤ s.rem) d.step (x +ℤ y) t d.is
    (in_sum r.rem s.rem d.step x y (in_wider r.rem r.modulus d.step x d.common.first h) (in_wider s.rem s.modulus d.step y d.common.second k))

pub difference_holds : (r s t : Residue) (x y : ℤ) → IsByCommonStep r.modulus s.modulus (r.rem -ℤ s.rem) t → InResidue r x → InResidue s y → InResidue t (x -ℤ y)
difference_holds r s t x y d h k =
    in_class_of (r.rem -ℤ s.rem) d.step (x -ℤ y) t d.is
    (in_difference r.rem s.rem d.step x y (in_wider r.rem r.modulus d.step x d.common.first h) (in_wider s.rem s.modulus d.step y d.common.second k))

pub sum_folds : (c : ℤ) (r s t : Residue) → IsAlignment c → IsByCommonStep r.modulus s.modulus (r.rem +ℤ s.rem) t → IsFoldResidue c r → IsFoldResidue c s → IsFoldResidue c t
sum_folds c r s t a d h k =
    fold_class_of c (r.rem +ℤ s.rem) d.step t d.is (multiple_add c r.rem s.rem h.rem k.rem) (d.common.folds c a h.modulus k.modulus)

-- the class of a sum or a difference by the class of the remainders
pub class_of_sum : (x y p q m : ℤ) (r : Residue) → InResidue (class_of p m) x → InResidue (class_of q m) y → IsClassOf (p +ℤ q) m r → IsClassOf (x +ℤ y) m r
class_of_sum x y p q m r h k d = record {
  modulus_is = d.modulus_is;
  contains = in_class_of (p +ℤ q) m (x +ℤ y) r d (in_sum p q m x y h k);
}

pub class_of_difference : (x y p q m : ℤ) (r : Residue) → InResidue (class_of p m) x → InResidue (class_of q m) y → IsClassOf (p -ℤ q) m r → IsClassOf (x -ℤ y) m r
class_of_difference x y p q m r h k d = record {
  modulus_is = d.modulus_is;
  contains = in_class_of (p -ℤ q) m (x -ℤ y) r d (in_difference p q m x y h k);
}
