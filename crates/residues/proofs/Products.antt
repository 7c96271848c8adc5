-- Products of classes.
use Rattle.std.proofs.Common.{◌≡◌, ℤ, pos, negsuc, ◌+ℤ◌, ◌-ℤ◌, ◌*ℤ◌, neg_ℤ, ◌≤ℤ◌, ◌^◌, arith, sym, refl, subst, ◌⊎◌, ⊎_elim, inl, inr, FitsSigned}
use Rattle.std.proofs.lemmas.Int.{ints, quot-rem, by_lt_z, fits_signed_mul}
use Rattle.std.specs.Int.RustNames.{int_div, int_rem}
use Rattle.std.specs.Ordering.{int_eq}
use Rattle.std.specs.Prelude.{Bool, true, false, if◌then◌else◌}
use Rattle.std.proofs.Common.{lit<}
use Rattle.num_api.specs.Value.{binary_value}
use Rattle.num_api.specs.declared.expr.NOp.TheVariants.{Rem}
use mir.Syntax.{w128}
use Rattle.num_api.specs.declared.message.Residue.{Residue}
use Rattle.num_api.specs.Residues.{InResidue, IsMultiple, IsFoldResidue}
use Rattle.num_api.specs.Fold.{IsAlignment}
use Rattle.std.specs.Prelude.{Option, Some, None, IfSome}
use Rattle.residues.specs.Class.{residue_of}
use Rattle.residues.specs.declared.class.Class.{Class}
use Rattle.residues.specs.Classes.{IsClassOf, IsGreatestDivisor, IsProductBy}
use Rattle.num_api.proofs.Multiples.{multiple_along, multiple_add, multiple_neg, multiple_times, times_multiple, zero_multiple, multiple_trans, multiple_mul, in_product, in_wider, in_shifted, off_from_in, in_from_off, in_itself}
use Rattle.residues.proofs.Members.{in_class_of, fold_class_of}
use Rattle.residues.proofs.Steps.{divides_greatest}

-- what divides the remainder and the modulus divides every number of the class
pub class_multiple : (g : ℤ) (r : Residue) (x : ℤ) → IsMultiple g r.rem → IsMultiple g r.modulus → InResidue r x → IsMultiple g x
class_multiple g r x h k i =
    multiple_along g ((x -ℤ r.rem) +ℤ r.rem) x (omega (arith, ints))
    (multiple_add g (x -ℤ r.rem) r.rem (multiple_trans g r.modulus (x -ℤ r.rem) k (off_from_in r.rem r.modulus x i)) h)

-- every alignment divides this power of two
pub fold_power : (c : ℤ) → IsAlignment c → IsMultiple c (pos (2 ^ 50))
fold_power c (inl e) = subst (λ (t : ℤ). IsMultiple t (pos (2 ^ 50))) (sym e) (pos (2 ^ 50), refl)
fold_power c (inr (inl e)) = subst (λ (t : ℤ). IsMultiple t (pos (2 ^ 50))) (sym e) (pos (2 ^ 49), refl)
fold_power c (inr (inr (inl e))) = subst (λ (t : ℤ). IsMultiple t (pos (2 ^ 50))) (sym e) (pos (2 ^ 48), refl)
fold_power c (inr (inr (inr e))) = subst (λ (t : ℤ). IsMultiple t (pos (2 ^ 50))) (sym e) (pos (2 ^ 47), refl)

pub product_holds : (a b r : Residue) (f g x y : ℤ) → IsProductBy a b f g r → ((n : ℤ) → InResidue a n → IsMultiple f n) → ((n : ℤ) → InResidue b n → IsMultiple g n) → InResidue a x → InResidue b y → InResidue r (x *ℤ y)
product_holds a b r f g x y d p q h k =
    in_class_of (a.rem *ℤ b.rem) d.step (x *ℤ y) r d.is
    (in_product a.rem a.modulus b.rem b.modulus f g d.step x y d.divisor.first d.divisor.second (p a.rem (in_itself a.rem a.modulus)) (q y k) h k)

pub product_fold_left : (c : ℤ) (a b r : Residue) (f g : ℤ) → IsProductBy a b f g r → IsMultiple c f → IsFoldResidue c a → IsFoldResidue c r
product_fold_left c a b r f g d u h =
    fold_class_of c (a.rem *ℤ b.rem) d.step r d.is
    (times_multiple c a.rem b.rem h.rem)
    (divides_greatest c _ _ d.step d.divisor (times_multiple c a.modulus g h.modulus) (times_multiple c f b.modulus u))

pub product_fold_right : (c : ℤ) (a b r : Residue) (f g : ℤ) → IsProductBy a b f g r → IsMultiple c g → IsFoldResidue c b → IsFoldResidue c r
product_fold_right c a b r f g d u h =
    fold_class_of c (a.rem *ℤ b.rem) d.step r d.is
    (multiple_times c a.rem b.rem h.rem)
    (divides_greatest c _ _ d.step d.divisor (multiple_times c a.modulus g u) (multiple_times c f b.modulus h.modulus))

-- ---- multiples of a power of two

pub multiples_hold : (f g p q x y : ℤ) (r : Residue) → IsClassOf (pos 0) (p *ℤ q) r → IsMultiple p f → IsMultiple q g → IsMultiple f x → IsMultiple g y → InResidue r (x *ℤ y)
multiples_hold f g p q x y r d u v h k =
    in_class_of (pos 0) (p *ℤ q) (x *ℤ y) r d
    (in_from_off (pos 0) (p *ℤ q) (x *ℤ y) (multiple_along (p *ℤ q) (x *ℤ y) _ (omega (arith, ints)) (multiple_mul p q x y (multiple_trans p f x u h) (multiple_trans q g y v k))))

pub multiples_fold : (c f g p q : ℤ) (r : Residue) → IsClassOf (pos 0) (p *ℤ q) r → (IsMultiple c f → IsMultiple c p) → (IsMultiple c g → IsMultiple c q) → IsMultiple c f ⊎ IsMultiple c g → IsFoldResidue c r
multiples_fold c f g p q r d u v h =
    fold_class_of c (pos 0) (p *ℤ q) r d (zero_multiple c)
    (⊎_elim (λ (k : IsMultiple c f). times_multiple c p q (u k)) (λ (k : IsMultiple c g). multiple_times c p q (v k)) h)

-- ---- remainders

-- the remainder differs from the dividend by a multiple of the divisor
pub rest_holds : (a r : Residue) (d f x y : ℤ) → IsClassOf a.rem d r → IsMultiple d a.modulus → IsMultiple d f → IsMultiple f y → InResidue a x → InResidue r (int_rem x y)
rest_holds a r d f x y s u v h k =
    let e : int_rem x y -ℤ x ≡ neg_ℤ (int_div x y *ℤ y) = omega (arith, ints, quot-rem x y) in
    let off : IsMultiple d (int_rem x y -ℤ x) = multiple_along d _ _ (sym e) (multiple_neg d (int_div x y *ℤ y) (multiple_times d (int_div x y) y (multiple_trans d f y v h))) in
    in_class_of a.rem d (int_rem x y) r s
    (in_shifted x a.rem d (int_rem x y) (in_wider a.rem a.modulus d x u k) (in_from_off x d (int_rem x y) off))

-- ---- the least i128

-- a number without a size is -2^127
pub least_number : (n : ℤ) → FitsSigned w128 n → (FitsSigned w128 (neg_ℤ n) → ⊥) → n ≡ neg_ℤ (pos (2 ^ 127))
least_number n f h = by_lt_z (neg_ℤ (pos (2 ^ 127))) n (λ p. absurd (h (omega (arith, ints)))) (λ p. omega (arith, ints))

pub least_multiple : IsMultiple (pos (2 ^ 100)) (neg_ℤ (pos (2 ^ 127)))
least_multiple = (neg_ℤ (pos (2 ^ 27)), refl)

-- ---- the class of a product, where it is there

pub not_negative_product : (a b : ℤ) → pos 0 ≤ℤ a → pos 0 ≤ℤ b → pos 0 ≤ℤ (a *ℤ b)
not_negative_product (pos a) (pos b) h k = omega (arith, ints)
not_negative_product (pos a) (negsuc b) h k = absurd (omega (arith, ints))
not_negative_product (negsuc a) b h k = absurd (omega (arith, ints))

pub product_by : (a b : Residue) (f g rem left right : ℤ) (o : Option Class) → rem ≡ a.rem *ℤ b.rem → left ≡ a.modulus *ℤ g → right ≡ f *ℤ b.modulus → IfSome o (λ r. (d : ℤ) × IsGreatestDivisor left right d × IsClassOf rem d (residue_of r)) → IfSome o (λ r. IsProductBy a b f g (residue_of r))
product_by a b f g rem left right None p q s h = tt
product_by a b f g rem left right (Some r) p q s (d, u, v) = record {
  step = d;
  divisor = subst (λ (t : ℤ). IsGreatestDivisor t (f *ℤ b.modulus) d) q (subst (λ (t : ℤ). IsGreatestDivisor left t d) s u);
  is = subst (λ (t : ℤ). IsClassOf t d (residue_of r)) p v;
}

-- two factors of at most 2^50
pub fits_product : (p q : ℤ) → pos 1 ≤ℤ p → p ≤ℤ pos (2 ^ 50) → pos 1 ≤ℤ q → q ≤ℤ pos (2 ^ 50) → FitsSigned w128 (p *ℤ q)
fits_product p q h i j k = fits_signed_mul w128 p q (2 ^ 50) (2 ^ 50) (omega (arith, ints)) (omega (arith, ints)) (lit< tt)

-- where a remainder has a value, it is that of the division
pub rest_value : (x y n : ℤ) → binary_value Rem x y ≡ Some n → int_rem x y ≡ n
rest_value x y n = from (int_eq y (pos 0)) (int_rem x y)
  where
    from : (b : Bool) (m : ℤ) → (if b then None else Some m) ≡ Some n → m ≡ n
    from true m e = cc
    from false m e = cc
