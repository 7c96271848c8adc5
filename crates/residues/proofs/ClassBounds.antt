-- That the operators leave no more open at classes than they may.
use Rattle.std.proofs.Common.{◌≡◌, ℕ, suc, ℤ, pos, negsuc, ◌+◌, ◌-◌, ◌^◌, ◌<◌, ◌≤◌, ◌+ℤ◌, ◌-ℤ◌, ◌*ℤ◌, neg_ℤ, ◌≤ℤ◌, ◌<ℤ◌, ⊎_elim, inr, Some, arith, refl, sym, ◌∙◌, ap, subst, FitsSigned}
use Rattle.std.proofs.lemmas.Int.{ints}
use Rattle.std.proofs.lemmas.Nat.{pow_pos, pow-add}
use Rattle.std.proofs.Math.Nat.{pow-suc, pow-le-pow_right}
use Rattle.std.proofs.lemmas.Bool.{cases_lt}
use Rattle.ext_int.proofs.Products.{mul-le_pos}
use Rattle.std.proofs.Math.IntN.{*ℤ_comm, zero-*ℤ}
use mir.Syntax.{w128}
use Rattle.num_api.specs.declared.expr.NOp.{NOp}
use Rattle.num_api.specs.declared.expr.NOp.TheVariants.{Neg, Not, Add, Sub, Mul, Quot, Rem, Shl, Shr, And, Or, Xor, Eq, Ne, Lt, Le}
use Rattle.num_api.specs.declared.message.Residue.{Residue}
use Rattle.num_api.specs.Residues.{class_of, InResidue, IsMultiple, IsFoldResidue}
use Rattle.num_api.specs.Value.{binary_value, bits_of_both, bits_of_either, bits_of_one}
use Rattle.num_api.proofs.Rings.{mul_add, mul_neg, mul_assoc}
use Rattle.num_api.proofs.Multiples.{multiple_along, multiple_add, multiple_sub, multiple_neg, multiple_times, multiple_trans, zero_multiple, off_from_in, in_from_off, in_itself}
use Rattle.residues.specs.Classes.{IsClassOf, LiesIn, IsGreatestDivisor, IsProductBy}
use Rattle.residues.specs.LowBits.{IsPowerDividing, IsCommonPower}
use Rattle.residues.specs.ClassBounds.{HasStep, IsSmall, IsFactor, IsSize, IsGreatestPower, SumBounds, HasSmallProducts, ProductBounds, ShiftBounds, RestBounds, LowBounds, AndBounds, ClassBounds, NegationBounds, IsOther}
use Rattle.std.specs.Prelude.{Option, None, IfNone}
use Rattle.std.specs.Int.{int_rem_euclid}
use Rattle.std.proofs.lemmas.Bool.Decides.{Decides-int_eq}
use Rattle.ext_int.specs.declared.Ext.{Ext}
use Rattle.ext_int.specs.declared.Ext.TheVariants.{Fin}
use Rattle.num_api.specs.Ranges.{IsPoint}
use Rattle.num_api.proofs.Remainders.{rem_unique}
use Rattle.intervals.specs.declared.Interval.{Interval}
use Rattle.intervals.specs.Interval.{ends_of, greatest_end, class_between, class_of as interval_class}
use Rattle.intervals.specs.Bits.{IsLogical}
use Rattle.intervals.proofs.BitPoints.{value_fits}
use Rattle.residues.specs.declared.class.Class.{Class}
use Rattle.residues.proofs.Members.{fold_class_of}
use Rattle.residues.proofs.Divisors.{divisor_positive, divisor_bound}
use Rattle.residues.proofs.Steps.{divides_greatest, greatest_bound}
use Rattle.residues.proofs.LowBits.{zero_left, zero_right}

-- ---- classes in classes

-- the class of a number by a step lies in that by each divisor of the step
pub lies_by : (z m d : ℤ) (r : Residue) → IsClassOf z m r → IsMultiple d m → LiesIn r (class_of z d)
lies_by z m d r is h =
    let divides : IsMultiple d r.modulus = multiple_along d m r.modulus (sym is.modulus_is) h in
    record {
      divides = divides;
      contains = in_from_off z d r.rem (multiple_along d (neg_ℤ (z -ℤ r.rem)) (r.rem -ℤ z) (turned z r.rem) (multiple_neg d (z -ℤ r.rem) (multiple_trans d r.modulus (z -ℤ r.rem) divides (off_from_in r.rem r.modulus z is.contains))));
    }
  where
    turned : (z n : ℤ) → neg_ℤ (z -ℤ n) ≡ n -ℤ z
    turned z n = omega (arith, ints)

-- another number of the class serves as well
pub lies_shifted : (y z d : ℤ) (r : Residue) → LiesIn r (class_of z d) → IsMultiple d (z -ℤ y) → LiesIn r (class_of y d)
lies_shifted y z d r lies h = record {
  divides = lies.divides;
  contains = in_from_off y d r.rem (multiple_along d ((r.rem -ℤ z) +ℤ (z -ℤ y)) (r.rem -ℤ y) (along r.rem z y) (multiple_add d (r.rem -ℤ z) (z -ℤ y) (off_from_in z d r.rem lies.contains) h));
}
  where
    along : (n z y : ℤ) → (n -ℤ z) +ℤ (z -ℤ y) ≡ n -ℤ y
    along n z y = omega (arith, ints)

pub point_lies : (n d : ℤ) (r : Residue) → r ≡ class_of n (pos 0) → LiesIn r (class_of n d)
point_lies n d r e = subst (λ (s : Residue). LiesIn s (class_of n d)) (sym e) (record { divides = zero_multiple d; contains = in_itself n d })

-- a class by a multiple of a step that divides the number is one of multiples
pub folds_from_lies : (n d : ℤ) (r : Residue) → LiesIn r (class_of n d) → IsMultiple d n → IsFoldResidue d r
folds_from_lies n d r lies h = record {
  rem = multiple_along d ((r.rem -ℤ n) +ℤ n) r.rem (back r.rem n) (multiple_add d (r.rem -ℤ n) n (off_from_in n d r.rem lies.contains) h);
  modulus = lies.divides;
}
  where
    back : (m n : ℤ) → (m -ℤ n) +ℤ n ≡ m
    back m n = omega (arith, ints)

-- ---- sums

-- a step that is 0 divides no modulus above it
pub step_positive : (a b : Residue) (step : ℤ) → HasStep a b → pos 0 ≤ℤ step → IsMultiple step a.modulus → IsMultiple step b.modulus → pos 1 ≤ℤ step
step_positive a b step h not_below p q = ⊎_elim
    (λ (one : pos 1 ≤ℤ a.modulus). divisor_positive step a.modulus p one not_below)
    (λ (one : pos 1 ≤ℤ b.modulus). divisor_positive step b.modulus q one not_below)
    h

pub sum_bounds : (a b r : Residue) (z step : ℤ) → ((d : ℤ) → IsMultiple d a.modulus → IsMultiple d b.modulus → IsMultiple d step) → (HasStep a b → IsClassOf z step r) → SumBounds a b z r
sum_bounds a b r z step greatest is = λ h d p q. lies_by z step d r (is h) (greatest d p q)

-- ---- products

pub size_itself : (n : ℤ) → IsSize n n
size_itself n = record { greatest = λ d m h k. k; small = λ m h k. k.1 }

pub size_turned : (n f : ℤ) → f ≡ neg_ℤ n → IsSize n f
size_turned n f e = record {
  greatest = λ d m h k. multiple_along d (neg_ℤ (m *ℤ n)) (m *ℤ f) (is m) (multiple_neg d (m *ℤ n) k);
  small = λ m h k. let low = k.0 in let same = is m in omega (arith, ints);
}
  where
    is : (m : ℤ) → neg_ℤ (m *ℤ n) ≡ m *ℤ f
    is m = sym (mul_neg m n) ∙ ap (λ (t : ℤ). m *ℤ t) (sym e)

-- of the least i128 only the product by 0 is small
pub size_least : (n : ℤ) → n ≡ neg_ℤ (pos (2 ^ 127)) → IsSize n (pos (2 ^ 100))
size_least n e = record {
  greatest = λ d m h k. multiple_along d (pos 0) (m *ℤ pos (2 ^ 100)) (sym (none m (zero_of m (subst (λ (t : ℤ). IsSmall (m *ℤ t)) e h)))) (zero_multiple d);
  small = λ m h k. let same = none m (zero_of m (subst (λ (t : ℤ). IsSmall (m *ℤ t)) e k)) in omega (arith, ints);
}
  where
    zero_of : (m : ℤ) → IsSmall (m *ℤ neg_ℤ (pos (2 ^ 127))) → m ≡ pos 0
    zero_of m h = let low = h.0 in let high = h.1 in omega (arith, ints)

    none : (m : ℤ) → m ≡ pos 0 → m *ℤ pos (2 ^ 100) ≡ pos 0
    none m e = ap (λ (t : ℤ). t *ℤ pos (2 ^ 100)) e ∙ zero-*ℤ (pos (2 ^ 100))

pub factor_of_size : (a : Residue) (f : ℤ) → IsSize a.rem f → IsFactor a f
factor_of_size a f s = record { greatest = λ d m h k l. s.greatest d m h k; small = λ m h k l. s.small m h k }

-- the greatest common divisor of the remainder and the modulus, as a factor
pub factor_of_divisor : (a : Residue) (f : ℤ) → IsGreatestDivisor a.rem a.modulus f → pos 1 ≤ℤ a.modulus → IsFactor a f
factor_of_divisor a f divisor one = record {
  greatest = λ d m h k l. from d m k l divisor.combined;
  small = λ m h k l. bounded m f a.modulus h (divisor_bound f a.modulus divisor.second one divisor.not_negative) l.1;
}
  where
    spread : (m x y p q : ℤ) → m *ℤ ((x *ℤ p) +ℤ (y *ℤ q)) ≡ (x *ℤ (m *ℤ p)) +ℤ (y *ℤ (m *ℤ q))
    spread m x y p q = mul_add m (x *ℤ p) (y *ℤ q) ∙ both (m *ℤ (x *ℤ p)) (x *ℤ (m *ℤ p)) (m *ℤ (y *ℤ q)) (y *ℤ (m *ℤ q)) (past m x p) (past m y q)
      where
        past : (m x p : ℤ) → m *ℤ (x *ℤ p) ≡ x *ℤ (m *ℤ p)
        past m x p = sym (mul_assoc m x p) ∙ ap (λ (t : ℤ). t *ℤ p) (*ℤ_comm m x) ∙ mul_assoc x m p

        both : (a b c d : ℤ) → a ≡ b → c ≡ d → a +ℤ c ≡ b +ℤ d
        both a b c d e f = omega (arith, ints)

    from : (d m : ℤ) → IsMultiple d (m *ℤ a.rem) → IsMultiple d (m *ℤ a.modulus) → (x : ℤ) × (y : ℤ) × (f ≡ (x *ℤ a.rem) +ℤ (y *ℤ a.modulus)) → IsMultiple d (m *ℤ f)
    from d m k l (x, y, e) =
        multiple_along d ((x *ℤ (m *ℤ a.rem)) +ℤ (y *ℤ (m *ℤ a.modulus))) (m *ℤ f) (sym (ap (λ (t : ℤ). m *ℤ t) e ∙ spread m x y a.rem a.modulus))
        (multiple_add d (x *ℤ (m *ℤ a.rem)) (y *ℤ (m *ℤ a.modulus)) (multiple_times d x (m *ℤ a.rem) k) (multiple_times d y (m *ℤ a.modulus) l))

    bounded : (m f n : ℤ) → pos 0 ≤ℤ m → f ≤ℤ n → (m *ℤ n) ≤ℤ pos (2 ^ 100) → (m *ℤ f) ≤ℤ pos (2 ^ 100)
    bounded (pos m) f n h k l = let p = mul-le_pos m f n k in omega (arith, ints)
    bounded (negsuc m) f n h k l = absurd (omega (arith, ints))

pub product_bounds : (a b r : Residue) (f g : ℤ) → IsFactor a f → IsFactor b g → IsProductBy a b f g r → ProductBounds a b r
product_bounds a b r f g at_f at_g by = λ small d left right both.
    lies_by (a.rem *ℤ b.rem) by.step d r by.is
    (divides_greatest d (a.modulus *ℤ g) (f *ℤ b.modulus) by.step by.divisor
    (at_g.greatest d a.modulus small.left left both)
    (multiple_along d (b.modulus *ℤ f) (f *ℤ b.modulus) (*ℤ_comm b.modulus f) (at_f.greatest d b.modulus small.right right (multiple_along d (a.modulus *ℤ b.modulus) (b.modulus *ℤ a.modulus) (*ℤ_comm a.modulus b.modulus) both))))

-- the products by the factors are small too
pub small_left : (a b : Residue) (g : ℤ) → pos 0 ≤ℤ a.modulus → IsFactor b g → HasSmallProducts a b → (a.modulus *ℤ g) ≤ℤ pos (2 ^ 100)
small_left a b g h at_g small = at_g.small a.modulus h small.left small.both

pub small_right : (a b : Residue) (f : ℤ) → pos 0 ≤ℤ b.modulus → IsFactor a f → HasSmallProducts a b → (f *ℤ b.modulus) ≤ℤ pos (2 ^ 100)
small_right a b f h at_f small =
    subst (λ (t : ℤ). t ≤ℤ pos (2 ^ 100)) (*ℤ_comm b.modulus f) (at_f.small b.modulus h small.right (subst IsSmall (*ℤ_comm a.modulus b.modulus) small.both))

-- ---- remainders

one_times : (n : ℤ) → pos 1 *ℤ n ≡ n
one_times n = omega (arith, ints)

pub rest_bounds : (a b r : Residue) (g step : ℤ) → IsFactor b g → IsGreatestDivisor a.modulus g step → IsClassOf a.rem step r → RestBounds a b r
rest_bounds a b r g step at_g divisor is = λ h small d p q t.
    lies_by a.rem step d r is
    (divides_greatest d a.modulus g step divisor p
    (multiple_along d (pos 1 *ℤ g) g (one_times g)
    (at_g.greatest d (pos 1) (subst IsSmall (sym (one_times b.rem)) small) (multiple_along d b.rem (pos 1 *ℤ b.rem) (sym (one_times b.rem)) q) (multiple_along d b.modulus (pos 1 *ℤ b.modulus) (sym (one_times b.modulus)) t))))

pub rest_step_small : (a b : Residue) (g step : ℤ) → pos 0 ≤ℤ a.modulus → a.modulus ≤ℤ pos (2 ^ 100) → pos 0 ≤ℤ b.modulus → b.modulus ≤ℤ pos (2 ^ 100) → pos 0 ≤ℤ g → IsFactor b g → IsGreatestDivisor a.modulus g step → IsSmall b.rem → step ≤ℤ pos (2 ^ 100)
rest_step_small a b g step h i j k l at_g divisor small =
    greatest_bound a.modulus g step divisor h i l
    (subst (λ (t : ℤ). t ≤ℤ pos (2 ^ 100)) (one_times g)
    (at_g.small (pos 1) (omega (arith, ints)) (subst IsSmall (sym (one_times b.rem)) small) (subst IsSmall (sym (one_times b.modulus)) (omega (arith, ints), k))))

-- ---- bits

-- powers of two divide each other as they are ordered
power_divides : (i j : ℕ) → i ≤ j → IsMultiple (pos (2 ^ i)) (pos (2 ^ j))
power_divides i j h = (pos (2 ^ (j - i)), ap pos (sym (ap (λ (n : ℕ). 2 ^ n) (whole i j h)) ∙ pow-add 2 (j - i) i))
  where
    whole : (i j : ℕ) → i ≤ j → (j - i) + i ≡ j
    whole i j h = omega arith

power_order : (i j : ℕ) → pos (2 ^ i) ≤ℤ pos (2 ^ j) → i ≤ j
power_order i j h = ⊎_elim
    (λ (l : j < i). let most : 2 ^ suc j ≤ 2 ^ i = pow-le-pow_right (omega arith) (omega arith) in let e = pow-suc 2 j in let p = pow_pos j in absurd (omega (arith, ints)))
    (λ (l : i ≤ j). l)
    (cases_lt j i)

pub lesser_divides : (m n p q s t : ℤ) → IsCommonPower m n s → IsCommonPower p q t → s ≤ℤ t → IsMultiple s t
lesser_divides m n p q s t first second h =
    subst (λ (x : ℤ). IsMultiple x t) (sym first.divides.is) (subst (λ (x : ℤ). IsMultiple (pos (2 ^ first.bits)) x) (sym second.divides.is)
    (power_divides first.bits second.bits (power_order first.bits second.bits (subst (λ (x : ℤ). x ≤ℤ pos (2 ^ second.bits)) first.divides.is (subst (λ (x : ℤ). s ≤ℤ x) second.divides.is h)))))

-- ---- bits at classes

pub low_bounds : (op : NOp) (a b r : Residue) (step : ℤ) → IsGreatestPower a.modulus b.modulus step → ((j : ℕ) (n : ℤ) → IsMultiple (pos (2 ^ j)) step → binary_value op a.rem b.rem ≡ Some n → LiesIn r (class_of n (pos (2 ^ j)))) → LowBounds op a b r
low_bounds op a b r step greatest lies = λ j n h p q e. lies j n (greatest j h p q) e

-- a value that a class holds up to a power, where the remainder or both are multiples of it
none_lies : (n first : ℤ) (r : Residue) (j : ℕ) → IsClassOf (pos 0) first r → IsMultiple (pos (2 ^ j)) first → InResidue r n → LiesIn r (class_of n (pos (2 ^ j)))
none_lies n first r j is d at =
    lies_shifted n (pos 0) (pos (2 ^ j)) r (lies_by (pos 0) first (pos (2 ^ j)) r is d)
    (multiple_along (pos (2 ^ j)) (neg_ℤ (n -ℤ pos 0)) (pos 0 -ℤ n) (turned n) (multiple_neg (pos (2 ^ j)) (n -ℤ pos 0) (off_zero n first r j is d at)))
  where
    turned : (n : ℤ) → neg_ℤ (n -ℤ pos 0) ≡ pos 0 -ℤ n
    turned n = omega (arith, ints)

    off_zero : (n first : ℤ) (r : Residue) (j : ℕ) → IsClassOf (pos 0) first r → IsMultiple (pos (2 ^ j)) first → InResidue r n → IsMultiple (pos (2 ^ j)) (n -ℤ pos 0)
    off_zero n first r j is d at =
        let m = multiple_along (pos (2 ^ j)) first r.modulus (sym is.modulus_is) d in
        multiple_along (pos (2 ^ j)) ((n -ℤ r.rem) -ℤ (pos 0 -ℤ r.rem)) (n -ℤ pos 0) (apart n r.rem)
        (multiple_sub (pos (2 ^ j)) (n -ℤ r.rem) (pos 0 -ℤ r.rem) (multiple_trans (pos (2 ^ j)) r.modulus (n -ℤ r.rem) m (off_from_in r.rem r.modulus n at)) (multiple_trans (pos (2 ^ j)) r.modulus (pos 0 -ℤ r.rem) m (off_from_in r.rem r.modulus (pos 0) is.contains)))
      where
        apart : (n m : ℤ) → (n -ℤ m) -ℤ (pos 0 -ℤ m) ≡ n -ℤ pos 0
        apart n m = omega (arith, ints)

-- no low bit, where each number of the first class has none
pub and_left : (a b r : Residue) (first second step : ℤ) → IsCommonPower a.rem a.modulus first → IsCommonPower b.rem b.modulus second → IsCommonPower a.modulus b.modulus step
    → IsGreatestPower a.rem a.modulus first → IsGreatestPower b.rem b.modulus second → IsGreatestPower a.modulus b.modulus step
    → step <ℤ first → second ≤ℤ first → IsClassOf (pos 0) first r → AndBounds a b r
and_left a b r first second step p q s at_first at_second at_step more most is = record {
  low = low_bounds And a b r step at_step (λ j n d e. none_lies n first r j is (multiple_trans (pos (2 ^ j)) step first d (lesser_divides a.modulus b.modulus a.rem a.modulus step first s p (omega (arith, ints))))
      (zero_left a r first a.rem b.rem n p is (in_itself a.rem a.modulus) e));
  first = λ j h f. fold_class_of (pos (2 ^ j)) (pos 0) first r is (zero_multiple (pos (2 ^ j))) (at_first j h f.rem f.modulus);
  second = λ j h f. fold_class_of (pos (2 ^ j)) (pos 0) first r is (zero_multiple (pos (2 ^ j)))
      (multiple_trans (pos (2 ^ j)) second first (at_second j h f.rem f.modulus) (lesser_divides b.rem b.modulus a.rem a.modulus second first q p most));
}

pub and_right : (a b r : Residue) (first second step : ℤ) → IsCommonPower a.rem a.modulus first → IsCommonPower b.rem b.modulus second → IsCommonPower a.modulus b.modulus step
    → IsGreatestPower a.rem a.modulus first → IsGreatestPower b.rem b.modulus second → IsGreatestPower a.modulus b.modulus step
    → step <ℤ second → first ≤ℤ second → IsClassOf (pos 0) second r → AndBounds a b r
and_right a b r first second step p q s at_first at_second at_step more most is = record {
  low = low_bounds And a b r step at_step (λ j n d e. none_lies n second r j is (multiple_trans (pos (2 ^ j)) step second d (lesser_divides a.modulus b.modulus b.rem b.modulus step second s q (omega (arith, ints))))
      (zero_right b r second a.rem b.rem n q is (in_itself b.rem b.modulus) e));
  first = λ j h f. fold_class_of (pos (2 ^ j)) (pos 0) second r is (zero_multiple (pos (2 ^ j)))
      (multiple_trans (pos (2 ^ j)) first second (at_first j h f.rem f.modulus) (lesser_divides a.rem a.modulus b.rem b.modulus first second p q most));
  second = λ j h f. fold_class_of (pos (2 ^ j)) (pos 0) second r is (zero_multiple (pos (2 ^ j))) (at_second j h f.rem f.modulus);
}

zero_class : (j : ℕ) → IsClassOf (pos 0) (pos (2 ^ j)) (class_of (pos 0) (pos (2 ^ j)))
zero_class j = record { modulus_is = refl; contains = in_itself (pos 0) (pos (2 ^ j)) }

fold_class_zero : (n : ℤ) (j : ℕ) → InResidue (class_of (pos 0) (pos (2 ^ j))) n → IsMultiple (pos (2 ^ j)) n
fold_class_zero n j h = multiple_along (pos (2 ^ j)) (n -ℤ pos 0) n (whole n) (off_from_in (pos 0) (pos (2 ^ j)) n h)
  where
    whole : (n : ℤ) → n -ℤ pos 0 ≡ n
    whole n = omega (arith, ints)

-- the bits of two numbers of which one has no low bits
both_folds_left : (x y n : ℤ) (j : ℕ) → j ≤ 100 → IsMultiple (pos (2 ^ j)) x → binary_value And x y ≡ Some n → IsMultiple (pos (2 ^ j)) n
both_folds_left x y n j h d e = (fold_class_zero n j (zero_left (class_of x (pos 0)) (class_of (pos 0) (pos (2 ^ j))) (pos (2 ^ j)) x y n
    (record { bits = j; small = h; divides = record { is = refl; first = d; second = zero_multiple (pos (2 ^ j)) } }) (zero_class j) (in_itself x (pos 0)) e))

both_folds_right : (x y n : ℤ) (j : ℕ) → j ≤ 100 → IsMultiple (pos (2 ^ j)) y → binary_value And x y ≡ Some n → IsMultiple (pos (2 ^ j)) n
both_folds_right x y n j h d e = (fold_class_zero n j (zero_right (class_of y (pos 0)) (class_of (pos 0) (pos (2 ^ j))) (pos (2 ^ j)) x y n
    (record { bits = j; small = h; divides = record { is = refl; first = d; second = zero_multiple (pos (2 ^ j)) } }) (zero_class j) (in_itself y (pos 0)) e))

-- the low bits that the remainders give, where no class has fewer of them than the steps
pub and_known : (a b r : Residue) (first second step n : ℤ) → IsCommonPower a.rem a.modulus first → IsCommonPower b.rem b.modulus second → IsCommonPower a.modulus b.modulus step
    → IsGreatestPower a.rem a.modulus first → IsGreatestPower b.rem b.modulus second
    → first ≤ℤ step → second ≤ℤ step → binary_value And a.rem b.rem ≡ Some n → ((j : ℕ) → IsMultiple (pos (2 ^ j)) step → LiesIn r (class_of n (pos (2 ^ j)))) → LowBounds And a b r → AndBounds a b r
and_known a b r first second step n p q s at_first at_second less lesser e lies low = record {
  low = low;
  first = λ j h f. folds_from_lies n (pos (2 ^ j)) r (lies j (multiple_trans (pos (2 ^ j)) first step (at_first j h f.rem f.modulus) (lesser_divides a.rem a.modulus a.modulus b.modulus first step p s less))) (both_folds_left a.rem b.rem n j h f.rem e);
  second = λ j h f. folds_from_lies n (pos (2 ^ j)) r (lies j (multiple_trans (pos (2 ^ j)) second step (at_second j h f.rem f.modulus) (lesser_divides b.rem b.modulus a.modulus b.modulus second step q s lesser))) (both_folds_right a.rem b.rem n j h f.rem e);
}

-- two numbers, and their value
pub and_points : (a b r : Residue) (n : ℤ) → r ≡ class_of n (pos 0) → binary_value And a.rem b.rem ≡ Some n → AndBounds a b r
and_points a b r n is e = record {
  low = λ j m h p q v. subst (λ (t : ℤ). LiesIn r (class_of t (pos (2 ^ j)))) (one_value n m (sym e ∙ v)) (point_lies n (pos (2 ^ j)) r is);
  first = λ j h f. folds_from_lies n (pos (2 ^ j)) r (point_lies n (pos (2 ^ j)) r is) (both_folds_left a.rem b.rem n j h f.rem e);
  second = λ j h f. folds_from_lies n (pos (2 ^ j)) r (point_lies n (pos (2 ^ j)) r is) (both_folds_right a.rem b.rem n j h f.rem e);
}
  where
    one_value : (n m : ℤ) → Some n ≡ Some m → n ≡ m
    one_value n m e = cc

pub low_points : (op : NOp) (a b r : Residue) (n : ℤ) → r ≡ class_of n (pos 0) → binary_value op a.rem b.rem ≡ Some n → LowBounds op a b r
low_points op a b r n is e = λ j m h p q v. subst (λ (t : ℤ). LiesIn r (class_of t (pos (2 ^ j)))) (one_value n m (sym e ∙ v)) (point_lies n (pos (2 ^ j)) r is)
  where
    one_value : (n m : ℤ) → Some n ≡ Some m → n ≡ m
    one_value n m e = cc

-- ---- the calls

-- where a class of products is none, some product is not small
pub none_small : (o : Option Class) (m n l r : ℤ) (F : Type 0) → l ≡ m → r ≡ n → pos 0 ≤ℤ m → pos 0 ≤ℤ n → IfNone o ((d : ℤ) × IsGreatestDivisor l r d × (pos (2 ^ 100) <ℤ d))
    → IfNone o (F → m ≤ℤ pos (2 ^ 100) → n ≤ℤ pos (2 ^ 100) → ⊥)
none_small None m n l r F e f h k (d, divisor, more) = λ t p q.
    let most = greatest_bound m n d (subst (λ (x : ℤ). IsGreatestDivisor x n d) e (subst (λ (x : ℤ). IsGreatestDivisor l x d) f divisor)) h p k q in
    absurd (omega (arith, ints))
none_small (Some c) m n l r F e f h k none = tt

-- the value at the remainders, and a step that divides
pub known_lies : (v o r : Residue) (n step d : ℤ) → v ≡ class_of n (pos 0) → IsClassOf (pos 0) step o → pos 1 ≤ℤ step → IsMultiple d step → SumBounds v o (v.rem +ℤ o.rem) r → LiesIn r (class_of n d)
known_lies v o r n step d is of one h bounds =
    let at_o : pos 1 ≤ℤ o.modulus = subst (λ (t : ℤ). pos 1 ≤ℤ t) (sym of.modulus_is) one in
    let by_o : IsMultiple d o.modulus = multiple_along d step o.modulus (sym of.modulus_is) h in
    let by_v : IsMultiple d v.modulus = subst (λ (s : Residue). IsMultiple d s.modulus) (sym is) (zero_multiple d) in
    let rem : v.rem ≡ n = ap (λ (s : Residue). s.rem) is in
    let off : IsMultiple d (pos 0 -ℤ o.rem) = multiple_trans d o.modulus (pos 0 -ℤ o.rem) by_o (off_from_in o.rem o.modulus (pos 0) of.contains) in
    lies_shifted n (v.rem +ℤ o.rem) d r (bounds (inr at_o) d by_v by_o)
    (multiple_along d (neg_ℤ (pos 0 -ℤ o.rem)) ((v.rem +ℤ o.rem) -ℤ n) (turned v.rem o.rem n rem) (multiple_neg d (pos 0 -ℤ o.rem) off))
  where
    turned : (v o n : ℤ) → v ≡ n → neg_ℤ (pos 0 -ℤ o) ≡ (v +ℤ o) -ℤ n
    turned v o n e = omega (arith, ints)

pub logical_default : (op : NOp) (a b r : Residue) → IsLogical op → (op ≡ And → ⊥) → LowBounds op a b r → ClassBounds op a b r
logical_default And a b r l none low = absurd (none refl)
logical_default Or a b r l none low = low
logical_default Xor a b r l none low = low
logical_default op a b r l none low = absurd l

no_step : (a b : Residue) → a.modulus ≡ pos 0 → b.modulus ≡ pos 0 → HasStep a b → ⊥
no_step a b e f = ⊎_elim (λ (h : pos 1 ≤ℤ a.modulus). absurd (omega (arith, ints))) (λ (h : pos 1 ≤ℤ b.modulus). absurd (omega (arith, ints)))

-- the bits of two numbers
bits_at : (op : NOp) → IsLogical op → (a b : Residue) → FitsSigned w128 a.rem → FitsSigned w128 b.rem → (n : ℤ) × (binary_value op a.rem b.rem ≡ Some n) × FitsSigned w128 n
bits_at And l a b f g = (bits_of_both a.rem b.rem, refl, value_fits And l a.rem b.rem _ f g refl)
bits_at Or l a b f g = (bits_of_either a.rem b.rem, refl, value_fits Or l a.rem b.rem _ f g refl)
bits_at Xor l a b f g = (bits_of_one a.rem b.rem, refl, value_fits Xor l a.rem b.rem _ f g refl)
bits_at op l a b f g = absurd l

pub other_points : (op : NOp) (a b r : Residue) → IsOther op → a.modulus ≡ pos 0 → b.modulus ≡ pos 0 → FitsSigned w128 a.rem → FitsSigned w128 b.rem
    → ((n : ℤ) → binary_value op a.rem b.rem ≡ Some n → FitsSigned w128 n → r ≡ class_of n (pos 0)) → ClassBounds op a b r
other_points Add a b r o e f g h at = absurd o
other_points Sub a b r o e f g h at = absurd o
other_points Mul a b r o e f g h at = absurd o
other_points Shl a b r o e f g h at = absurd o
other_points Rem a b r o e f g h at = λ s. absurd (no_step a b e f s)
other_points And a b r o e f g h at = let n = bits_at And tt a b g h in and_points a b r n.0 (at n.0 n.1 n.2) n.1
other_points Or a b r o e f g h at = let n = bits_at Or tt a b g h in low_points Or a b r n.0 (at n.0 n.1 n.2) n.1
other_points Xor a b r o e f g h at = let n = bits_at Xor tt a b g h in low_points Xor a b r n.0 (at n.0 n.1 n.2) n.1
other_points Neg a b r o e f g h at = tt
other_points Not a b r o e f g h at = tt
other_points Quot a b r o e f g h at = tt
other_points Shr a b r o e f g h at = tt
other_points Eq a b r o e f g h at = tt
other_points Ne a b r o e f g h at = tt
other_points Lt a b r o e f g h at = tt
other_points Le a b r o e f g h at = tt

pub other_default : (op : NOp) (a b r : Residue) → IsOther op → (op ≡ Rem → ⊥) → (IsLogical op → ⊥) → ClassBounds op a b r
other_default Add a b r o rem bits = absurd o
other_default Sub a b r o rem bits = absurd o
other_default Mul a b r o rem bits = absurd o
other_default Shl a b r o rem bits = absurd o
other_default Rem a b r o rem bits = absurd (rem refl)
other_default And a b r o rem bits = absurd (bits tt)
other_default Or a b r o rem bits = absurd (bits tt)
other_default Xor a b r o rem bits = absurd (bits tt)
other_default Neg a b r o rem bits = tt
other_default Not a b r o rem bits = tt
other_default Quot a b r o rem bits = tt
other_default Shr a b r o rem bits = tt
other_default Eq a b r o rem bits = tt
other_default Ne a b r o rem bits = tt
other_default Lt a b r o rem bits = tt
other_default Le a b r o rem bits = tt

pub is_other : (op : NOp) → (op ≡ Add → ⊥) → (op ≡ Sub → ⊥) → (op ≡ Mul → ⊥) → (op ≡ Shl → ⊥) → IsOther op
is_other Add p q s t = absurd (p refl)
is_other Sub p q s t = absurd (q refl)
is_other Mul p q s t = absurd (s refl)
is_other Shl p q s t = absurd (t refl)
is_other Rem p q s t = tt
is_other And p q s t = tt
is_other Or p q s t = tt
is_other Xor p q s t = tt
is_other Neg p q s t = tt
is_other Not p q s t = tt
is_other Quot p q s t = tt
is_other Shr p q s t = tt
is_other Eq p q s t = tt
is_other Ne p q s t = tt
is_other Lt p q s t = tt
is_other Le p q s t = tt

-- a shift by one amount is a product
pub shift_bounds : (a b p r : Residue) → ((k : ℕ) → k < 127 → b ≡ class_of (pos k) (pos 0) → p ≡ class_of (pos (2 ^ k)) (pos 0)) → ProductBounds a p r → ShiftBounds a b r
shift_bounds a b p r powers product = λ k l e. subst (λ (s : Residue). ProductBounds a s r) (powers k l e) product

-- two numbers whose value is one
pub value_at_points : (op : NOp) (a b r : Residue) (n : ℤ) → a.modulus ≡ pos 0 → b.modulus ≡ pos 0 → ((m : ℤ) → binary_value op a.rem b.rem ≡ Some m → m ≡ n) → r ≡ class_of n (pos 0) → ClassBounds op a b r
value_at_points Add a b r n e f at is = λ s. absurd (no_step a b e f s)
value_at_points Sub a b r n e f at is = λ s. absurd (no_step a b e f s)
value_at_points Mul a b r n e f at is = λ small d p q s. subst (λ (t : ℤ). LiesIn r (class_of t d)) (sym (at (a.rem *ℤ b.rem) refl)) (point_lies n d r is)
value_at_points Shl a b r n e f at is = λ k l g small d p q s.
    let power : binary_value Shl a.rem b.rem ≡ Some (a.rem *ℤ pos (2 ^ k)) = ap (λ (t : Residue). binary_value Shl a.rem t.rem) g in
    subst (λ (t : ℤ). LiesIn r (class_of t d)) (sym (at (a.rem *ℤ pos (2 ^ k)) power)) (point_lies n d r is)
value_at_points Rem a b r n e f at is = λ s. absurd (no_step a b e f s)
value_at_points And a b r n e f at is = and_points a b r n is (ap Some (at (bits_of_both a.rem b.rem) refl))
value_at_points Or a b r n e f at is = low_points Or a b r n is (ap Some (at (bits_of_either a.rem b.rem) refl))
value_at_points Xor a b r n e f at is = low_points Xor a b r n is (ap Some (at (bits_of_one a.rem b.rem) refl))
value_at_points Neg a b r n e f at is = tt
value_at_points Not a b r n e f at is = tt
value_at_points Quot a b r n e f at is = tt
value_at_points Shr a b r n e f at is = tt
value_at_points Eq a b r n e f at is = tt
value_at_points Ne a b r n e f at is = tt
value_at_points Lt a b r n e f at is = tt
value_at_points Le a b r n e f at is = tt

pub negation_bounds : (op : NOp) (z a r : Residue) → op ≡ Neg → z ≡ class_of (pos 0) (pos 0) → SumBounds z a (z.rem -ℤ a.rem) r → NegationBounds op a r
negation_bounds op z a r e is bounds = subst (λ (o : NOp). NegationBounds o a r) (sym e) (λ one d p.
    subst (λ (t : ℤ). LiesIn r (class_of t d)) (from_zero z.rem a.rem (ap (λ (s : Residue). s.rem) is))
    (bounds (inr one) d (subst (λ (s : Residue). IsMultiple d s.modulus) (sym is) (zero_multiple d)) p))
  where
    from_zero : (z n : ℤ) → z ≡ pos 0 → z -ℤ n ≡ neg_ℤ n
    from_zero z n e = omega (arith, ints)

-- the class of an interval of one number
pub point_class : (i : Interval) (n : ℤ) → IsPoint (ends_of i) n → interval_class i ≡ class_of n (pos 0)
point_class i n p = ap (λ (e : Ext). class_between e (greatest_end i)) p.low ∙ ap (λ (e : Ext). class_between (Fin n) e) p.high ∙ same n
  where
    same : (n : ℤ) → class_between (Fin n) (Fin n) ≡ class_of n (pos 0)
    same n = rw ((Decides-int_eq n n).1 refl) refl

-- ---- the greatest power

-- a number that leaves a remainder by the modulus is no multiple of it
leaves : (m p s : ℤ) → pos 1 ≤ℤ s → p ≡ int_rem_euclid m s → (p ≡ pos 0 → ⊥) → IsMultiple s m → ⊥
leaves m p s one is none h =
    none (is ∙ rem_unique m s (pos 0) one (in_from_off (pos 0) s m (multiple_along s m (m -ℤ pos 0) (whole m) h)) (omega (arith, ints)) (positive s one))
  where
    whole : (m : ℤ) → m ≡ m -ℤ pos 0
    whole m = omega (arith, ints)

    positive : (s : ℤ) → pos 1 ≤ℤ s → pos 0 <ℤ s
    positive s h = omega (arith, ints)

-- where the next power does not divide both, this one is the greatest
pub power_stops : (k : ℕ) (m n step next : ℤ) → IsPowerDividing k m n step → next ≡ pos (2 ^ suc k) → (IsMultiple next m → IsMultiple next n → ⊥) → IsGreatestPower m n step
power_stops k m n step next d e none = λ j h p q.
    ⊎_elim
    (λ (l : k < j).
    let more = power_divides (suc k) j (omega arith) in
    absurd (none (subst (λ (t : ℤ). IsMultiple t m) (sym e) (multiple_trans (pos (2 ^ suc k)) (pos (2 ^ j)) m more p)) (subst (λ (t : ℤ). IsMultiple t n) (sym e) (multiple_trans (pos (2 ^ suc k)) (pos (2 ^ j)) n more q))))
    (λ (l : j ≤ k). subst (λ (t : ℤ). IsMultiple (pos (2 ^ j)) t) (sym d.is) (power_divides j k l))
    (cases_lt k j)

pub last_power : (k : ℕ) (m n step : ℤ) → 100 ≤ k → IsPowerDividing k m n step → IsGreatestPower m n step
last_power k m n step l d = λ j h p q. subst (λ (t : ℤ). IsMultiple (pos (2 ^ j)) t) (sym d.is) (power_divides j k (omega arith))

pub first_leaves : (m n p next : ℤ) → pos 1 ≤ℤ next → p ≡ int_rem_euclid m next → (p ≡ pos 0 → ⊥) → IsMultiple next m → IsMultiple next n → ⊥
first_leaves m n p next one is none h k = leaves m p next one is none h

pub second_leaves : (m n p next : ℤ) → pos 1 ≤ℤ next → p ≡ int_rem_euclid n next → (p ≡ pos 0 → ⊥) → IsMultiple next m → IsMultiple next n → ⊥
second_leaves m n p next one is none h k = leaves n p next one is none k

pub power_one_up : (m n step : ℤ) → IsCommonPower m n step → pos 1 ≤ℤ step
power_one_up m n step p = let q = pow_pos p.bits in subst (λ (t : ℤ). pos 1 ≤ℤ t) (sym p.divides.is) (omega (arith, ints))

pub negation_default : (op : NOp) (a r : Residue) → (op ≡ Neg → ⊥) → NegationBounds op a r
negation_default Neg a r none = absurd (none refl)
negation_default op a r none = tt

pub not_logical : (op : NOp) → (op ≡ And → ⊥) → (op ≡ Or → ⊥) → (op ≡ Xor → ⊥) → IsLogical op → ⊥
not_logical And p q s l = p refl
not_logical Or p q s l = q refl
not_logical Xor p q s l = s refl
not_logical op p q s l = l
