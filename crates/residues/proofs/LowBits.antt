-- Numbers that are the same up to a multiple of a power of two have the same low bits, and the operators on bits keep that.
use Rattle.std.proofs.Common.{◌≡◌, ℕ, suc, ℤ, pos, negsuc, ◌+◌, ◌-◌, ◌*◌, ◌/◌, ◌%◌, ◌^◌, ◌<◌, ◌≤◌, ◌+ℤ◌, ◌-ℤ◌, ◌*ℤ◌, ◌≤ℤ◌, Some, of_z, FitsSigned, min, max, bit_and, bit_xor, arith, refl, sym, ◌∙◌, ap, subst}
use mir.Syntax.{w128}
use Rattle.std.specs.Int.{bit_at, int_rem_euclid}
use Rattle.std.specs.Int.Bits.{xor_add_and}
use Rattle.std.proofs.lemmas.Int.{ints}
use Rattle.std.proofs.lemmas.Nat.{and_le_l, and_le_r, pow_pos, div-add-mod'}
use Rattle.std.proofs.Math.Nat.{mod-lt, pow-suc, pow-le-pow_right}
use Rattle.std.proofs.lemmas.Nat.Bits.{same_from_bits_below, bit_at_and, bit_at_or, bit_at_xor, bit_at_ones, bit_at_cat_low, bit_at-lt}
use Rattle.num_api.specs.declared.expr.NOp.{NOp}
use Rattle.num_api.specs.declared.expr.NOp.TheVariants.{And, Or, Xor}
use Rattle.num_api.specs.declared.message.Residue.{Residue}
use Rattle.num_api.specs.Value.{binary_value, bits_without, bits_of_both, bits_of_either, bits_of_one}
use Rattle.intervals.specs.Bits.{IsLogical}
use Rattle.num_api.specs.Residues.{class_of, InResidue, IsMultiple}
use Rattle.num_api.proofs.Multiples.{multiple_along, multiple_add, multiple_sub, multiple_times, off_from_in, in_from_off, in_itself, in_shifted, in_wider}
use Rattle.residues.specs.Classes.{IsClassOf, IsByCommonStep}
use Rattle.residues.specs.LowBits.{IsPowerDividing, IsCommonPower}
use Rattle.residues.proofs.Members.{in_class_of}
use Rattle.residues.proofs.Steps.{sum_holds}
use Rattle.num_api.proofs.Remainders.{rem_same, rem_low, rem_high, rem_unique}

-- ---- bits of whole numbers

-- a bit of a number of any size: those of negsuc a are the ones that a has not
abbrev pub bit_of : ℤ → ℕ → ℕ
bit_of (pos a) i = bit_at a i
bit_of (negsuc a) i = 1 - bit_at a i

bit-lt : (x : ℤ) (i : ℕ) → bit_of x i < 2
bit-lt (pos a) i = bit_at-lt a i
bit-lt (negsuc a) i = omega arith

-- ---- the low bits

abbrev pub low : ℕ → ℤ → ℕ
low k (pos a) = a % 2 ^ k
low k (negsuc a) = 2 ^ k - 1 - a % 2 ^ k

mod-below : (a k : ℕ) → a % 2 ^ k < 2 ^ k
mod-below a k = mod-lt a (pow_pos k)

pub low-below : (k : ℕ) (x : ℤ) → low k x < 2 ^ k
low-below k (pos a) = mod-below a k
low-below k (negsuc a) = let p = pow_pos k in omega arith

bit-mod : (a k i : ℕ) → i < k → bit_at (a % 2 ^ k) i ≡ bit_at a i
bit-mod a k i h = sym (bit_at_cat_low (a / 2 ^ k) k (a % 2 ^ k) i h) ∙ ap (λ n. bit_at n i) (parts a (2 ^ k))
  where
    parts : (a m : ℕ) → a / m * m + a % m ≡ a
    parts a m = div-add-mod' a m

-- the complement of a number below a power of two
ones-and : (k m : ℕ) → m < 2 ^ k → bit_and (2 ^ k - 1) m ≡ m
ones-and k m h = same_from_bits_below k _ _ (let l = and_le_r (2 ^ k - 1) m in omega arith) h (λ i j. bit_at_and (2 ^ k - 1) m i ∙ ap (λ b. min b (bit_at m i)) (bit_at_ones k i j) ∙ least (bit_at m i) (bit_at-lt m i))
  where
    least : (b : ℕ) → b < 2 → min 1 b ≡ b
    least b h = omega arith

flip-is : (k m : ℕ) → m < 2 ^ k → bit_xor (2 ^ k - 1) m ≡ 2 ^ k - 1 - m
flip-is k m h = let sum = xor_add_and (2 ^ k - 1) m in let both = ones-and k m h in let p = pow_pos k in omega arith

bit-flip : (k m i : ℕ) → m < 2 ^ k → i < k → bit_at (2 ^ k - 1 - m) i ≡ 1 - bit_at m i
bit-flip k m i h j = ap (λ n. bit_at n i) (sym (flip-is k m h)) ∙ bit_at_xor (2 ^ k - 1) m i ∙ ap (λ b. (b + bit_at m i) % 2) (bit_at_ones k i j) ∙ other (bit_at m i) (bit_at-lt m i)
  where
    other : (b : ℕ) → b < 2 → (1 + b) % 2 ≡ 1 - b
    other b h = omega arith

pub bit-low : (k : ℕ) (x : ℤ) (i : ℕ) → i < k → bit_at (low k x) i ≡ bit_of x i
bit-low k (pos a) i h = bit-mod a k i h
bit-low k (negsuc a) i h = bit-flip k (a % 2 ^ k) i (mod-below a k) h ∙ ap (λ b. 1 - b) (bit-mod a k i h)

-- ---- bits of the results

without : (p q : ℕ) → p < 2 → q < 2 → (p + min p q) % 2 ≡ min p (1 - q)
without p q h j = omega arith

bit-without : (a b i : ℕ) → bit_at (bits_without a b) i ≡ min (bit_at a i) (1 - bit_at b i)
bit-without a b i = bit_at_xor a (bit_and a b) i ∙ ap (λ c. (bit_at a i + c) % 2) (bit_at_and a b i) ∙ without (bit_at a i) (bit_at b i) (bit_at-lt a i) (bit_at-lt b i)

pub bit-both : (x y : ℤ) (i : ℕ) → bit_of (bits_of_both x y) i ≡ min (bit_of x i) (bit_of y i)
bit-both (pos a) (pos b) i = bit_at_and a b i
bit-both (pos a) (negsuc b) i = bit-without a b i
bit-both (negsuc a) (pos b) i = bit-without b a i ∙ turn (bit_at b i) (1 - bit_at a i)
  where
    turn : (p q : ℕ) → min p q ≡ min q p
    turn p q = omega arith
bit-both (negsuc a) (negsuc b) i = ap (λ c. 1 - c) (bit_at_or a b i) ∙ nor (bit_at a i) (bit_at b i) (bit_at-lt a i) (bit_at-lt b i)
  where
    nor : (p q : ℕ) → p < 2 → q < 2 → 1 - max p q ≡ min (1 - p) (1 - q)
    nor p q h j = omega arith

pub bit-either : (x y : ℤ) (i : ℕ) → bit_of (bits_of_either x y) i ≡ max (bit_of x i) (bit_of y i)
bit-either (pos a) (pos b) i = bit_at_or a b i
bit-either (pos a) (negsuc b) i = ap (λ c. 1 - c) (bit-without b a i) ∙ law (bit_at a i) (bit_at b i) (bit_at-lt a i) (bit_at-lt b i)
  where
    law : (p q : ℕ) → p < 2 → q < 2 → 1 - min q (1 - p) ≡ max p (1 - q)
    law p q h j = omega arith
bit-either (negsuc a) (pos b) i = ap (λ c. 1 - c) (bit-without a b i) ∙ law (bit_at a i) (bit_at b i) (bit_at-lt a i) (bit_at-lt b i)
  where
    law : (p q : ℕ) → p < 2 → q < 2 → 1 - min p (1 - q) ≡ max (1 - p) q
    law p q h j = omega arith
bit-either (negsuc a) (negsuc b) i = ap (λ c. 1 - c) (bit_at_and a b i) ∙ nand (bit_at a i) (bit_at b i) (bit_at-lt a i) (bit_at-lt b i)
  where
    nand : (p q : ℕ) → p < 2 → q < 2 → 1 - min p q ≡ max (1 - p) (1 - q)
    nand p q h j = omega arith

pub bit-one : (x y : ℤ) (i : ℕ) → bit_of (bits_of_one x y) i ≡ (bit_of x i + bit_of y i) % 2
bit-one (pos a) (pos b) i = bit_at_xor a b i
bit-one (pos a) (negsuc b) i = ap (λ c. 1 - c) (bit_at_xor a b i) ∙ law (bit_at a i) (bit_at b i) (bit_at-lt a i) (bit_at-lt b i)
  where
    law : (p q : ℕ) → p < 2 → q < 2 → 1 - (p + q) % 2 ≡ (p + (1 - q)) % 2
    law p q h j = omega arith
bit-one (negsuc a) (pos b) i = ap (λ c. 1 - c) (bit_at_xor a b i) ∙ law (bit_at a i) (bit_at b i) (bit_at-lt a i) (bit_at-lt b i)
  where
    law : (p q : ℕ) → p < 2 → q < 2 → 1 - (p + q) % 2 ≡ ((1 - p) + q) % 2
    law p q h j = omega arith
bit-one (negsuc a) (negsuc b) i = bit_at_xor a b i ∙ law (bit_at a i) (bit_at b i) (bit_at-lt a i) (bit_at-lt b i)
  where
    law : (p q : ℕ) → p < 2 → q < 2 → (p + q) % 2 ≡ ((1 - p) + (1 - q)) % 2
    law p q h j = omega arith

-- ---- classes

-- the operator gives each bit of its result from those of its operands
abbrev pub IsByBits : (ℤ → ℤ → ℤ) → (ℕ → ℕ → ℕ) → Type 0
IsByBits f g = (x y : ℤ) (i : ℕ) → bit_of (f x y) i ≡ g (bit_of x i) (bit_of y i)

low-is : (k : ℕ) (x : ℤ) → pos (low k x) ≡ int_rem_euclid x (pos (2 ^ k))
low-is k (pos a) = refl
low-is k (negsuc a) = refl

one-up : (k : ℕ) → pos 1 ≤ℤ pos (2 ^ k)
one-up k = let p = pow_pos k in omega (arith, ints)

pos-same : (m n : ℕ) → pos m ≡ pos n → m ≡ n
pos-same m n e = omega (arith, ints)

same-low : (k : ℕ) (r x : ℤ) → InResidue (class_of r (pos (2 ^ k))) x → low k x ≡ low k r
same-low k r x h =
    let one = one-up k in
    let m = pos (2 ^ k) in
    let e : int_rem_euclid x m ≡ int_rem_euclid r m =
    rem_unique x m (int_rem_euclid r m) one (in_shifted r (int_rem_euclid r m) m x (rem_same r m one) h) (rem_low r m one) (rem_high r m one) in
    pos-same (low k x) (low k r) (low-is k x ∙ e ∙ sym (low-is k r))

from-low : (k : ℕ) (r x : ℤ) → low k x ≡ low k r → InResidue (class_of r (pos (2 ^ k))) x
from-low k r x h =
    let one = one-up k in
    let m = pos (2 ^ k) in
    let s = int_rem_euclid r m in
    let e : int_rem_euclid x m ≡ s = sym (low-is k x) ∙ ap pos h ∙ low-is k r in
    in_from_off r m x (multiple_along m ((x -ℤ s) -ℤ (r -ℤ s)) (x -ℤ r) (apart x r s) (multiple_sub m (x -ℤ s) (r -ℤ s) (off_from_in s m x (subst (λ (t : ℤ). InResidue (class_of t m) x) e (rem_same x m one))) (off_from_in s m r (rem_same r m one))))
  where
    apart : (x r s : ℤ) → (x -ℤ s) -ℤ (r -ℤ s) ≡ x -ℤ r
    apart x r s = omega (arith, ints)

-- so its low bits are given by the low bits of its operands
pub low_bits : (f : ℤ → ℤ → ℤ) (g : ℕ → ℕ → ℕ) → IsByBits f g → (k : ℕ) (r s x y : ℤ) → InResidue (class_of r (pos (2 ^ k))) x → InResidue (class_of s (pos (2 ^ k))) y → InResidue (class_of (f r s) (pos (2 ^ k))) (f x y)
low_bits f g by k r s x y p q =
    from-low k (f r s) (f x y) (same_from_bits_below k _ _ (low-below k (f x y)) (low-below k (f r s))
    (λ i h. bit-low k (f x y) i h ∙ by x y i ∙ ap (λ b. g b (bit_of y i)) (bits r x p i h) ∙ ap (g (bit_of r i)) (bits s y q i h) ∙ sym (by r s i) ∙ sym (bit-low k (f r s) i h)))
  where
    bits : (r x : ℤ) → InResidue (class_of r (pos (2 ^ k))) x → (i : ℕ) → i < k → bit_of x i ≡ bit_of r i
    bits r x p i h = sym (bit-low k x i h) ∙ ap (λ n. bit_at n i) (same-low k r x p) ∙ bit-low k r i h

-- ---- the classes that the operators answer

-- a power of two that may be a modulus
pub power_low : (m n step : ℤ) → IsCommonPower m n step → pos 0 ≤ℤ step
power_low m n step p = let q = pow_pos p.bits in subst (λ (t : ℤ). pos 0 ≤ℤ t) (sym p.divides.is) (omega (arith, ints))

pub power_high : (m n step : ℤ) → IsCommonPower m n step → step ≤ℤ pos (2 ^ 100)
power_high m n step p = let most : 2 ^ p.bits ≤ 2 ^ 100 = pow-le-pow_right (omega arith) p.small in subst (λ (t : ℤ). t ≤ℤ pos (2 ^ 100)) (sym p.divides.is) (omega (arith, ints))

-- what the operator makes of the remainders, up to a multiple of the power
known_by : (f : ℤ → ℤ → ℤ) (g : ℕ → ℕ → ℕ) → IsByBits f g → (a b v o t : Residue) (step : ℤ) → IsCommonPower a.modulus b.modulus step → InResidue v (f a.rem b.rem) → IsClassOf (pos 0) step o → IsByCommonStep v.modulus o.modulus (v.rem +ℤ o.rem) t → (x y : ℤ) → InResidue a x → InResidue b y → InResidue t (f x y)
known_by f g by a b v o t step p at of total x y h k =
    let m = pos (2 ^ p.bits) in
    let is = p.divides.is in
    let in_a : InResidue (class_of a.rem m) x = in_wider a.rem a.modulus m x (subst (λ (z : ℤ). IsMultiple z a.modulus) is p.divides.first) h in
    let in_b : InResidue (class_of b.rem m) y = in_wider b.rem b.modulus m y (subst (λ (z : ℤ). IsMultiple z b.modulus) is p.divides.second) k in
    let off = off_from_in (f a.rem b.rem) m (f x y) (low_bits f g by p.bits a.rem b.rem x y in_a in_b) in
    let rest : InResidue (class_of (pos 0) step) (f x y -ℤ f a.rem b.rem) = in_from_off (pos 0) step (f x y -ℤ f a.rem b.rem) (multiple_along step (f x y -ℤ f a.rem b.rem) _ (less_none (f x y -ℤ f a.rem b.rem)) (subst (λ (z : ℤ). IsMultiple z (f x y -ℤ f a.rem b.rem)) (sym is) off)) in
    subst (InResidue t) (again (f x y) (f a.rem b.rem)) (sum_holds v o t (f a.rem b.rem) (f x y -ℤ f a.rem b.rem) total at (in_class_of (pos 0) step (f x y -ℤ f a.rem b.rem) o of rest))
  where
    less_none : (z : ℤ) → z ≡ z -ℤ pos 0
    less_none z = omega (arith, ints)

    again : (n m : ℤ) → m +ℤ (n -ℤ m) ≡ n
    again n m = omega (arith, ints)

some-same : (n m : ℤ) → Some n ≡ Some m → n ≡ m
some-same n m e = cc

pub known_holds : (op : NOp) → IsLogical op → (a b v o t : Residue) (step : ℤ) → IsCommonPower a.modulus b.modulus step → ((n : ℤ) → binary_value op a.rem b.rem ≡ Some n → InResidue v n) → IsClassOf (pos 0) step o → IsByCommonStep v.modulus o.modulus (v.rem +ℤ o.rem) t → (x y n : ℤ) → InResidue a x → InResidue b y → binary_value op x y ≡ Some n → InResidue t n
known_holds And l a b v o t step p at of total x y n h k e = subst (InResidue t) (some-same _ n e) (known_by bits_of_both min bit-both a b v o t step p (at _ refl) of total x y h k)
known_holds Or l a b v o t step p at of total x y n h k e = subst (InResidue t) (some-same _ n e) (known_by bits_of_either max bit-either a b v o t step p (at _ refl) of total x y h k)
known_holds Xor l a b v o t step p at of total x y n h k e = subst (InResidue t) (some-same _ n e) (known_by bits_of_one (λ b c. (b + c) % 2) bit-one a b v o t step p (at _ refl) of total x y h k)
known_holds op l a b v o t step p at of total x y n h k e = absurd l

-- no bits that both have where one of them is 0
both-zero-left : (y : ℤ) → bits_of_both (pos 0) y ≡ pos 0
both-zero-left (pos b) = let h = and_le_l 0 b in ap pos (omega arith)
both-zero-left (negsuc b) = let h = and_le_l 0 b in let s = xor_add_and 0 (bit_and 0 b) in ap pos (omega arith)

both-zero-right : (x : ℤ) → bits_of_both x (pos 0) ≡ pos 0
both-zero-right (pos b) = let h = and_le_r b 0 in ap pos (omega arith)
both-zero-right (negsuc b) = let h = and_le_l 0 b in let s = xor_add_and 0 (bit_and 0 b) in ap pos (omega arith)

-- each number of the class is a multiple of a power that divides its remainder and modulus
multiple_in : (a : Residue) (step x : ℤ) → IsMultiple step a.rem → IsMultiple step a.modulus → InResidue a x → InResidue (class_of (pos 0) step) x
multiple_in a step x p q (k, e) = in_from_off (pos 0) step x (multiple_along step (a.rem +ℤ (k *ℤ a.modulus)) _ (less (a.rem +ℤ (k *ℤ a.modulus)) x (sym e)) (multiple_add step a.rem (k *ℤ a.modulus) p (multiple_times step k a.modulus q)))
  where
    less : (z x : ℤ) → z ≡ x → z ≡ x -ℤ pos 0
    less z x e = omega (arith, ints)

pub zero_left : (a r : Residue) (step x y n : ℤ) → IsCommonPower a.rem a.modulus step → IsClassOf (pos 0) step r → InResidue a x → binary_value And x y ≡ Some n → InResidue r n
zero_left a r step x y n p is h e =
    let m = pos (2 ^ p.bits) in
    let zero : InResidue (class_of (pos 0) m) x = subst (λ (z : ℤ). InResidue (class_of (pos 0) z) x) p.divides.is (multiple_in a step x p.divides.first p.divides.second h) in
    let low = low_bits bits_of_both min bit-both p.bits (pos 0) y x y zero (in_itself y m) in
    let none : InResidue (class_of (pos 0) step) (bits_of_both x y) = subst (λ (z : ℤ). InResidue (class_of (pos 0) z) (bits_of_both x y)) (sym p.divides.is) (subst (λ (z : ℤ). InResidue (class_of z m) (bits_of_both x y)) (both-zero-left y) low) in
    subst (InResidue r) (some-same _ n e) (in_class_of (pos 0) step (bits_of_both x y) r is none)

pub zero_right : (b r : Residue) (step x y n : ℤ) → IsCommonPower b.rem b.modulus step → IsClassOf (pos 0) step r → InResidue b y → binary_value And x y ≡ Some n → InResidue r n
zero_right b r step x y n p is h e =
    let m = pos (2 ^ p.bits) in
    let zero : InResidue (class_of (pos 0) m) y = subst (λ (z : ℤ). InResidue (class_of (pos 0) z) y) p.divides.is (multiple_in b step y p.divides.first p.divides.second h) in
    let low = low_bits bits_of_both min bit-both p.bits x (pos 0) x y (in_itself x m) zero in
    let none : InResidue (class_of (pos 0) step) (bits_of_both x y) = subst (λ (z : ℤ). InResidue (class_of (pos 0) z) (bits_of_both x y)) (sym p.divides.is) (subst (λ (z : ℤ). InResidue (class_of z m) (bits_of_both x y)) (both-zero-right x) low) in
    subst (InResidue r) (some-same _ n e) (in_class_of (pos 0) step (bits_of_both x y) r is none)

-- ---- powers of two that divide

pub next_fits : (k : ℕ) (step : ℤ) → k < 100 → step ≡ pos (2 ^ k) → (step *ℤ pos 2) ≡ pos (2 ^ suc k)
next_fits k step h is = let e : 2 ^ suc k ≡ 2 ^ k * 2 = pow-suc 2 k in ap (λ (z : ℤ). z *ℤ pos 2) is ∙ twice (2 ^ k) (2 ^ suc k) e
  where
    twice : (p q : ℕ) → q ≡ p * 2 → pos p *ℤ pos 2 ≡ pos q
    twice p q e = omega (arith, ints)

pub below_limit : (k : ℕ) → k < 100 → 2 ^ suc k ≤ 2 ^ 100
below_limit k h = let l : suc k ≤ 100 = omega arith in pow-le-pow_right (omega arith) l

pub no_remainder : (n m : ℤ) → pos 1 ≤ℤ m → InResidue (class_of (pos 0) m) n → IsMultiple m n
no_remainder n m h p = multiple_along m (n -ℤ pos 0) n (all n) (off_from_in (pos 0) m n p)
  where
    all : (n : ℤ) → n -ℤ pos 0 ≡ n
    all n = omega (arith, ints)

pub power_at : (k : ℕ) (m n step : ℤ) → k ≤ 100 → IsPowerDividing k m n step → IsCommonPower m n step
power_at k m n step h d = record { bits = k; small = h; divides = d }

pub power_one : (m n : ℤ) → IsPowerDividing 0 m n (pos 1)
power_one m n = record { is = refl; first = (m, omega (arith, ints)); second = (n, omega (arith, ints)) }

pub step_fits : (k : ℕ) (m n step : ℤ) → k < 100 → IsPowerDividing k m n step → FitsSigned w128 (step *ℤ pos 2)
step_fits k m n step h d = let most = below_limit k h in subst (λ (z : ℤ). FitsSigned w128 z) (sym (next_fits k step h d.is)) (fits (2 ^ suc k) most)
  where
    fits : (q : ℕ) → q ≤ 2 ^ 100 → FitsSigned w128 (pos q)
    fits q h = omega (arith, ints)

pub step_positive : (k : ℕ) (m n step : ℤ) → k < 100 → IsPowerDividing k m n step → pos 1 ≤ℤ (step *ℤ pos 2)
step_positive k m n step h d = subst (λ (z : ℤ). pos 1 ≤ℤ z) (sym (next_fits k step h d.is)) (one-up (suc k))

is_zero : (y : ℤ) → FitsSigned w128 y → of_z w128 y ≡ 0 → y ≡ pos 0
is_zero y f e = omega (arith, ints)

-- the next power divides where both remainders by it are 0
pub next_power : (k : ℕ) (m n step p q : ℤ) → k < 100 → IsPowerDividing k m n step → FitsSigned w128 p → FitsSigned w128 q → of_z w128 p ≡ 0 → of_z w128 q ≡ 0 → InResidue (class_of p (step *ℤ pos 2)) m → InResidue (class_of q (step *ℤ pos 2)) n → IsPowerDividing (k + 1) m n (step *ℤ pos 2)
next_power k m n step p q h d f g e i u v =
    let one = step_positive k m n step h d in
    let zero_p = is_zero p f e in
    let zero_q = is_zero q g i in
    record {
      is = next_fits k step h d.is ∙ ap (λ (j : ℕ). pos (2 ^ j)) (more k);
      first = no_remainder m (step *ℤ pos 2) one (subst (λ (z : ℤ). InResidue (class_of z (step *ℤ pos 2)) m) zero_p u);
      second = no_remainder n (step *ℤ pos 2) one (subst (λ (z : ℤ). InResidue (class_of z (step *ℤ pos 2)) n) zero_q v);
    }
  where
    more : (k : ℕ) → suc k ≡ k + 1
    more k = omega arith
