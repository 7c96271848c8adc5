-- The Chinese remainder theorem: the numbers that are in two classes.
use Rattle.std.proofs.Common.{◌≡◌, ◌^◌, ◌≤◌, ◌+◌, ℤ, pos, negsuc, ◌+ℤ◌, ◌-ℤ◌, ◌*ℤ◌, neg_ℤ, ◌≤ℤ◌, ◌<ℤ◌, arith, ap, sym, ◌∙◌, subst}
use Rattle.std.proofs.lemmas.Int.{ints, by_lt_z, quot-rem, rem_below}
use Rattle.std.specs.Int.RustNames.{int_div, int_rem}
use Rattle.std.proofs.Math.Nat.{mul-le-mul_left}
use Rattle.std.proofs.Math.IntN.{*ℤ_comm, *ℤ-zero}
use Rattle.std.proofs.Common.{FitsSigned}
use mir.Syntax.{w128}
use Rattle.num_api.specs.declared.message.Residue.{Residue}
use Rattle.num_api.specs.Residues.{InResidue, IsMultiple}
use Rattle.num_api.specs.Residues.{class_of}
use Rattle.residues.specs.Classes.{IsClassOf, IsGreatestDivisor, IsCoprime, IsTurn, SharesBy, IsMeet, Meets, LiesIn}
use Rattle.num_api.proofs.Rings.{add_mul, mul_add, neg_mul, mul_neg, mul_assoc}
use Rattle.num_api.proofs.Multiples.{multiple_along, multiple_add, multiple_sub, multiple_neg, multiple_times, times_multiple, zero_multiple, self_multiple, multiple_trans, multiple_mul, off_from_in, in_from_off, in_itself}
use Rattle.residues.proofs.Members.{in_class_of}
use Rattle.residues.proofs.Products.{not_negative_product}
use Rattle.residues.proofs.Lattice.{multiple_of_zero}
use Rattle.num_api.proofs.Remainders.{times_above, small_multiple}
use Rattle.residues.proofs.Divisors.{divisor_positive, divisor_bound}

-- ---- division without a remainder

pub mul_cancel : (g a b : ℤ) → pos 1 ≤ℤ g → a *ℤ g ≡ b *ℤ g → a ≡ b
mul_cancel g a b h e =
    let split = add_mul a (neg_ℤ b) g in
    let turned = neg_mul b g in
    by_lt_z a b
    (λ p.
    let d = times_above (b -ℤ a) g (omega (arith, ints)) (omega (arith, ints)) in
    let f = add_mul b (neg_ℤ a) g in
    let k = neg_mul a g in
    absurd (omega (arith, ints)))
    (λ p. by_lt_z b a
    (λ q. let d = times_above (a -ℤ b) g (omega (arith, ints)) (omega (arith, ints)) in absurd (omega (arith, ints)))
    (λ q. omega (arith, ints)))

pub exact_div : (a d : ℤ) → pos 1 ≤ℤ d → IsMultiple d a → int_div a d *ℤ d ≡ a
exact_div a d h k =
    let e = quot-rem a d in
    let r = rem_below a d (omega (arith, ints)) in
    let off : IsMultiple d (int_rem a d) = multiple_along d (a -ℤ (int_div a d *ℤ d)) _ (omega (arith, ints)) (multiple_sub d a (int_div a d *ℤ d) k (multiple_times d (int_div a d) d (self_multiple d))) in
    let z : int_rem a d ≡ pos 0 = small_multiple d (int_rem a d) off (omega (arith, ints)) (omega (arith, ints)) in
    omega (arith, ints)

-- a quotient of a number from 0 to below a product with the divisor
pub quotient_bounds : (t d a m : ℤ) → pos 1 ≤ℤ d → t *ℤ d ≡ a → pos 0 ≤ℤ a → a <ℤ (m *ℤ d) → (pos 0 ≤ℤ t) × (t <ℤ m)
quotient_bounds t d a m h e low high = (at_least, below)
  where
    at_least : pos 0 ≤ℤ t
    at_least = by_lt_z t (pos 0)
        (λ p.
        let u = times_above (neg_ℤ t) d (omega (arith, ints)) (omega (arith, ints)) in
        let v = neg_mul t d in
        absurd (omega (arith, ints)))
        (λ p. p)

    below : t <ℤ m
    below = by_lt_z t m
        (λ p. p)
        (λ p.
        let u = non_negative (t -ℤ m) d (omega (arith, ints)) (omega (arith, ints)) in
        let v = add_mul t (neg_ℤ m) d in
        let w = neg_mul m d in
        absurd (omega (arith, ints)))
      where
        non_negative : (x y : ℤ) → pos 0 ≤ℤ x → pos 0 ≤ℤ y → pos 0 ≤ℤ (x *ℤ y)
        non_negative (pos x) (pos y) i j = omega (arith, ints)
        non_negative (pos x) (negsuc y) i j = absurd (omega (arith, ints))
        non_negative (negsuc x) y i j = absurd (omega (arith, ints))

-- ---- numbers without a common divisor

pub coprime_step : (a b r : ℤ) → InResidue (class_of r a) b → IsCoprime a b → IsCoprime r a
coprime_step a b r (k, p) c = record { combined = from c.combined }
  where
    from : (x : ℤ) × (y : ℤ) × (pos 1 ≡ (x *ℤ a) +ℤ (y *ℤ b)) → (x : ℤ) × (y : ℤ) × (pos 1 ≡ (x *ℤ r) +ℤ (y *ℤ a))
    from (x, y, q) =
        let e : y *ℤ b ≡ (y *ℤ r) +ℤ (y *ℤ (k *ℤ a)) = ap (λ (t : ℤ). y *ℤ t) p ∙ mul_add y r (k *ℤ a) in
        let f = mul_assoc y k a in
        let g = add_mul x (y *ℤ k) a in
        (y, x +ℤ (y *ℤ k), omega (arith, ints))

pub coprime_swap : (a b : ℤ) → IsCoprime a b → IsCoprime b a
coprime_swap a b c = record { combined = from c.combined }
  where
    from : (x : ℤ) × (y : ℤ) × (pos 1 ≡ (x *ℤ a) +ℤ (y *ℤ b)) → (x : ℤ) × (y : ℤ) × (pos 1 ≡ (x *ℤ b) +ℤ (y *ℤ a))
    from (x, y, q) = (y, x, omega (arith, ints))

-- only 1 is without a common divisor with 0
pub coprime_zero : (a b : ℤ) → IsCoprime a b → a ≡ pos 0 → pos 1 ≤ℤ b → b ≡ pos 1
coprime_zero a b c e h = from c.combined
  where
    from : (x : ℤ) × (y : ℤ) × (pos 1 ≡ (x *ℤ a) +ℤ (y *ℤ b)) → b ≡ pos 1
    from (x, y, q) =
        let z : x *ℤ a ≡ pos 0 = ap (λ (t : ℤ). x *ℤ t) e ∙ *ℤ-zero x in
        let one : IsMultiple b (pos 1) = (y, omega (arith, ints)) in
        let u = divisor_bound b (pos 1) one (omega (arith, ints)) (omega (arith, ints)) in
        omega (arith, ints)

-- the quotients by the greatest common divisor have no common divisor
pub coprime_quotients : (m n g p q : ℤ) → IsGreatestDivisor m n g → pos 1 ≤ℤ g → p *ℤ g ≡ m → q *ℤ g ≡ n → IsCoprime p q
coprime_quotients m n g p q d h e f = record { combined = from d.combined }
  where
    from : (x : ℤ) × (y : ℤ) × (g ≡ (x *ℤ m) +ℤ (y *ℤ n)) → (x : ℤ) × (y : ℤ) × (pos 1 ≡ (x *ℤ p) +ℤ (y *ℤ q))
    from (x, y, c) =
        let u : x *ℤ m ≡ (x *ℤ p) *ℤ g = ap (λ (t : ℤ). x *ℤ t) (sym e) ∙ sym (mul_assoc x p g) in
        let v : y *ℤ n ≡ (y *ℤ q) *ℤ g = ap (λ (t : ℤ). y *ℤ t) (sym f) ∙ sym (mul_assoc y q g) in
        let w = add_mul (x *ℤ p) (y *ℤ q) g in
        (x, y, mul_cancel g (pos 1) ((x *ℤ p) +ℤ (y *ℤ q)) h (omega (arith, ints)))

-- ---- common multiples

-- what both divide, the product of one of them with the other's quotient divides
pub common_multiple : (m n g q z : ℤ) → IsGreatestDivisor m n g → pos 1 ≤ℤ g → q *ℤ g ≡ m → IsMultiple m z → IsMultiple n z → IsMultiple (q *ℤ n) z
common_multiple m n g q z d h e i j =
    let big = q *ℤ n in
    let by_m : IsMultiple (big *ℤ g) (z *ℤ m) =
    multiple_along (big *ℤ g) (q *ℤ (z *ℤ g)) (z *ℤ m) (sym (mul_assoc q z g) ∙ ap (λ (t : ℤ). t *ℤ g) (*ℤ_comm q z) ∙ mul_assoc z q g ∙ ap (λ (t : ℤ). z *ℤ t) e)
    (multiple_along (big *ℤ g) ((q *ℤ z) *ℤ g) (q *ℤ (z *ℤ g)) (mul_assoc q z g) (multiple_mul big g (q *ℤ z) g (multiple_mul q n q z (self_multiple q) j) (self_multiple g))) in
    let by_n : IsMultiple (big *ℤ g) (z *ℤ n) =
    multiple_along (big *ℤ g) _ _ (*ℤ_comm n z)
    (subst (λ (t : ℤ). IsMultiple t (n *ℤ z)) (*ℤ_comm n m ∙ ap (λ (t : ℤ). t *ℤ n) (sym e) ∙ mul_assoc q g n ∙ ap (λ (t : ℤ). q *ℤ t) (*ℤ_comm g n) ∙ sym (mul_assoc q n g)) (multiple_mul n m n z (self_multiple n) i)) in
    from d.combined by_m by_n
  where
    from : (x : ℤ) × (y : ℤ) × (g ≡ (x *ℤ m) +ℤ (y *ℤ n)) → IsMultiple ((q *ℤ n) *ℤ g) (z *ℤ m) → IsMultiple ((q *ℤ n) *ℤ g) (z *ℤ n) → IsMultiple (q *ℤ n) z
    from (x, y, c) u v =
        let big = q *ℤ n in
        let sum : IsMultiple (big *ℤ g) ((x *ℤ (z *ℤ m)) +ℤ (y *ℤ (z *ℤ n))) = multiple_add (big *ℤ g) _ _ (multiple_times (big *ℤ g) x (z *ℤ m) u) (multiple_times (big *ℤ g) y (z *ℤ n) v) in
        let e1 : z *ℤ g ≡ (z *ℤ (x *ℤ m)) +ℤ (z *ℤ (y *ℤ n)) = ap (λ (t : ℤ). z *ℤ t) c ∙ mul_add z (x *ℤ m) (y *ℤ n) in
        let e2 : z *ℤ (x *ℤ m) ≡ x *ℤ (z *ℤ m) = sym (mul_assoc z x m) ∙ ap (λ (t : ℤ). t *ℤ m) (*ℤ_comm z x) ∙ mul_assoc x z m in
        let e3 : z *ℤ (y *ℤ n) ≡ y *ℤ (z *ℤ n) = sym (mul_assoc z y n) ∙ ap (λ (t : ℤ). t *ℤ n) (*ℤ_comm z y) ∙ mul_assoc y z n in
        divide (multiple_along (big *ℤ g) _ (z *ℤ g) (omega (arith, ints)) sum)
      where
        divide : IsMultiple ((q *ℤ n) *ℤ g) (z *ℤ g) → IsMultiple (q *ℤ n) z
        divide (w, r) = (w, mul_cancel g z (w *ℤ (q *ℤ n)) h (r ∙ sym (mul_assoc w (q *ℤ n) g)))

-- ---- turns

pub turn_of_zero : (step gap modulus : ℤ) → IsCoprime step modulus → step ≡ pos 0 → pos 0 ≤ℤ gap → gap <ℤ modulus → IsTurn step gap modulus (pos 0)
turn_of_zero step gap modulus c e low high =
    let u : modulus ≡ pos 1 = coprime_zero step modulus c e (omega (arith, ints)) in
    let z : step *ℤ pos 0 ≡ pos 0 = *ℤ-zero step in
    record {
      low = omega (arith, ints);
      high = omega (arith, ints);
      solves = multiple_along modulus (pos 0) ((step *ℤ pos 0) -ℤ gap) (omega (arith, ints)) (zero_multiple modulus);
    }

-- the sum that the step divides
pub turn_sum : (step gap modulus rest turned s : ℤ) → InResidue (class_of rest step) modulus → InResidue (class_of turned step) (neg_ℤ gap) → IsMultiple step ((rest *ℤ s) -ℤ turned) → IsMultiple step ((modulus *ℤ s) +ℤ gap)
turn_sum step gap modulus rest turned s h k d =
    let u : IsMultiple step ((modulus -ℤ rest) *ℤ s) = times_multiple step (modulus -ℤ rest) s (off_from_in rest step modulus h) in
    let v : IsMultiple step (neg_ℤ gap -ℤ turned) = off_from_in turned step (neg_ℤ gap) k in
    let w = multiple_sub step _ _ (multiple_add step ((modulus -ℤ rest) *ℤ s) ((rest *ℤ s) -ℤ turned) u d) v in
    let e = add_mul modulus (neg_ℤ rest) s in
    let f = neg_mul rest s in
    multiple_along step _ ((modulus *ℤ s) +ℤ gap) (omega (arith, ints)) w

-- its size
pub turn_size : (step gap modulus s : ℤ) → pos 0 ≤ℤ gap → gap <ℤ modulus → pos 0 ≤ℤ s → s <ℤ step → (pos 0 ≤ℤ ((modulus *ℤ s) +ℤ gap)) × (((modulus *ℤ s) +ℤ gap) <ℤ (modulus *ℤ step))
turn_size step gap (pos m) (pos s) low high h k =
    let e = mul_add (pos m) (pos s) (pos 1) in
    let f : (pos m *ℤ pos (s + 1)) ≤ℤ (pos m *ℤ step) = larger step k in
    (omega (arith, ints), omega (arith, ints))
  where
    larger : (t : ℤ) → pos s <ℤ t → (pos m *ℤ pos (s + 1)) ≤ℤ (pos m *ℤ t)
    larger (pos t) i = let g : s + 1 ≤ t = omega (arith, ints) in omega (arith, ints, mul-le-mul_left m g)
    larger (negsuc t) i = absurd (omega (arith, ints))
turn_size step gap (pos m) (negsuc s) low high h k = absurd (omega (arith, ints))
turn_size step gap (negsuc m) s low high h k = absurd (omega (arith, ints))

pub turn_step : (step gap modulus s : ℤ) → pos 1 ≤ℤ step → pos 0 ≤ℤ gap → gap <ℤ modulus → pos 0 ≤ℤ s → s <ℤ step → IsMultiple step ((modulus *ℤ s) +ℤ gap) → IsTurn step gap modulus (int_div ((modulus *ℤ s) +ℤ gap) step)
turn_step step gap modulus s one low high h k d =
    let t = int_div ((modulus *ℤ s) +ℤ gap) step in
    let e : t *ℤ step ≡ (modulus *ℤ s) +ℤ gap = exact_div ((modulus *ℤ s) +ℤ gap) step one d in
    let b = turn_size step gap modulus s low high h k in
    let r = quotient_bounds t step ((modulus *ℤ s) +ℤ gap) modulus one e b.0 b.1 in
    let c = *ℤ_comm step t in
    record {
      low = r.0;
      high = r.1;
      solves = multiple_along modulus (modulus *ℤ s) ((step *ℤ t) -ℤ gap) (omega (arith, ints)) (times_multiple modulus modulus s (self_multiple modulus));
    }

-- products of numbers from 0 to 2^50
pub small_product : (a b : ℤ) → pos 0 ≤ℤ a → a ≤ℤ pos (2 ^ 50) → pos 0 ≤ℤ b → b ≤ℤ pos (2 ^ 50) → (pos 0 ≤ℤ (a *ℤ b)) × ((a *ℤ b) ≤ℤ pos (2 ^ 100))
small_product (pos a) (pos b) h i j k = let e : b ≤ 2 ^ 50 = omega (arith, ints) in let f = mul-le-mul_left a e in (omega (arith, ints), omega (arith, ints))
small_product (pos a) (negsuc b) h i j k = absurd (omega (arith, ints))
small_product (negsuc a) b h i j k = absurd (omega (arith, ints))

-- ---- a number in both classes

pub shares_swap : (a b : Residue) (g : ℤ) → SharesBy a b g → SharesBy b a g
shares_swap a b g d = record {
  first = d.second;
  second = d.first;
  divisor = record { not_negative = d.divisor.not_negative; first = d.divisor.second; second = d.divisor.first; combined = from d.divisor.combined };
  shares = multiple_along g (neg_ℤ (b.rem -ℤ a.rem)) (a.rem -ℤ b.rem) (omega (arith, ints)) (multiple_neg g (b.rem -ℤ a.rem) d.shares);
}
  where
    from : (x : ℤ) × (y : ℤ) × (g ≡ (x *ℤ a.modulus) +ℤ (y *ℤ b.modulus)) → (x : ℤ) × (y : ℤ) × (g ≡ (x *ℤ b.modulus) +ℤ (y *ℤ a.modulus))
    from (x, y, p) = (y, x, omega (arith, ints))

pub common_positive : (a b : Residue) (g : ℤ) → SharesBy a b g → pos 1 ≤ℤ g
common_positive a b g d = divisor_positive g a.modulus d.divisor.first d.first d.divisor.not_negative

-- the least common multiple is the same from either side
pub least_multiple_swap : (m n g p q : ℤ) → q *ℤ g ≡ m → p *ℤ g ≡ n → q *ℤ n ≡ p *ℤ m
least_multiple_swap m n g p q e f =
    ap (λ (t : ℤ). q *ℤ t) (sym f) ∙ sym (mul_assoc q p g) ∙ ap (λ (t : ℤ). t *ℤ g) (*ℤ_comm q p) ∙ mul_assoc p q g ∙ ap (λ (t : ℤ). p *ℤ t) e

-- a quotient of a number above 0 lies above 0
pub quotient_positive : (p g n : ℤ) → p *ℤ g ≡ n → pos 1 ≤ℤ n → pos 1 ≤ℤ g → pos 1 ≤ℤ p
quotient_positive p g n e h k = by_lt_z (pos 0) p
    (λ u. omega (arith, ints))
    (λ u.
    let v = not_negative_product (neg_ℤ p) g (omega (arith, ints)) (omega (arith, ints)) in
    let w = neg_mul p g in
    absurd (omega (arith, ints)))

-- the period is small where the least common multiple is a modulus, and the second modulus the smaller one
pub small_period : (m n g p q : ℤ) → pos 1 ≤ℤ g → pos 1 ≤ℤ n → q *ℤ g ≡ m → p *ℤ g ≡ n → n ≤ℤ m → (q *ℤ n) ≤ℤ pos (2 ^ 100) → p ≤ℤ pos (2 ^ 50)
small_period m n g p q one pn e f less small = by_lt_z (pos (2 ^ 50)) p
    (λ u.
    let p1 : pos 1 ≤ℤ p = omega (arith, ints) in
    let up_to = in_order (p -ℤ q) g one (omega (arith, ints, add_mul p (neg_ℤ q) g, neg_mul q g)) in
    let ge : pos (2 ^ 50 + 1) ≤ℤ q = omega (arith, ints) in
    let n_big = times_above g p one (omega (arith, ints)) in
    let n_is : (g *ℤ p) ≡ n = *ℤ_comm g p ∙ f in
    let nb : pos (2 ^ 50 + 1) ≤ℤ n = omega (arith, ints) in
    let wide = wide_product q n ge nb in
    absurd (omega (arith, ints)))
    (λ u. u)
  where
    in_order : (x y : ℤ) → pos 1 ≤ℤ y → (x *ℤ y) ≤ℤ pos 0 → x ≤ℤ pos 0
    in_order x y h k = by_lt_z (pos 0) x (λ u. let v = times_above x y (omega (arith, ints)) (omega (arith, ints)) in absurd (omega (arith, ints))) (λ u. u)

    wide_product : (x y : ℤ) → pos (2 ^ 50 + 1) ≤ℤ x → pos (2 ^ 50 + 1) ≤ℤ y → pos (2 ^ 100) <ℤ (x *ℤ y)
    wide_product (pos x) (pos y) h k =
        let i : 2 ^ 50 + 1 ≤ x = omega (arith, ints) in
        let j : 2 ^ 50 + 1 ≤ y = omega (arith, ints) in
        let l = mul-le-mul_left x j in
        omega (arith, ints)
    wide_product (pos x) (negsuc y) h k = absurd (omega (arith, ints))
    wide_product (negsuc x) y h k = absurd (omega (arith, ints))

-- the remainder of the difference is a multiple of the common divisor too
pub common_in_rest : (a b : Residue) (g r : ℤ) → SharesBy a b g → InResidue (class_of r b.modulus) (b.rem -ℤ a.rem) → IsMultiple g r
common_in_rest a b g r d h =
    multiple_along g ((b.rem -ℤ a.rem) -ℤ ((b.rem -ℤ a.rem) -ℤ r)) r (omega (arith, ints))
    (multiple_sub g (b.rem -ℤ a.rem) ((b.rem -ℤ a.rem) -ℤ r) d.shares (multiple_trans g b.modulus _ d.divisor.second (off_from_in r b.modulus (b.rem -ℤ a.rem) h)))

-- so many times the first modulus, added to the first remainder, is in the second class
pub in_second : (a b : Residue) (g p q rest r gap t : ℤ) → q *ℤ g ≡ a.modulus → p *ℤ g ≡ b.modulus → gap *ℤ g ≡ r → InResidue (class_of rest p) q → InResidue (class_of r b.modulus) (b.rem -ℤ a.rem) → IsTurn rest gap p t → InResidue b (a.rem +ℤ (a.modulus *ℤ t))
in_second a b g p q rest r gap t e f k h i turn =
    let u : IsMultiple p ((q -ℤ rest) *ℤ t) = times_multiple p (q -ℤ rest) t (off_from_in rest p q h) in
    let v = add_mul q (neg_ℤ rest) t in
    let w = neg_mul rest t in
    let x : IsMultiple p ((q *ℤ t) -ℤ gap) = multiple_along p (((q -ℤ rest) *ℤ t) +ℤ ((rest *ℤ t) -ℤ gap)) _ (omega (arith, ints)) (multiple_add p ((q -ℤ rest) *ℤ t) ((rest *ℤ t) -ℤ gap) u turn.solves) in
    let y : IsMultiple b.modulus (((q *ℤ t) -ℤ gap) *ℤ g) = subst (λ (z : ℤ). IsMultiple z (((q *ℤ t) -ℤ gap) *ℤ g)) f (multiple_mul p g ((q *ℤ t) -ℤ gap) g x (self_multiple g)) in
    let e1 = add_mul (q *ℤ t) (neg_ℤ gap) g in
    let e2 = neg_mul gap g in
    let e3 : (q *ℤ t) *ℤ g ≡ a.modulus *ℤ t = ap (λ (z : ℤ). z *ℤ g) (*ℤ_comm q t) ∙ mul_assoc t q g ∙ ap (λ (z : ℤ). t *ℤ z) e ∙ *ℤ_comm t a.modulus in
    in_from_off b.rem b.modulus (a.rem +ℤ (a.modulus *ℤ t))
    (multiple_along b.modulus ((((q *ℤ t) -ℤ gap) *ℤ g) -ℤ ((b.rem -ℤ a.rem) -ℤ r)) _ (omega (arith, ints)) (multiple_sub b.modulus _ _ y (off_from_in r b.modulus (b.rem -ℤ a.rem) i)))

pub in_first : (a : Residue) (t : ℤ) → InResidue a (a.rem +ℤ (a.modulus *ℤ t))
in_first a t = in_from_off a.rem a.modulus (a.rem +ℤ (a.modulus *ℤ t)) (multiple_along a.modulus (a.modulus *ℤ t) _ (omega (arith, ints)) (times_multiple a.modulus a.modulus t (self_multiple a.modulus)))

-- the size of such a number
pub turn_reach : (m n g p q t : ℤ) → pos 1 ≤ℤ m → q *ℤ g ≡ m → p *ℤ g ≡ n → pos 0 ≤ℤ t → t <ℤ p → (pos 0 ≤ℤ (m *ℤ t)) × ((m *ℤ t) ≤ℤ (q *ℤ n))
turn_reach m n g p q t one e f low high =
    let a = not_negative_product m t (omega (arith, ints)) low in
    let b = not_negative_product m (p -ℤ t) (omega (arith, ints)) (omega (arith, ints)) in
    let c = mul_add m p (neg_ℤ t) in
    let d = mul_neg m t in
    let i = least_multiple_swap m n g p q e f in
    let j = *ℤ_comm m p in
    (a, omega (arith, ints))

-- ---- what fits 128 bits

pub difference_fits : (x y m n : ℤ) → pos 0 ≤ℤ x → x <ℤ m → m ≤ℤ pos (2 ^ 100) → pos 0 ≤ℤ y → y <ℤ n → n ≤ℤ pos (2 ^ 100) → FitsSigned w128 (x -ℤ y)
difference_fits x y m n a b c d e f = omega (arith, ints)

pub reach_fits : (z u : ℤ) → pos 0 ≤ℤ z → z ≤ℤ u → u ≤ℤ pos (2 ^ 100) → FitsSigned w128 z
reach_fits z u a b c = omega (arith, ints)

pub offset_fits : (x m z u : ℤ) → pos 0 ≤ℤ x → x <ℤ m → m ≤ℤ pos (2 ^ 100) → pos 0 ≤ℤ z → z ≤ℤ u → u ≤ℤ pos (2 ^ 100) → FitsSigned w128 (x +ℤ z)
offset_fits x m z u a b c d e f = omega (arith, ints)

-- ---- the class of the numbers in both

-- the condition on the least common multiple, from the other side
pub small_swap : (a b : Residue) (g : ℤ) → SharesBy a b g → ((q : ℤ) → q *ℤ g ≡ a.modulus → (q *ℤ b.modulus) ≤ℤ pos (2 ^ 100)) → (p : ℤ) → p *ℤ g ≡ b.modulus → (p *ℤ a.modulus) ≤ℤ pos (2 ^ 100)
small_swap a b g d small p e = from d.divisor.first
  where
    from : IsMultiple g a.modulus → (p *ℤ a.modulus) ≤ℤ pos (2 ^ 100)
    from (k, q) = subst (λ (t : ℤ). t ≤ℤ pos (2 ^ 100)) (least_multiple_swap a.modulus b.modulus g p k (sym q) e) (small k (sym q))

-- the class of a number in both, by the least common multiple
pub meets_by : (a b r : Residue) (g q x m : ℤ) → SharesBy a b g → q *ℤ g ≡ a.modulus → m ≡ q *ℤ b.modulus → InResidue a x → InResidue b x → IsClassOf x m r → Meets a b r
meets_by a b r g q x m d e f h k i = record {
  holds = λ n u v. in_class_of x m n r i (in_from_off x m n (subst (λ (t : ℤ). IsMultiple t (n -ℤ x)) (sym f) (common_multiple a.modulus b.modulus g q (n -ℤ x) d.divisor (common_positive a b g d) e (apart a n x u h) (apart b n x v k))));
  first = lies a (divides_first d.divisor.second) h;
  second = λ s meet. lies b (subst (λ (t : ℤ). IsMultiple b.modulus t) (sym f) (multiple_times b.modulus q b.modulus (self_multiple b.modulus))) k;
}
  where
    apart : (c : Residue) (n y : ℤ) → InResidue c n → InResidue c y → IsMultiple c.modulus (n -ℤ y)
    apart c n y u v = multiple_along c.modulus ((n -ℤ c.rem) -ℤ (y -ℤ c.rem)) (n -ℤ y) (omega (arith, ints)) (multiple_sub c.modulus (n -ℤ c.rem) (y -ℤ c.rem) (off_from_in c.rem c.modulus n u) (off_from_in c.rem c.modulus y v))

    lies : (c : Residue) → IsMultiple c.modulus m → InResidue c x → LiesIn r c
    lies c u v =
        let w : IsMultiple c.modulus r.modulus = subst (λ (t : ℤ). IsMultiple c.modulus t) (sym i.modulus_is) u in
        let z = multiple_trans c.modulus r.modulus (x -ℤ r.rem) w (off_from_in r.rem r.modulus x i.contains) in
        record {
          divides = w;
          contains = in_from_off c.rem c.modulus r.rem (multiple_along c.modulus ((x -ℤ c.rem) -ℤ (x -ℤ r.rem)) _ (omega (arith, ints)) (multiple_sub c.modulus (x -ℤ c.rem) (x -ℤ r.rem) (off_from_in c.rem c.modulus x v) z));
        }

    divides_first : IsMultiple g b.modulus → IsMultiple a.modulus m
    divides_first (p, u) = subst (λ (t : ℤ). IsMultiple a.modulus t) (sym (least_multiple_swap a.modulus b.modulus g p q e (sym u)) ∙ sym f) (multiple_times a.modulus p a.modulus (self_multiple a.modulus))

pub lies_in_itself : (r : Residue) → LiesIn r r
lies_in_itself r = record { divides = self_multiple r.modulus; contains = in_itself r.rem r.modulus }

-- a number in both, whatever its size
pub some_number : (a b : Residue) (g : ℤ) → SharesBy a b g → (x : ℤ) × InResidue a x × InResidue b x
some_number a b g d = from d.shares d.divisor.combined
  where
    from : IsMultiple g (b.rem -ℤ a.rem) → (x : ℤ) × (y : ℤ) × (g ≡ (x *ℤ a.modulus) +ℤ (y *ℤ b.modulus)) → (x : ℤ) × InResidue a x × InResidue b x
    from (j, e) (x, y, f) =
        let left = j *ℤ (x *ℤ a.modulus) in
        let right = j *ℤ (y *ℤ b.modulus) in
        let h : j *ℤ g ≡ left +ℤ right = ap (λ (t : ℤ). j *ℤ t) f ∙ mul_add j (x *ℤ a.modulus) (y *ℤ b.modulus) in
        let k = multiple_times a.modulus j (x *ℤ a.modulus) (multiple_times a.modulus x a.modulus (self_multiple a.modulus)) in
        let l = multiple_neg b.modulus right (multiple_times b.modulus j (y *ℤ b.modulus) (multiple_times b.modulus y b.modulus (self_multiple b.modulus))) in (
          a.rem +ℤ left,
          in_from_off a.rem a.modulus (a.rem +ℤ left) (multiple_along a.modulus left _ (omega (arith, ints)) k),
          in_from_off b.rem b.modulus (a.rem +ℤ left) (multiple_along b.modulus (neg_ℤ right) _ (omega (arith, ints)) l),
        )

onward : (c : Residue) (y z : ℤ) → InResidue c y → IsMultiple c.modulus z → InResidue c (y +ℤ z)
onward c y z i j = in_from_off c.rem c.modulus (y +ℤ z) (multiple_along c.modulus ((y -ℤ c.rem) +ℤ z) _ (omega (arith, ints)) (multiple_add c.modulus (y -ℤ c.rem) z (off_from_in c.rem c.modulus y i) j))

-- the least common multiple is a multiple of the first modulus too
multiple_of_first : (a b : Residue) (g q : ℤ) → q *ℤ g ≡ a.modulus → IsMultiple g b.modulus → IsMultiple a.modulus (q *ℤ b.modulus)
multiple_of_first a b g q e (p, f) = subst (λ (t : ℤ). IsMultiple a.modulus t) (sym (least_multiple_swap a.modulus b.modulus g p q e (sym f))) (multiple_times a.modulus p a.modulus (self_multiple a.modulus))

-- a class of exactly the numbers in both has at least the least common multiple as its modulus
pub meet_modulus : (a b s : Residue) (g q : ℤ) → SharesBy a b g → q *ℤ g ≡ a.modulus → IsMeet a b s → (q *ℤ b.modulus) ≤ℤ pos (2 ^ 100)
meet_modulus a b s g q d e meet = from (some_number a b g d)
  where
    from : (x : ℤ) × InResidue a x × InResidue b x → (q *ℤ b.modulus) ≤ℤ pos (2 ^ 100)
    from (x, h, k) =
        let in_s = meet.holds x h k in
        let next : InResidue s (x +ℤ s.modulus) = in_from_off s.rem s.modulus (x +ℤ s.modulus) (multiple_along s.modulus ((x -ℤ s.rem) +ℤ s.modulus) _ (omega (arith, ints)) (multiple_add s.modulus (x -ℤ s.rem) s.modulus (off_from_in s.rem s.modulus x in_s) (self_multiple s.modulus))) in
        let u = step a (meet.first (x +ℤ s.modulus) next) h in
        let v = step b (meet.second (x +ℤ s.modulus) next) k in
        let w : IsMultiple (q *ℤ b.modulus) s.modulus = common_multiple a.modulus b.modulus g q s.modulus d.divisor (common_positive a b g d) e u v in
        let q1 = quotient_positive q g a.modulus e d.first (common_positive a b g d) in
        let low = not_negative_product q b.modulus (omega (arith, ints)) (omega (arith, ints, d.second)) in
        by_lt_z (pos 0) s.modulus
        (λ i. let z = divisor_bound (q *ℤ b.modulus) s.modulus w (omega (arith, ints)) low in omega (arith, ints, meet.proper.bounded))
        (λ i. below_itself x h k in_s (omega (arith, ints, meet.proper.not_negative)))
      where
        step : (c : Residue) → InResidue c (x +ℤ s.modulus) → InResidue c x → IsMultiple c.modulus s.modulus
        step c i j = multiple_along c.modulus (((x +ℤ s.modulus) -ℤ c.rem) -ℤ (x -ℤ c.rem)) s.modulus (omega (arith, ints)) (multiple_sub c.modulus ((x +ℤ s.modulus) -ℤ c.rem) (x -ℤ c.rem) (off_from_in c.rem c.modulus (x +ℤ s.modulus) i) (off_from_in c.rem c.modulus x j))

        below_itself : (y : ℤ) → InResidue a y → InResidue b y → InResidue s y → s.modulus ≡ pos 0 → (q *ℤ b.modulus) ≤ℤ pos (2 ^ 100)
        below_itself y i j l z =
            let big = q *ℤ b.modulus in
            let by_b = multiple_times b.modulus q b.modulus (self_multiple b.modulus) in
            let far : InResidue s (y +ℤ big) = meet.holds (y +ℤ big) (onward a y big i (multiple_of_first a b g q e d.divisor.second)) (onward b y big j by_b) in
            let off : IsMultiple s.modulus big = multiple_along s.modulus (((y +ℤ big) -ℤ s.rem) -ℤ (y -ℤ s.rem)) big (omega (arith, ints)) (multiple_sub s.modulus ((y +ℤ big) -ℤ s.rem) (y -ℤ s.rem) (off_from_in s.rem s.modulus (y +ℤ big) far) (off_from_in s.rem s.modulus y l)) in
            let none : big ≡ pos 0 = multiple_of_zero big (subst (λ (t : ℤ). IsMultiple t big) z off) in
            omega (arith, ints)

-- where the least common multiple is no modulus, the first class serves
pub meets_itself : (a b : Residue) (g : ℤ) → SharesBy a b g → ((q : ℤ) → q *ℤ g ≡ a.modulus → pos (2 ^ 100) <ℤ (q *ℤ b.modulus)) → Meets a b a
meets_itself a b g d large = record {
  holds = λ n h k. h;
  first = lies_in_itself a;
  second = λ s meet. absurd (from s meet d.divisor.first);
}
  where
    from : (s : Residue) → IsMeet a b s → IsMultiple g a.modulus → ⊥
    from s meet (q, e) = let u = meet_modulus a b s g q d (sym e) meet in let v = large q (sym e) in omega (arith, ints)

-- two classes with a number in both
pub shares_from : (a b : Residue) (g n : ℤ) → IsGreatestDivisor a.modulus b.modulus g → InResidue a n → InResidue b n → IsMultiple g (b.rem -ℤ a.rem)
shares_from a b g n d h k =
    multiple_along g ((n -ℤ a.rem) -ℤ (n -ℤ b.rem)) _ (omega (arith, ints))
    (multiple_sub g (n -ℤ a.rem) (n -ℤ b.rem) (multiple_trans g a.modulus _ d.first (off_from_in a.rem a.modulus n h)) (multiple_trans g b.modulus _ d.second (off_from_in b.rem b.modulus n k)))

-- ---- classes of one number

pub meets_point : (a b : Residue) → a.modulus ≡ pos 0 → InResidue b a.rem → Meets a b a
meets_point a b e h = record {
  holds = λ n i j. i;
  first = lies_in_itself a;
  second = λ s meet. record { divides = multiple_along b.modulus (pos 0) a.modulus (sym e) (zero_multiple b.modulus); contains = h };
}

pub meets_other_point : (a b : Residue) → b.modulus ≡ pos 0 → InResidue a b.rem → Meets a b b
meets_other_point a b e h = record {
  holds = λ n i j. j;
  first = record { divides = multiple_along a.modulus (pos 0) b.modulus (sym e) (zero_multiple a.modulus); contains = h };
  second = λ s meet. lies_in_itself b;
}

-- ---- the least common multiple

pub same_quotient : (p q g m : ℤ) → pos 1 ≤ℤ g → p *ℤ g ≡ m → q *ℤ g ≡ m → p ≡ q
same_quotient p q g m h e f = mul_cancel g p q h (e ∙ sym f)

pub large_from_unfit : (z : ℤ) → pos 0 ≤ℤ z → (FitsSigned w128 z → ⊥) → pos (2 ^ 100) <ℤ z
large_from_unfit z h k = by_lt_z z (pos (2 ^ 127)) (λ i. absurd (k (omega (arith, ints)))) (λ i. omega (arith, ints))
