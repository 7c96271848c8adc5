-- Classes in classes, and their weight.
use Rattle.std.proofs.Common.{◌≡◌, ℕ, ◌+◌, ◌<◌, ◌≤◌, ℤ, pos, negsuc, ◌+ℤ◌, ◌-ℤ◌, neg_ℤ, ◌≤ℤ◌, ◌<ℤ◌, ◌^◌, arith, FitsSigned, ap, sym, refl, ◌∙◌, subst, ◌⊎◌, ⊎_elim, inl, inr}
use Rattle.std.specs.Prelude.{Bool, true, false, if◌then◌else◌, ◌&&◌, Option, Some, None, IfSome, IfNone}
use Rattle.std.specs.Option.{SomeIff}
use Rattle.std.specs.Ordering.{int_eq}
use Rattle.std.specs.Int.{int_rem_euclid}
use Rattle.std.specs.Int.RustNames.{unsigned_abs}
use Rattle.std.proofs.lemmas.Int.{ints, by_lt_z}
use mir.Syntax.{w128}
use Rattle.std.proofs.Math.IntN.{*ℤ-zero}
use Rattle.std.proofs.lemmas.Bool.{cases_lt}
use Rattle.num_api.specs.declared.message.Residue.{Residue}
use Rattle.num_api.specs.Residues.{InResidue, IsMultiple, IsResidue}
use Rattle.residues.specs.declared.class.Class.{Class}
use Rattle.residues.specs.Class.{residue_of, is_member, divides, holds_class, class_weight}
use Rattle.num_api.specs.Residues.{class_of}
use Rattle.residues.specs.Classes.{IsClassOf, LiesIn, IsGreatestDivisor, IsCommonStep, IsGap, IsJoin, IsFarApart}
use Rattle.residues.specs.Laws.{by_zero, test_zero, test_positive}
use Rattle.num_api.proofs.Multiples.{multiple_along, multiple_add, multiple_sub, multiple_neg, zero_multiple, self_multiple, multiple_trans, off_from_in, in_from_off, in_itself, in_shifted, in_difference}
use Rattle.num_api.proofs.Remainders.{rem_same, rem_unique}
use Rattle.residues.proofs.Divisors.{divisor_bound}
use Rattle.residues.proofs.Steps.{divides_greatest, greatest_of_zeros}
use Rattle.residues.proofs.Members.{in_class_of, in_from_lies}

-- ---- tests

int_eq-true : (m n : ℤ) → m ≡ n → int_eq m n ≡ true
int_eq-true m n e = grind (arith, ints)

int_eq-from : (m n : ℤ) → int_eq m n ≡ true → m ≡ n
int_eq-from m n e = grind (arith, ints)

positive_is_not_zero : (m : ℤ) → pos 1 ≤ℤ m → int_eq m (pos 0) ≡ false
positive_is_not_zero m h = grind (arith, ints)

-- only 0 is a multiple of 0
pub multiple_of_zero : (a : ℤ) → IsMultiple (pos 0) a → a ≡ pos 0
multiple_of_zero a (k, p) = p ∙ *ℤ-zero k

-- ---- members

pub member_true : (r : Residue) (n : ℤ) → IsResidue r → InResidue r n → is_member r n ≡ true
member_true r n p h =
    by_zero r.modulus p.not_negative
    (λ i. test_positive r.modulus _ _ i ∙ int_eq-true _ _ (rem_unique n r.modulus r.rem i h (p.rem_low i) (p.rem_high i)))
    (λ i.
    let off : IsMultiple (pos 0) (n -ℤ r.rem) = subst (λ (t : ℤ). IsMultiple t (n -ℤ r.rem)) i (off_from_in r.rem r.modulus n h) in
    let e = multiple_of_zero (n -ℤ r.rem) off in
    test_zero r.modulus _ _ i ∙ int_eq-true n r.rem (omega (arith, ints)))

pub member_from : (r : Residue) (n : ℤ) → IsResidue r → is_member r n ≡ true → InResidue r n
member_from r n p e =
    by_zero r.modulus p.not_negative
    (λ i.
    let d : int_rem_euclid n r.modulus ≡ r.rem = int_eq-from _ _ (sym (test_positive r.modulus _ _ i) ∙ e) in
    subst (λ (t : ℤ). InResidue (class_of t r.modulus) n) d (rem_same n r.modulus i))
    (λ i.
    let d : n ≡ r.rem = int_eq-from _ _ (sym (test_zero r.modulus _ _ i) ∙ e) in
    subst (λ (t : ℤ). InResidue r t) (sym d) (in_itself r.rem r.modulus))

pub divides_true : (m n : ℤ) → pos 0 ≤ℤ m → IsMultiple m n → divides m n ≡ true
divides_true m n p h =
    by_zero m p
    (λ i. test_positive m _ _ i ∙ int_eq-true _ _ (rem_unique n m (pos 0) i (in_from_off (pos 0) m n (multiple_along m n _ (omega (arith, ints)) h)) (omega (arith, ints)) (omega (arith, ints))))
    (λ i. test_zero m _ _ i ∙ int_eq-true _ _ (multiple_of_zero n (subst (λ (t : ℤ). IsMultiple t n) i h)))

pub divides_from : (m n : ℤ) → pos 0 ≤ℤ m → divides m n ≡ true → IsMultiple m n
divides_from m n p e =
    by_zero m p
    (λ i.
    let d : int_rem_euclid n m ≡ pos 0 = int_eq-from _ _ (sym (test_positive m _ _ i) ∙ e) in
    let same : InResidue (class_of (pos 0) m) n = subst (λ (t : ℤ). InResidue (class_of t m) n) d (rem_same n m i) in
    multiple_along m (n -ℤ pos 0) n (omega (arith, ints)) (off_from_in (pos 0) m n same))
    (λ i.
    let d : n ≡ pos 0 = int_eq-from _ _ (sym (test_zero m _ _ i) ∙ e) in
    multiple_along m (pos 0) n (sym d) (zero_multiple m))

both_true : (a b : Bool) → a ≡ true → b ≡ true → (a && b) ≡ true
both_true a b e f = grind arith

first_true : (a b : Bool) → (a && b) ≡ true → a ≡ true
first_true true b e = refl
first_true false b e = cc

second_true : (a b : Bool) → (a && b) ≡ true → b ≡ true
second_true true b e = e
second_true false b e = cc

pub holds_from_lies : (r s : Residue) → IsResidue r → LiesIn s r → holds_class r s ≡ true
holds_from_lies r s p d = both_true _ _ (divides_true r.modulus s.modulus p.not_negative d.divides) (member_true r s.rem p d.contains)

pub lies_from_holds : (r s : Residue) → IsResidue r → holds_class r s ≡ true → LiesIn s r
lies_from_holds r s p e = record {
  divides = divides_from r.modulus s.modulus p.not_negative (first_true _ _ e);
  contains = member_from r s.rem p (second_true _ _ e);
}

-- ---- weights

-- a class that holds another has no greater weight, and the same only where each holds the other
pub weight_bound : (r s : Residue) → IsResidue r → IsResidue s → LiesIn r s → (class_weight s < class_weight r) ⊎ (r.modulus ≡ s.modulus)
weight_bound r s p q d =
    by_zero s.modulus q.not_negative
    (λ j. by_zero r.modulus p.not_negative
    (λ i.
    let e : class_weight s ≡ unsigned_abs s.modulus = test_positive s.modulus _ _ j in
    let f : class_weight r ≡ unsigned_abs r.modulus = test_positive r.modulus _ _ i in
    let g = divisor_bound s.modulus r.modulus d.divides i q.not_negative in
    compared s.modulus r.modulus (class_weight s) (class_weight r) q.not_negative g e f)
    (λ i.
    let e : class_weight s ≡ unsigned_abs s.modulus = test_positive s.modulus _ _ j in
    let f : class_weight r ≡ 2 ^ 100 + 1 = test_zero r.modulus _ _ i in
    let g = q.bounded in
    inl (omega (arith, ints))))
    (λ j. inr (multiple_of_zero r.modulus (subst (λ (t : ℤ). IsMultiple t r.modulus) j d.divides) ∙ sym j))
  where
    compared : (m n : ℤ) (u v : ℕ) → pos 0 ≤ℤ m → m ≤ℤ n → u ≡ unsigned_abs m → v ≡ unsigned_abs n → (u < v) ⊎ (n ≡ m)
    compared (pos m) (pos n) u v h k e f = ⊎_elim (λ (i : m < n). inl (omega (arith, ints))) (λ (i : n ≤ m). inr (omega (arith, ints))) (cases_lt m n)
    compared (pos m) (negsuc n) u v h k e f = absurd (omega (arith, ints))
    compared (negsuc m) n u v h k e f = absurd (omega (arith, ints))

pub weight_no_rise : (r s : Residue) → IsResidue r → IsResidue s → LiesIn r s → class_weight s ≤ class_weight r
weight_no_rise r s p q d = ⊎_elim
    (λ (h : class_weight s < class_weight r). omega (arith, ints))
    (λ (h : r.modulus ≡ s.modulus). let e : class_weight r ≡ class_weight s = ap (λ (t : ℤ). if int_eq t (pos 0) then 2 ^ 100 + 1 else unsigned_abs t) h in omega (arith, ints))
    (weight_bound r s p q d)

pub weight_falls : (r s t : Residue) → IsResidue r → IsResidue t → LiesIn r t → LiesIn s t → holds_class r s ≡ false → class_weight t < class_weight r
weight_falls r s t p q d e f = ⊎_elim
    (λ (h : class_weight t < class_weight r). h)
    (λ (h : r.modulus ≡ t.modulus).
    let back : InResidue r t.rem = in_from_off r.rem r.modulus t.rem (multiple_along r.modulus (neg_ℤ (r.rem -ℤ t.rem)) _ (omega (arith, ints)) (multiple_neg r.modulus (r.rem -ℤ t.rem) (subst (λ (u : ℤ). IsMultiple u (r.rem -ℤ t.rem)) (sym h) (off_from_in t.rem t.modulus r.rem d.contains)))) in
    let lies : LiesIn t r = record { divides = subst (λ (u : ℤ). IsMultiple r.modulus u) h (self_multiple r.modulus); contains = back } in
    let inside : LiesIn s r = record { divides = subst (λ (u : ℤ). IsMultiple u s.modulus) (sym h) e.divides; contains = in_from_lies t r s.rem lies e.contains } in
    absurd (clash (holds_class r s) (holds_from_lies r s p inside) f))
    (weight_bound r t p q d)
  where
    clash : (b : Bool) → b ≡ true → b ≡ false → ⊥
    clash b u v = cc

-- ---- gaps

pub gap_of_size : (x y d g : ℤ) → d ≡ x -ℤ y → g ≡ pos (unsigned_abs d) → IsGap x y (pos 0) g
gap_of_size x y (pos n) g e f = record {
  not_negative = omega (arith, ints);
  forth = λ c h k. multiple_along c (x -ℤ y) g (omega (arith, ints)) k;
  back = λ c h k. multiple_along c g (x -ℤ y) (omega (arith, ints)) k;
}
gap_of_size x y (negsuc n) g e f = record {
  not_negative = omega (arith, ints);
  forth = λ c h k. multiple_along c (neg_ℤ (x -ℤ y)) g (omega (arith, ints)) (multiple_neg c (x -ℤ y) k);
  back = λ c h k. multiple_along c (neg_ℤ g) (x -ℤ y) (omega (arith, ints)) (multiple_neg c g k);
}

-- x - y is g up to a multiple of the step
pub gap_of_same : (x y step g : ℤ) → pos 0 ≤ℤ g → InResidue (class_of g step) (x -ℤ y) → IsGap x y step g
gap_of_same x y step g p h = record {
  not_negative = p;
  forth = λ c i k. multiple_along c ((x -ℤ y) -ℤ ((x -ℤ y) -ℤ g)) g (omega (arith, ints)) (multiple_sub c (x -ℤ y) ((x -ℤ y) -ℤ g) k (multiple_trans c step _ i (off_from_in g step (x -ℤ y) h)));
  back = λ c i k. multiple_along c (((x -ℤ y) -ℤ g) +ℤ g) (x -ℤ y) (omega (arith, ints)) (multiple_add c ((x -ℤ y) -ℤ g) g (multiple_trans c step _ i (off_from_in g step (x -ℤ y) h)) k);
}

pub gap_of_remainders : (x y p q step g : ℤ) → pos 0 ≤ℤ g → InResidue (class_of p step) x → InResidue (class_of q step) y → InResidue (class_of g step) (p -ℤ q) → IsGap x y step g
gap_of_remainders x y p q step g n h k i = gap_of_same x y step g n (in_shifted (p -ℤ q) g step (x -ℤ y) i (in_difference p q step x y h k))

-- ---- joins

pub join_left : (a b r : Residue) (step gap d : ℤ) → IsCommonStep a.modulus b.modulus step → IsGreatestDivisor step gap d → IsClassOf a.rem d r → LiesIn a r
join_left a b r step gap d c g i = record {
  divides = subst (λ (t : ℤ). IsMultiple t a.modulus) (sym i.modulus_is) (multiple_trans d step a.modulus g.first c.first);
  contains = i.contains;
}

pub join_right : (a b r : Residue) (step gap d : ℤ) → IsCommonStep a.modulus b.modulus step → IsGap a.rem b.rem step gap → IsGreatestDivisor step gap d → IsClassOf a.rem d r → LiesIn b r
join_right a b r step gap d c h g i = record {
  divides = subst (λ (t : ℤ). IsMultiple t b.modulus) (sym i.modulus_is) (multiple_trans d step b.modulus g.first c.second);
  contains = in_class_of a.rem d b.rem r i (in_from_off a.rem d b.rem (multiple_along d (neg_ℤ (a.rem -ℤ b.rem)) _ (omega (arith, ints)) (multiple_neg d (a.rem -ℤ b.rem) (h.back d g.first g.second))));
}

pub join_some : (a b : Residue) (step gap : ℤ) (o : Option Class) → IsCommonStep a.modulus b.modulus step → IsGap a.rem b.rem step gap → IfSome o (λ r. (d : ℤ) × IsGreatestDivisor step gap d × IsClassOf a.rem d (residue_of r)) → IfSome o (λ r. LiesIn a (residue_of r)) × IfSome o (λ r. LiesIn b (residue_of r))
join_some a b step gap None c h i = (tt, tt)
join_some a b step gap (Some r) c h (d, g, i) = (join_left a b (residue_of r) step gap d c g i, join_right a b (residue_of r) step gap d c h g i)

-- every class lies in that of all numbers
pub lies_in_all : (r : Residue) → LiesIn r (class_of (pos 0) (pos 1))
lies_in_all r = record { divides = (r.modulus, omega (arith, ints)); contains = in_from_off (pos 0) (pos 1) r.rem (r.rem -ℤ pos 0, omega (arith, ints)) }

-- the size of a difference, where it is there
pub gap_some : (x y d : ℤ) (o : Option ℤ) (P : Type 0) → d ≡ x -ℤ y → SomeIff o P (pos (unsigned_abs d)) → IfSome o (IsGap x y (pos 0))
gap_some x y d None P e h = tt
gap_some x y d (Some g) P e h = gap_of_size x y d g e h.1

-- ---- the least class that holds both

-- the least join lies in every class that holds both
pub join_least : (a b r s : Residue) (step gap d : ℤ) → ((e : ℤ) → IsMultiple e a.modulus → IsMultiple e b.modulus → IsMultiple e step) → IsGap a.rem b.rem step gap → IsGreatestDivisor step gap d → IsClassOf a.rem d r → IsJoin a b s → LiesIn r s
join_least a b r s step gap d greatest h g i join =
    let m = s.modulus in
    let on_step : IsMultiple m step = greatest m join.first.divides join.second.divides in
    let apart : IsMultiple m (a.rem -ℤ b.rem) =
    multiple_along m ((a.rem -ℤ s.rem) -ℤ (b.rem -ℤ s.rem)) _ (crossed a.rem b.rem s.rem)
    (multiple_sub m (a.rem -ℤ s.rem) (b.rem -ℤ s.rem) (off_from_in s.rem m a.rem join.first.contains) (off_from_in s.rem m b.rem join.second.contains)) in
    let on_d : IsMultiple m d = divides_greatest m step gap d g on_step (h.forth m on_step apart) in
    let on_r : IsMultiple m r.modulus = subst (λ (t : ℤ). IsMultiple m t) (sym i.modulus_is) on_d in
    let off : IsMultiple m (a.rem -ℤ r.rem) = multiple_trans m r.modulus _ on_r (off_from_in r.rem r.modulus a.rem i.contains) in
    record {
      divides = on_r;
      contains = in_from_off s.rem m r.rem (multiple_along m ((a.rem -ℤ s.rem) -ℤ (a.rem -ℤ r.rem)) _ (turned a.rem r.rem s.rem) (multiple_sub m (a.rem -ℤ s.rem) (a.rem -ℤ r.rem) (off_from_in s.rem m a.rem join.first.contains) off));
    }
  where
    crossed : (x y z : ℤ) → (x -ℤ z) -ℤ (y -ℤ z) ≡ x -ℤ y
    crossed x y z = omega (arith, ints)

    turned : (x y z : ℤ) → (x -ℤ z) -ℤ (x -ℤ y) ≡ y -ℤ z
    turned x y z = omega (arith, ints)

-- two classes that are not the same number, whose least class has a modulus above 2^100
pub no_join : (a b s : Residue) (d : ℤ) → pos (2 ^ 100) <ℤ d → IsMultiple d a.modulus → IsMultiple d b.modulus → IsMultiple d (a.rem -ℤ b.rem) → (a.modulus ≡ pos 0 → b.modulus ≡ pos 0 → a.rem -ℤ b.rem ≡ pos 0 → ⊥) → IsJoin a b s → ⊥
no_join a b s d large h k i distinct join =
    let t = class_of a.rem d in
    let in_t : LiesIn s t = join.least t
    (record { divides = h; contains = in_itself a.rem d })
    (record { divides = k; contains = in_from_off a.rem d b.rem (multiple_along d (neg_ℤ (a.rem -ℤ b.rem)) _ (turned a.rem b.rem) (multiple_neg d (a.rem -ℤ b.rem) i)) }) in
    by_zero s.modulus join.proper.not_negative
    (λ one. too_large d s.modulus large (divisor_bound d s.modulus in_t.divides one (above d large)) join.proper.bounded)
    (λ z.
    let zero_a = multiple_of_zero a.modulus (subst (λ (m : ℤ). IsMultiple m a.modulus) z join.first.divides) in
    let zero_b = multiple_of_zero b.modulus (subst (λ (m : ℤ). IsMultiple m b.modulus) z join.second.divides) in
    let at_a = multiple_of_zero (a.rem -ℤ s.rem) (subst (λ (m : ℤ). IsMultiple m (a.rem -ℤ s.rem)) z (off_from_in s.rem s.modulus a.rem join.first.contains)) in
    let at_b = multiple_of_zero (b.rem -ℤ s.rem) (subst (λ (m : ℤ). IsMultiple m (b.rem -ℤ s.rem)) z (off_from_in s.rem s.modulus b.rem join.second.contains)) in
    distinct zero_a zero_b (same a.rem b.rem s.rem at_a at_b))
  where
    turned : (x y : ℤ) → neg_ℤ (x -ℤ y) ≡ y -ℤ x
    turned x y = omega (arith, ints)

    too_large : (d m : ℤ) → pos (2 ^ 100) <ℤ d → d ≤ℤ m → m ≤ℤ pos (2 ^ 100) → ⊥
    too_large d m u v w = omega (arith, ints)

    above : (d : ℤ) → pos (2 ^ 100) <ℤ d → pos 0 ≤ℤ d
    above d u = omega (arith, ints)

    same : (x y z : ℤ) → x -ℤ z ≡ pos 0 → y -ℤ z ≡ pos 0 → x -ℤ y ≡ pos 0
    same x y z u v = omega (arith, ints)

-- by the step and the gap
pub no_join_by : (a b s : Residue) (step gap d : ℤ) → IsCommonStep a.modulus b.modulus step → ((e : ℤ) → IsMultiple e a.modulus → IsMultiple e b.modulus → IsMultiple e step) → IsGap a.rem b.rem step gap → IsGreatestDivisor step gap d → pos (2 ^ 100) <ℤ d → IsJoin a b s → ⊥
no_join_by a b s step gap d c greatest h g large join =
    no_join a b s d large (multiple_trans d step a.modulus g.first c.first) (multiple_trans d step b.modulus g.first c.second) (h.back d g.first g.second)
    (λ u v w.
    let none : (m : ℤ) → m ≡ pos 0 → IsMultiple (pos 0) m = λ m e. multiple_along (pos 0) (pos 0) m (sym e) (zero_multiple (pos 0)) in
    let zero_step : IsMultiple (pos 0) step = greatest (pos 0) (none a.modulus u) (none b.modulus v) in
    let zero_gap = h.forth (pos 0) zero_step (none (a.rem -ℤ b.rem) w) in
    never d (greatest_of_zeros step gap d g (multiple_of_zero step zero_step) (multiple_of_zero gap zero_gap)) large)
    join
  where
    never : (d : ℤ) → d ≡ pos 0 → pos (2 ^ 100) <ℤ d → ⊥
    never d e u = omega (arith, ints)

-- by two numbers that lie far apart
pub no_join_far : (a b s : Residue) (step : ℤ) → IsCommonStep a.modulus b.modulus step → step ≡ pos 0 → IsFarApart a.rem b.rem → IsJoin a b s → ⊥
no_join_far a b s step c z far = ⊎_elim
    (λ (u : pos (2 ^ 100) <ℤ (a.rem -ℤ b.rem)). no_join a b s (a.rem -ℤ b.rem) u (on_a (a.rem -ℤ b.rem)) (on_b (a.rem -ℤ b.rem)) (self_multiple (a.rem -ℤ b.rem)) (λ i j k. above (a.rem -ℤ b.rem) k u))
    (λ (u : (a.rem -ℤ b.rem) <ℤ neg_ℤ (pos (2 ^ 100))). no_join a b s (neg_ℤ (a.rem -ℤ b.rem)) (flipped (a.rem -ℤ b.rem) u) (on_a (neg_ℤ (a.rem -ℤ b.rem))) (on_b (neg_ℤ (a.rem -ℤ b.rem)))
    (multiple_along (neg_ℤ (a.rem -ℤ b.rem)) (neg_ℤ (neg_ℤ (a.rem -ℤ b.rem))) _ (twice (a.rem -ℤ b.rem)) (multiple_neg (neg_ℤ (a.rem -ℤ b.rem)) (neg_ℤ (a.rem -ℤ b.rem)) (self_multiple (neg_ℤ (a.rem -ℤ b.rem))))) (λ i j k. below (a.rem -ℤ b.rem) k u))
    far
  where
    on_a : (d : ℤ) → IsMultiple d a.modulus
    on_a d = multiple_along d (pos 0) a.modulus (sym (multiple_of_zero a.modulus (subst (λ (t : ℤ). IsMultiple t a.modulus) z c.first))) (zero_multiple d)

    on_b : (d : ℤ) → IsMultiple d b.modulus
    on_b d = multiple_along d (pos 0) b.modulus (sym (multiple_of_zero b.modulus (subst (λ (t : ℤ). IsMultiple t b.modulus) z c.second))) (zero_multiple d)

    above : (x : ℤ) → x ≡ pos 0 → pos (2 ^ 100) <ℤ x → ⊥
    above x e u = omega (arith, ints)

    below : (x : ℤ) → x ≡ pos 0 → x <ℤ neg_ℤ (pos (2 ^ 100)) → ⊥
    below x e u = omega (arith, ints)

    flipped : (x : ℤ) → x <ℤ neg_ℤ (pos (2 ^ 100)) → pos (2 ^ 100) <ℤ neg_ℤ x
    flipped x u = omega (arith, ints)

    twice : (x : ℤ) → neg_ℤ (neg_ℤ x) ≡ x
    twice x = omega (arith, ints)

pub join_least_some : (a b : Residue) (step gap : ℤ) (o : Option Class) → ((e : ℤ) → IsMultiple e a.modulus → IsMultiple e b.modulus → IsMultiple e step) → IsGap a.rem b.rem step gap → IfSome o (λ r. (d : ℤ) × IsGreatestDivisor step gap d × IsClassOf a.rem d (residue_of r)) → IfSome o (λ r. (s : Residue) → IsJoin a b s → LiesIn (residue_of r) s)
join_least_some a b step gap None greatest h i = tt
join_least_some a b step gap (Some r) greatest h (d, g, i) = λ s join. join_least a b (residue_of r) s step gap d greatest h g i join

pub join_none : (a b : Residue) (step gap : ℤ) (o : Option Class) → IsCommonStep a.modulus b.modulus step → ((e : ℤ) → IsMultiple e a.modulus → IsMultiple e b.modulus → IsMultiple e step) → IsGap a.rem b.rem step gap → IfNone o ((d : ℤ) × IsGreatestDivisor step gap d × (pos (2 ^ 100) <ℤ d)) → IfNone o ((s : Residue) → IsJoin a b s → ⊥)
join_none a b step gap None c greatest h (d, g, large) = λ s join. no_join_by a b s step gap d c greatest h g large join
join_none a b step gap (Some r) c greatest h i = tt

-- numbers whose difference, or its size, is no i128
pub far_from_unfit : (x y : ℤ) → (FitsSigned w128 (x -ℤ y) → ⊥) → IsFarApart x y
far_from_unfit x y h = by_lt_z (pos (2 ^ 100)) (x -ℤ y) inl
    (λ u. by_lt_z (x -ℤ y) (neg_ℤ (pos (2 ^ 100))) inr (λ v. absurd (h (fits (x -ℤ y) u v))))
  where
    fits : (z : ℤ) → z ≤ℤ pos (2 ^ 100) → neg_ℤ (pos (2 ^ 100)) ≤ℤ z → FitsSigned w128 z
    fits z u v = omega (arith, ints)

pub far_from_size : (x y d : ℤ) → d ≡ x -ℤ y → (FitsSigned w128 (neg_ℤ d) → ⊥) → IsFarApart x y
far_from_size x y d e h = by_lt_z (pos (2 ^ 100)) (x -ℤ y) inl
    (λ u. by_lt_z (x -ℤ y) (neg_ℤ (pos (2 ^ 100))) inr (λ v. absurd (h (fits d (x -ℤ y) e u v))))
  where
    fits : (d z : ℤ) → d ≡ z → z ≤ℤ pos (2 ^ 100) → neg_ℤ (pos (2 ^ 100)) ≤ℤ z → FitsSigned w128 (neg_ℤ d)
    fits d z e u v = omega (arith, ints)

pub far_none : (x y d : ℤ) (o : Option ℤ) (m : ℤ) (step : ℤ) → step ≡ pos 0 → d ≡ x -ℤ y → SomeIff o (FitsSigned w128 (neg_ℤ d)) m → IfNone o ((step ≡ pos 0) × IsFarApart x y)
far_none x y d None m step z e h = (z, far_from_size x y d e h)
far_none x y d (Some g) m step z e h = tt

pub if_none : {A : Type 0} (X : Type 0) (o : Option A) → X → IfNone o X
if_none X None x = x
if_none X (Some a) x = tt
