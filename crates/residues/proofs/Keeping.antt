-- Moving ends inward twice moves them once, so the bounds that were moved are those of the range.
use Rattle.std.proofs.Common.{◌≡◌, ◌^◌, ◌-◌, ℤ, pos, negsuc, ◌+ℤ◌, ◌-ℤ◌, ◌*ℤ◌, ◌≤ℤ◌, ◌<ℤ◌, arith, refl, sym, ◌∙◌, ap}
use Rattle.std.specs.Prelude.{true, false}
use Rattle.std.specs.Int.{int_min, int_max, int_rem_euclid}
use Rattle.std.proofs.lemmas.Int.{ints}
use Rattle.std.proofs.lemmas.Bool.{true≢false}
use Rattle.ext_int.specs.declared.Ext.{Ext}
use Rattle.ext_int.specs.declared.Ext.TheVariants.{Low, Fin, High}
use Rattle.ext_int.proofs.Ends.{AtMost_antisymm, AtMost-from_below, AtMost-from_above}
use Rattle.num_api.specs.declared.message.Range.{Range}
use Rattle.num_api.specs.declared.message.Residue.{Residue}
use Rattle.num_api.specs.Ranges.{IsPoint, holds_some}
use Rattle.num_api.specs.Residues.{class_of, InResidue}
use Rattle.num_api.proofs.Multiples.{in_itself}
use Rattle.num_api.proofs.Remainders.{rem_unique}
use Rattle.residues.specs.Classes.{LiesIn}
use Rattle.residues.specs.Inward.{next_member, last_member, inward_low, inward_high, moved_range, inward_range}
use Rattle.residues.specs.Laws.{low_by, high_by, no_low_by, no_high_by, low_inward, high_inward, low_sound, high_sound, next_is_member, last_is_member, inward_by}

-- ---- ends

-- a number of the class stays
low_member : (c : Residue) (n : ℤ) → pos 0 ≤ℤ c.modulus → InResidue c n → inward_low c (Fin n) ≡ Fin n
low_member c n h k = AtMost_antisymm (inward_low c (Fin n)) (Fin n) (AtMost-from_below (inward_low c (Fin n)) n (low_sound c (Fin n) n h (itself n) k)) (low_inward c (Fin n) h)
  where
    itself : (n : ℤ) → n ≤ℤ n
    itself n = omega (arith, ints)

high_member : (c : Residue) (n : ℤ) → pos 0 ≤ℤ c.modulus → InResidue c n → inward_high c (Fin n) ≡ Fin n
high_member c n h k = AtMost_antisymm (inward_high c (Fin n)) (Fin n) (high_inward c (Fin n) h) (AtMost-from_above (inward_high c (Fin n)) n (high_sound c (Fin n) n h (itself n) k))
  where
    itself : (n : ℤ) → n ≤ℤ n
    itself n = omega (arith, ints)

zero_not_one : (m : ℤ) → m ≡ pos 0 → pos 1 ≤ℤ m → ⊥
zero_not_one m e h = absurd (omega (arith, ints))

-- under a modulus of 0 an end that is at or past the one number stays
low_past : (c : Residue) (n : ℤ) → pos 0 ≤ℤ c.modulus → c.modulus ≡ pos 0 → c.rem ≤ℤ n → inward_low c (Fin n) ≡ Fin n
low_past c n h e k = low_by (λ x. x ≡ Fin n) c n h (λ i. ap Fin (greater n c.rem k)) (λ i j. absurd (zero_not_one c.modulus e i)) (λ i j. refl)
  where
    greater : (n m : ℤ) → m ≤ℤ n → int_max n m ≡ n
    greater n m h = grind (arith, ints)

high_past : (c : Residue) (n : ℤ) → pos 0 ≤ℤ c.modulus → c.modulus ≡ pos 0 → n ≤ℤ c.rem → inward_high c (Fin n) ≡ Fin n
high_past c n h e k = high_by (λ x. x ≡ Fin n) c n h (λ i. ap Fin (lesser n c.rem k)) (λ i j. absurd (zero_not_one c.modulus e i)) (λ i j. refl)
  where
    lesser : (n m : ℤ) → n ≤ℤ m → int_min n m ≡ n
    lesser n m h = grind (arith, ints)

-- an end whose next number of the class is no i128 stays
low_far : (c : Residue) (n : ℤ) → pos 0 ≤ℤ c.modulus → pos 1 ≤ℤ c.modulus → pos (2 ^ 127 - 1) <ℤ next_member c n → inward_low c (Fin n) ≡ Fin n
low_far c n h one far = low_by (λ x. x ≡ Fin n) c n h (λ i. absurd (zero_not_one c.modulus i one)) (λ i j. absurd (clash (next_member c n) far j)) (λ i j. refl)
  where
    clash : (z : ℤ) → pos (2 ^ 127 - 1) <ℤ z → z ≤ℤ pos (2 ^ 127 - 1) → ⊥
    clash z h k = absurd (omega (arith, ints))

high_far : (c : Residue) (n : ℤ) → pos 0 ≤ℤ c.modulus → pos 1 ≤ℤ c.modulus → last_member c n <ℤ negsuc (2 ^ 127 - 1) → inward_high c (Fin n) ≡ Fin n
high_far c n h one far = high_by (λ x. x ≡ Fin n) c n h (λ i. absurd (zero_not_one c.modulus i one)) (λ i j. absurd (clash (last_member c n) far j)) (λ i j. refl)
  where
    clash : (z : ℤ) → z <ℤ negsuc (2 ^ 127 - 1) → negsuc (2 ^ 127 - 1) ≤ℤ z → ⊥
    clash z h k = absurd (omega (arith, ints))

max_second : (n m : ℤ) → m ≤ℤ int_max n m
max_second n m = grind (arith, ints)

min_second : (n m : ℤ) → int_min n m ≤ℤ m
min_second n m = grind (arith, ints)

low_twice : (c : Residue) (a : Ext) → pos 0 ≤ℤ c.modulus → inward_low c (inward_low c a) ≡ inward_low c a
low_twice c Low h = no_low_by (λ e. inward_low c e ≡ e) c h (λ i. low_member c c.rem h (in_itself c.rem c.modulus)) (λ i. no_low_by (λ e. e ≡ Low) c h (λ j. absurd (zero_not_one c.modulus j i)) (λ j. refl))
low_twice c (Fin n) h = low_by (λ e. inward_low c e ≡ e) c n h
    (λ i. low_past c (int_max n c.rem) h i (max_second n c.rem))
    (λ i j. low_member c (next_member c n) h (next_is_member c i n))
    (λ i j. low_far c n h i j)
low_twice c High h = refl

high_twice : (c : Residue) (a : Ext) → pos 0 ≤ℤ c.modulus → inward_high c (inward_high c a) ≡ inward_high c a
high_twice c Low h = refl
high_twice c (Fin n) h = high_by (λ e. inward_high c e ≡ e) c n h
    (λ i. high_past c (int_min n c.rem) h i (min_second n c.rem))
    (λ i j. high_member c (last_member c n) h (last_is_member c i n))
    (λ i j. high_far c n h i j)
high_twice c High h = no_high_by (λ e. inward_high c e ≡ e) c h (λ i. high_member c c.rem h (in_itself c.rem c.modulus)) (λ i. no_high_by (λ e. e ≡ High) c h (λ j. absurd (zero_not_one c.modulus j i)) (λ j. refl))

-- ---- ranges

same_ends : (r s : Range) → r.lo ≡ s.lo → r.hi ≡ s.hi → r ≡ s
same_ends r s e f = pair r.lo r.hi s.lo s.hi e f
  where
    pair : (a b c d : Ext) → a ≡ c → b ≡ d → (let u : Range = record { lo = a; hi = b } in let v : Range = record { lo = c; hi = d } in u ≡ v)
    pair a b c d e f = cc

moved_twice : (c : Residue) (r : Range) → pos 0 ≤ℤ c.modulus → moved_range c (moved_range c r) ≡ moved_range c r
moved_twice c r h = same_ends (moved_range c (moved_range c r)) (moved_range c r) (low_twice c r.lo h) (high_twice c r.hi h)

-- a range whose moved ends leave no number stays
stays : (c : Residue) (r : Range) → holds_some (moved_range c r) ≡ false → inward_range c r ≡ r
stays c r e = inward_by (λ s. s ≡ r) c r (λ f. absurd (true≢false (sym f ∙ e))) (λ f. refl)

-- and one where they leave some is the moved one
goes : (c : Residue) (r : Range) → holds_some (moved_range c r) ≡ true → inward_range c r ≡ moved_range c r
goes c r e = inward_by (λ s. s ≡ moved_range c r) c r (λ f. refl) (λ f. absurd (true≢false (sym e ∙ f)))

inward_twice : (c : Residue) (r : Range) → pos 0 ≤ℤ c.modulus → inward_range c r ≡ inward_range c (inward_range c r)
inward_twice c r h = inward_by (λ s. s ≡ inward_range c s) c r
    (λ e. inward_by (λ s. moved_range c r ≡ s) c (moved_range c r) (λ f. sym (moved_twice c r h)) (λ f. refl))
    (λ e. sym (stays c r e))

-- bounds that were moved are their range's
pub moved_keeps : (c : Residue) (r s : Range) → pos 0 ≤ℤ c.modulus → s ≡ inward_range c r → s ≡ inward_range c s
moved_keeps c r s h e = e ∙ inward_twice c r h ∙ ap (inward_range c) (sym e)

-- so are bounds that cannot be moved
pub stays_keeps : (c : Residue) (r : Range) → holds_some (moved_range c r) ≡ false → r ≡ inward_range c r
stays_keeps c r e = sym (stays c r e)

-- bounds that were moved leave a number where their ends did
pub never_empty : (c : Residue) (r s : Range) → pos 0 ≤ℤ c.modulus → s ≡ inward_range c r → holds_some (moved_range c r) ≡ true → holds_some (moved_range c s) ≡ false → ⊥
never_empty c r s h e some none =
    let same : s ≡ moved_range c r = e ∙ goes c r some in
    let again : moved_range c s ≡ moved_range c r = ap (moved_range c) same ∙ moved_twice c r h in
    true≢false (sym some ∙ sym (ap holds_some again) ∙ none)

-- a point stays under a class that has its number
pub point_keeps : (c : Residue) (r : Range) (n : ℤ) → pos 0 ≤ℤ c.modulus → IsPoint r n → InResidue c n → r ≡ inward_range c r
point_keeps c r n h p k =
    let low : inward_low c r.lo ≡ r.lo = ap (inward_low c) p.low ∙ low_member c n h k ∙ sym p.low in
    let high : inward_high c r.hi ≡ r.hi = ap (inward_high c) p.high ∙ high_member c n h k ∙ sym p.high in
    inward_by (λ s. r ≡ s) c r (λ e. sym (same_ends (moved_range c r) r low high)) (λ e. refl)

-- ---- the class of all numbers

pub in_all : (c : Residue) (n : ℤ) → c.modulus ≡ pos 1 → InResidue c n
in_all c n e = (n -ℤ c.rem, rw e (all n c.rem))
  where
    all : (n r : ℤ) → n ≡ r +ℤ ((n -ℤ r) *ℤ pos 1)
    all n r = omega (arith, ints)

one_not_below : (m : ℤ) → m ≡ pos 1 → pos 0 ≤ℤ m
one_not_below m e = omega (arith, ints)

one_not_zero : (m : ℤ) → m ≡ pos 1 → m ≡ pos 0 → ⊥
one_not_zero m e f = absurd (omega (arith, ints))

all_low : (c : Residue) (a : Ext) → c.modulus ≡ pos 1 → inward_low c a ≡ a
all_low c Low e = no_low_by (λ x. x ≡ Low) c (one_not_below c.modulus e) (λ i. absurd (one_not_zero c.modulus e i)) (λ i. refl)
all_low c (Fin n) e = low_member c n (one_not_below c.modulus e) (in_all c n e)
all_low c High e = refl

all_high : (c : Residue) (a : Ext) → c.modulus ≡ pos 1 → inward_high c a ≡ a
all_high c Low e = refl
all_high c (Fin n) e = high_member c n (one_not_below c.modulus e) (in_all c n e)
all_high c High e = no_high_by (λ x. x ≡ High) c (one_not_below c.modulus e) (λ i. absurd (one_not_zero c.modulus e i)) (λ i. refl)

-- moves no end
pub all_stays : (c : Residue) (r : Range) → c.modulus ≡ pos 1 → r ≡ moved_range c r
all_stays c r e = sym (same_ends (moved_range c r) r (all_low c r.lo e) (all_high c r.hi e))

pub all_keeps : (c : Residue) (r : Range) → c.modulus ≡ pos 1 → r ≡ inward_range c r
all_keeps c r e = inward_by (λ s. r ≡ s) c r (λ f. all_stays c r e) (λ f. refl)

-- and leaves no remainder
pub no_rest : (n m : ℤ) → m ≡ pos 1 → pos 0 ≡ int_rem_euclid n m
no_rest n m e = sym (rem_unique n m (pos 0) (positive m e) (in_all (class_of (pos 0) m) n e) (zero_low) (above m e))
  where
    positive : (m : ℤ) → m ≡ pos 1 → pos 1 ≤ℤ m
    positive m e = omega (arith, ints)

    zero_low : pos 0 ≤ℤ pos 0
    zero_low = omega (arith, ints)

    above : (m : ℤ) → m ≡ pos 1 → pos 0 <ℤ m
    above m e = omega (arith, ints)

-- every class lies in it
pub lies_in_any : (b a : Residue) → a.modulus ≡ pos 1 → LiesIn b a
lies_in_any b a e = record { divides = (b.modulus, rw e (times b.modulus)); contains = in_all a b.rem e }
  where
    times : (m : ℤ) → m ≡ m *ℤ pos 1
    times m = omega (arith, ints)
