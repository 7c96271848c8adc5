-- What is in both of two shown values, and that no others are.
use Rattle.std.proofs.Common.{◌≡◌, ◌≤ℤ◌, ◌<◌, ◌+ℤ◌, ◌*ℤ◌, ◌⊎◌, inl, inr, ℕ, ℤ, pos, arith, refl, sym, subst, ap, ◌∙◌, ⊎_elim, Bool, true, false, List, [], ◌∷◌, Option, Some, None}
use Rattle.std.proofs.Common.{FitsSigned, to_z, of_z}
use Rattle.std.proofs.lemmas.Int.{ints, to_z-of_z}
use mir.Syntax.{w128}
use Rattle.std.specs.Ordering.{int_eq}
use Rattle.std.specs.Prelude.{IsTrue, IfSome, nat_eq, ◌&&◌, ◌||◌, if◌then◌else◌, All, Contains, length}
use Rattle.std.specs.List.{list_any}
use Rattle.std.proofs.lemmas.Bool.{eqb-true}
use Rattle.std.proofs.lemmas.List.Elements.{All-cons, All-head, All-tail, All-contains, Contains-append_right, Contains-append_cases, Contains-push_cases}
use Rattle.c_syntax.specs.declared.alarm.Pointers.{Pointers}
use Rattle.c_syntax.specs.declared.alarm.Shown.TheVariants as shows
use Rattle.c_syntax.specs.declared.alarm.Spot.{Spot}
use Rattle.c_syntax.specs.declared.alarm.Spot.TheVariants as spots
use Rattle.c_syntax.specs.Types.{ObjectTree}
use Rattle.c_syntax.specs.Operand.{Operand, Number, Point, Points, Mark, End, LoadMark, CallEnd, Undef, HasValue, Broken}
use Rattle.c_syntax.specs.Operand as operands
use Rattle.c_syntax.specs.Admission.{IsEndIn, IsInShown, IsMarkIn, IsModerate, IsSpotIn}
use Rattle.num_api.specs.declared.message.Residue.{Residue}
use Rattle.num_api.specs.Residues.{class_of, InResidue, IsMultiple, IsResidue}
use Rattle.std.proofs.Math.IntN.{*ℤ-zero}
use Rattle.num_api.proofs.Multiples.{in_itself, multiple_add, multiple_along, multiple_times, multiple_trans}
use Rattle.residues.specs.Classes.{IsMeet, LiesIn, Meets}
use Rattle.residues.proofs.Members.{in_from_lies}
use Rattle.mem_shown.specs.Decisions.{NamesBelow, NamesObjects}
use Rattle.mem_shown.proofs.Hulling.{in_class, in_residue}
use Rattle.mem_narrowed.specs.declared.bounds.Bounds.{Bounds}
use Rattle.mem_narrowed.specs.Narrowed.{HasMeet, IsNarrowed, IsNarrowedBounds, IsNarrowedClass, IsNarrowedSet, IsProperBounds, bounds, bounds_of, common, inner_lower, inner_upper, is_number, names_of_both, shown_numbers}

-- ---- classes

divided : (a b r : Residue) (c : ℤ) → LiesIn r a → IsMultiple c a.modulus → IsMultiple c a.rem → IsMultiple c r.modulus × IsMultiple c r.rem
divided a b r c l h k = (
  multiple_trans c a.modulus r.modulus h l.divides,
  multiple_along c (a.rem +ℤ (l.contains.0 *ℤ a.modulus)) r.rem (sym l.contains.1)
      (multiple_add c a.rem (l.contains.0 *ℤ a.modulus) k (multiple_times c l.contains.0 a.modulus h)),
)

meet_of : (x y : Residue) (a b : Bounds) (s : Residue) → class_of a.rem a.modulus ≡ x → class_of b.rem b.modulus ≡ y
    → IsMeet (class_of a.rem a.modulus) (class_of b.rem b.modulus) s → IsMeet x y s
meet_of x y a b s e f m = subst (λ (t : Residue). IsMeet t y s) e (subst (λ (t : Residue). IsMeet (class_of a.rem a.modulus) t s) f m)

pub class_met : (a b : Bounds) (x y r : Residue) → x ≡ class_of a.rem a.modulus → y ≡ class_of b.rem b.modulus → IsResidue r → pos 1 ≤ℤ r.modulus
    → Meets x y r → IsNarrowedClass a b r
class_met a b x y r e f p s m = record {
  proper = p;
  step = s;
  holds = λ n h k. in_class r.modulus r.rem n (m.holds n (subst (λ (t : Residue). InResidue t n) (sym e) (in_residue a.modulus a.rem n h))
      (subst (λ (t : Residue). InResidue t n) (sym f) (in_residue b.modulus b.rem n k)));
  inside = λ n h. in_class a.modulus a.rem n
      (subst (λ (t : Residue). InResidue t n) e (in_from_lies r x n m.first (in_residue r.modulus r.rem n h)));
  second = λ has. subst (LiesIn r) f (m.second has.class (meet_of x y a b has.class (sym e) (sym f) has.meet));
  divided = λ c h k. divided (class_of a.rem a.modulus) y r c (subst (LiesIn r) e m.first) h k;
}

-- where no class of both is found, the first stays
pub class_kept : (a b : Bounds) (x r : Residue) → x ≡ class_of a.rem a.modulus → r ≡ x → IsResidue r → pos 1 ≤ℤ a.modulus → (HasMeet a b → ⊥)
    → IsNarrowedClass a b r
class_kept a b x r e f p s none = subst (IsNarrowedClass a b) (sym (f ∙ e)) (record {
  proper = subst IsResidue (f ∙ e) p;
  step = s;
  holds = λ n h k. h;
  inside = λ n h. h;
  second = λ has. absurd (none has);
  divided = λ c h k. (h, k);
})

-- no number is in both
pub nothing_common : (a b : Bounds) (x y : Residue) → x ≡ class_of a.rem a.modulus → y ≡ class_of b.rem b.modulus
    → ((n : ℤ) → InResidue x n → InResidue y n → ⊥) → HasMeet a b → ⊥
nothing_common a b x y e f none has =
    let m = meet_of x y a b has.class (sym e) (sym f) has.meet in
    let own = in_itself has.class.rem has.class.modulus in
    none has.class.rem (m.first has.class.rem own) (m.second has.class.rem own)

-- one number alone is in both
pub one_common : (a b : Bounds) (x y r : Residue) → x ≡ class_of a.rem a.modulus → y ≡ class_of b.rem b.modulus
    → ((n : ℤ) → InResidue x n → InResidue y n → InResidue r n) → r.modulus ≡ pos 0 → HasMeet a b → ⊥
one_common a b x y r e f holds z has =
    let m = meet_of x y a b has.class (sym e) (sym f) has.meet in
    let s = has.class in
    let first = holds s.rem (m.first s.rem (in_itself s.rem s.modulus)) (m.second s.rem (in_itself s.rem s.modulus)) in
    let next : InResidue s (s.rem +ℤ (pos 1 *ℤ s.modulus)) = (pos 1, refl) in
    let second = holds (s.rem +ℤ (pos 1 *ℤ s.modulus)) (m.first (s.rem +ℤ (pos 1 *ℤ s.modulus)) next) (m.second (s.rem +ℤ (pos 1 *ℤ s.modulus)) next) in
    apart s.rem s.modulus r.rem has.step (alone r s.rem z first) (alone r (s.rem +ℤ (pos 1 *ℤ s.modulus)) z second)
  where
    alone : (r : Residue) (n : ℤ) → r.modulus ≡ pos 0 → InResidue r n → n ≡ r.rem
    alone r n z h =
        let nothing : h.0 *ℤ r.modulus ≡ pos 0 = ap (λ (x : ℤ). h.0 *ℤ x) z ∙ *ℤ-zero h.0 in
        h.1 ∙ ap (λ (x : ℤ). r.rem +ℤ x) nothing ∙ omega (arith, ints)

    apart : (n m k : ℤ) → pos 1 ≤ℤ m → n ≡ k → n +ℤ (pos 1 *ℤ m) ≡ k → ⊥
    apart n m k h e f = omega (arith, ints)

pub no_step : (m : ℤ) → pos 0 ≤ℤ m → (pos 1 ≤ℤ m → ⊥) → m ≡ pos 0
no_step m h n = grind (arith, ints)

-- ---- ends

lower_holds : (a b : Option ℤ) (n : ℤ) → IfSome a (λ l. l ≤ℤ n) → IfSome b (λ l. l ≤ℤ n) → IfSome (inner_lower a b) (λ l. l ≤ℤ n)
lower_holds None b n h k = k
lower_holds (Some x) None n h k = h
lower_holds (Some x) (Some y) n h k = grind (arith, ints)

upper_holds : (a b : Option ℤ) (n : ℤ) → IfSome a (λ u. n ≤ℤ u) → IfSome b (λ u. n ≤ℤ u) → IfSome (inner_upper a b) (λ u. n ≤ℤ u)
upper_holds None b n h k = k
upper_holds (Some x) None n h k = h
upper_holds (Some x) (Some y) n h k = grind (arith, ints)

lower_inside : (a b : Option ℤ) (n : ℤ) → IfSome (inner_lower a b) (λ l. l ≤ℤ n) → IfSome a (λ l. l ≤ℤ n)
lower_inside None b n h = tt
lower_inside (Some x) None n h = h
lower_inside (Some x) (Some y) n h = grind (arith, ints)

upper_inside : (a b : Option ℤ) (n : ℤ) → IfSome (inner_upper a b) (λ u. n ≤ℤ u) → IfSome a (λ u. n ≤ℤ u)
upper_inside None b n h = tt
upper_inside (Some x) None n h = h
upper_inside (Some x) (Some y) n h = grind (arith, ints)

lower_moderate : (a b : Option ℤ) → IsModerate a → IsModerate b → IsModerate (inner_lower a b)
lower_moderate None b h k = k
lower_moderate (Some x) None h k = h
lower_moderate (Some x) (Some y) h k = (grind (arith, ints), grind (arith, ints))

upper_moderate : (a b : Option ℤ) → IsModerate a → IsModerate b → IsModerate (inner_upper a b)
upper_moderate None b h k = k
upper_moderate (Some x) None h k = h
upper_moderate (Some x) (Some y) h k = (grind (arith, ints), grind (arith, ints))

-- ---- ranges and classes

one_number : (x : ℤ) → int_eq x x ≡ true
one_number x = grind (arith, ints)

no_number : (lo hi : Option ℤ) (k : ℤ) → is_number lo hi ≡ false → lo ≡ Some k → hi ≡ Some k → ⊥
no_number lo hi k h e f =
    true_is (subst (λ (z : Bool). z ≡ false) (one_number k)
    (subst (λ (o : Option ℤ). is_number (Some k) o ≡ false) f (subst (λ (o : Option ℤ). is_number o hi ≡ false) e h)))
  where
    true_is : true ≡ false → ⊥
    true_is h = absurd (cc)

zero_step : (m : ℤ) → pos 1 ≤ℤ m → m ≡ pos 0 → ⊥
zero_step m h e = omega (arith, ints)

-- a proper range that is no one number has a step of 1 or more
pub has_step : (a : Bounds) → IsProperBounds a → is_number a.lo a.hi ≡ false → pos 1 ≤ℤ a.modulus
has_step a p h = by a.modulus p.modulus_low (λ z. no_number a.lo a.hi a.rem h (p.point z).0 (p.point z).1)
  where
    by : (m : ℤ) → pos 0 ≤ℤ m → (m ≡ pos 0 → ⊥) → pos 1 ≤ℤ m
    by m l n = grind (arith, ints)

pub narrowed_by : (a b : Bounds) (r : Residue) → IsNarrowedClass a b r → is_number a.lo a.hi ≡ false → IsProperBounds a → IsProperBounds b
    → IsNarrowedBounds a b (bounds (inner_lower a.lo b.lo) (inner_upper a.hi b.hi) r.modulus r.rem)
narrowed_by a b r m other p q = record {
  holds = λ n h k. ((lower_holds a.lo b.lo n h.0.0 k.0.0, upper_holds a.hi b.hi n h.0.1 k.0.1), m.holds n h.1 k.1);
  inside = λ n h. ((lower_inside a.lo b.lo n h.0.0, upper_inside a.hi b.hi n h.0.1), m.inside n h.1);
  proper = record {
    lo_moderate = lower_moderate a.lo b.lo p.lo_moderate q.lo_moderate;
    hi_moderate = upper_moderate a.hi b.hi p.hi_moderate q.hi_moderate;
    modulus_low = m.proper.not_negative;
    modulus_high = m.proper.bounded;
    remainder = λ k. (m.proper.rem_low k, m.proper.rem_high k);
    point = λ z. absurd (zero_step r.modulus m.step z);
  };
  divided = m.divided;
  known = λ k e f. absurd (no_number a.lo a.hi k other e f);
  cut = λ h. record { lower = refl; upper = refl; class = m.second };
}

-- the inner ends, with a class whose numbers the machine holds
pub narrowed_told : (a b : Bounds) (lo hi : Option ℤ) (r : Residue) → IsNarrowedClass a b r → is_number a.lo a.hi ≡ false → IsProperBounds a → IsProperBounds b
    → lo ≡ inner_lower a.lo b.lo → hi ≡ inner_upper a.hi b.hi → FitsSigned w128 r.modulus → FitsSigned w128 r.rem
    → IsNarrowedBounds a b (bounds lo hi (to_z w128 (of_z w128 r.modulus)) (to_z w128 (of_z w128 r.rem)))
narrowed_told a b lo hi r m other p q e f fits fit =
    subst (λ (x : Option ℤ). IsNarrowedBounds a b (bounds x hi (to_z w128 (of_z w128 r.modulus)) (to_z w128 (of_z w128 r.rem)))) (sym e)
    (subst (λ (x : Option ℤ). IsNarrowedBounds a b (bounds (inner_lower a.lo b.lo) x (to_z w128 (of_z w128 r.modulus)) (to_z w128 (of_z w128 r.rem)))) (sym f)
    (subst (λ (x : ℤ). IsNarrowedBounds a b (bounds (inner_lower a.lo b.lo) (inner_upper a.hi b.hi) x (to_z w128 (of_z w128 r.rem)))) (sym (to_z-of_z w128 r.modulus fits))
    (subst (λ (x : ℤ). IsNarrowedBounds a b (bounds (inner_lower a.lo b.lo) (inner_upper a.hi b.hi) r.modulus x)) (sym (to_z-of_z w128 r.rem fit))
    (narrowed_by a b r m other p q))))

-- one number that is known stays
pub kept : (a b : Bounds) → IsProperBounds a → is_number a.lo a.hi ≡ true → IsNarrowedBounds a b a
kept a b p is = record {
  holds = λ n h k. h;
  inside = λ n h. h;
  proper = p;
  divided = λ c h k. (h, k);
  known = λ k e f. (e, f);
  cut = λ other. absurd (unlike (is_number a.lo a.hi) is other);
}
  where
    unlike : (b : Bool) → b ≡ true → b ≡ false → ⊥
    unlike b e f = absurd (cc)

-- ---- names

no_element : (p : ℕ) → Contains [] p → ⊥
no_element p (k, below, is) = omega (arith, below)

only_one : (o p : ℕ) → Contains (o ∷ []) p → o ≡ p
only_one o p d = ⊎_elim (λ (none : Contains [] p). absurd (no_element p none)) (λ e. e) (Contains-push_cases [] o p d)

first_is : (o : ℕ) (names : List ℕ) → Contains (o ∷ names) o
first_is o names = (0, omega arith, refl)

-- the test finds a name that is there
same_name : (x : ℕ) → nat_eq x x ≡ true
same_name x = grind arith

either_true : (z w : Bool) → w ≡ true → (z || w) ≡ true
either_true true w e = refl
either_true false w e = e

finds : (names : List ℕ) (p : ℕ) → Contains names p → list_any (λ x. nat_eq x p) names ≡ true
finds [] p c = absurd (no_element p c)
finds (x ∷ names) p c = ⊎_elim
    (λ here. subst (λ (z : Bool). (z || list_any (λ y. nat_eq y p) names) ≡ true) (sym (ap (λ (y : ℕ). nat_eq y p) (only_one x p here) ∙ same_name p)) refl)
    (λ there. either_true (nat_eq x p) (list_any (λ y. nat_eq y p) names) (finds names p there)) (Contains-append_cases (x ∷ []) names p c)

found_first : (b : Bool) (x : ℕ) (names : List ℕ) (o : ℕ) → nat_eq x o ≡ b → (list_any (λ y. nat_eq y o) names ≡ true → Contains names o)
    → (b || list_any (λ y. nat_eq y o) names) ≡ true → Contains (x ∷ names) o
found_first true x names o e rest h = subst (λ (y : ℕ). Contains (x ∷ names) y) (eqb-true x o e) (first_is x names)
found_first false x names o e rest h = Contains-append_right (x ∷ []) names o (rest h)

found : (names : List ℕ) (o : ℕ) → list_any (λ x. nat_eq x o) names ≡ true → Contains names o
found [] o h = absurd (cc)
found (x ∷ names) o h = found_first (nat_eq x o) x names o refl (λ k. found names o k) h

abbrev if_common : Bool → ℕ → List ℕ → List ℕ
if_common b o rest = if b then o ∷ rest else rest

more : (b : Bool) (o p : ℕ) (rest : List ℕ) → Contains rest p → Contains (if_common b o rest) p
more true o p rest h = Contains-append_right (o ∷ []) rest p h
more false o p rest h = h

common_has : (names others : List ℕ) (p : ℕ) → Contains names p → Contains others p → Contains (common names others) p
common_has [] others p c d = absurd (no_element p c)
common_has (o ∷ names) others p c d = ⊎_elim
    (λ here.
    let same = only_one o p here in
    let there : list_any (λ x. nat_eq x o) others ≡ true = finds others o (subst (Contains others) (sym same) d) in
    subst (λ (z : Bool). Contains (if_common z o (common names others)) p) (sym there) (subst (Contains (o ∷ common names others)) same (first_is o (common names others))))
    (λ there. more (list_any (λ x. nat_eq x o) others) o p (common names others) (common_has names others p there d)) (Contains-append_cases (o ∷ []) names p c)

first_by : (b : Bool) (o p : ℕ) (rest names : List ℕ) → (Contains rest p → Contains names p) → Contains (if_common b o rest) p → Contains (o ∷ names) p
first_by false o p rest names h c = Contains-append_right (o ∷ []) names p (h c)
first_by true o p rest names h c = ⊎_elim (λ here. subst (Contains (o ∷ names)) (only_one o p here) (first_is o names))
    (λ there. Contains-append_right (o ∷ []) names p (h there)) (Contains-append_cases (o ∷ []) rest p c)

common_first : (names others : List ℕ) (p : ℕ) → Contains (common names others) p → Contains names p
common_first [] others p c = c
common_first (o ∷ names) others p c =
    first_by (list_any (λ x. nat_eq x o) others) o p (common names others) names (λ h. common_first names others p h) c

second_by : (b : Bool) (o p : ℕ) (rest others : List ℕ) → (b ≡ true → Contains others o) → (Contains rest p → Contains others p)
    → Contains (if_common b o rest) p → Contains others p
second_by false o p rest others h k c = k c
second_by true o p rest others h k c = ⊎_elim (λ here. subst (Contains others) (only_one o p here) (h refl)) (λ there. k there)
    (Contains-append_cases (o ∷ []) rest p c)

common_second : (names others : List ℕ) (p : ℕ) → Contains (common names others) p → Contains others p
common_second [] others p c = absurd (no_element p c)
common_second (o ∷ names) others p c =
    second_by (list_any (λ x. nat_eq x o) others) o p (common names others) others (found others o) (λ h. common_second names others p h) c

below_by : (b : Bool) (o count : ℕ) (rest : List ℕ) → o < count → All (λ x. x < count) rest → All (λ x. x < count) (if_common b o rest)
below_by true o count rest h k = All-cons (λ x. x < count) o rest h k
below_by false o count rest h k = k

common_below : (names others : List ℕ) (count : ℕ) → All (λ x. x < count) names → All (λ x. x < count) (common names others)
common_below [] others count h = h
common_below (o ∷ names) others count h =
    below_by (list_any (λ x. nat_eq x o) others) o count (common names others) (All-head (λ x. x < count) o names h)
    (common_below names others count (All-tail (λ x. x < count) o names h))

false_is : false ≡ true → ⊥
false_is h = absurd (cc)

-- one of the names, or any object of so many
abbrev Has : Bool → List ℕ → ℕ → ℕ → Type 0
Has any names count o = Contains names o ⊎ (IsTrue any × (o < count))

both_have : (x y : Bool) (xs ys : List ℕ) (count o : ℕ) → Has x xs count o → Has y ys count o → Has (x && y) (names_of_both x y xs ys) count o
both_have true false xs ys count o h (inl d) = inl d
both_have true false xs ys count o h (inr e) = absurd (false_is e.0)
both_have false true xs ys count o (inl c) k = inl c
both_have false true xs ys count o (inr e) k = absurd (false_is e.0)
both_have false false xs ys count o (inl c) (inl d) = inl (common_has xs ys o c d)
both_have false false xs ys count o (inl c) (inr e) = absurd (false_is e.0)
both_have false false xs ys count o (inr e) k = absurd (false_is e.0)
both_have true true xs ys count o (inl c) (inl d) = inl (common_has xs ys o c d)
both_have true true xs ys count o (inl c) (inr e) = inr (refl, e.1)
both_have true true xs ys count o (inr e) k = inr (refl, e.1)

first_has : (x y : Bool) (xs ys : List ℕ) (count o : ℕ) → All (λ z. z < count) ys → Has (x && y) (names_of_both x y xs ys) count o → Has x xs count o
first_has true false xs ys count o h (inl d) = inr (refl, All-contains (λ z. z < count) ys o h d)
first_has true false xs ys count o h (inr e) = absurd (false_is e.0)
first_has false true xs ys count o h (inl c) = inl c
first_has false true xs ys count o h (inr e) = absurd (false_is e.0)
first_has false false xs ys count o h (inl c) = inl (common_first xs ys o c)
first_has false false xs ys count o h (inr e) = absurd (false_is e.0)
first_has true true xs ys count o h (inl c) = inl (common_first xs ys o c)
first_has true true xs ys count o h (inr e) = inr (refl, e.1)

second_has : (x y : Bool) (xs ys : List ℕ) (count o : ℕ) → All (λ z. z < count) xs → Has (x && y) (names_of_both x y xs ys) count o → Has y ys count o
second_has true false xs ys count o h (inl d) = inl d
second_has true false xs ys count o h (inr e) = absurd (false_is e.0)
second_has false true xs ys count o h (inl c) = inr (refl, All-contains (λ z. z < count) xs o h c)
second_has false true xs ys count o h (inr e) = absurd (false_is e.0)
second_has false false xs ys count o h (inl c) = inl (common_second xs ys o c)
second_has false false xs ys count o h (inr e) = absurd (false_is e.0)
second_has true true xs ys count o h (inl c) = inl (common_second xs ys o c)
second_has true true xs ys count o h (inr e) = inr (refl, e.1)

names_below : (x y : Bool) (xs ys : List ℕ) (count : ℕ) → All (λ z. z < count) xs → All (λ z. z < count) ys
    → All (λ z. z < count) (names_of_both x y xs ys)
names_below true false xs ys count h k = k
names_below false true xs ys count h k = h
names_below false false xs ys count h k = common_below xs ys count h
names_below true true xs ys count h k = common_below xs ys count h

-- ---- marks

marks_both : (x y a b : Bool) → IsTrue (x || a) → IsTrue (y || b) → IsTrue ((x && y) || ((x || a) && (y || b)))
marks_both true true a b h k = refl
marks_both true false a b h k = k
marks_both false true true b h k = refl
marks_both false true false b h k = absurd (cc)
marks_both false false true b h k = k
marks_both false false false b h k = absurd (cc)

mark_first : (x y a b : Bool) → IsTrue ((x && y) || ((x || a) && (y || b))) → IsTrue (x || a)
mark_first true y a b h = refl
mark_first false y true b h = refl
mark_first false y false b h = absurd (cc)

mark_second : (x y a b : Bool) → IsTrue ((x && y) || ((x || a) && (y || b))) → IsTrue (y || b)
mark_second x true a b h = refl
mark_second x false a true h = refl
mark_second true false a false h = absurd (cc)
mark_second false false true false h = absurd (cc)
mark_second false false false false h = absurd (cc)

flag_second : (a b : Bool) → IsTrue (a && b) → IsTrue b
flag_second true b h = h
flag_second false b h = absurd (cc)

flag_both : (a b : Bool) → IsTrue a → IsTrue b → IsTrue (a && b)
flag_both true b h k = k
flag_both false b h k = absurd (cc)

flag_first : (a b : Bool) → IsTrue (a && b) → IsTrue a
flag_first true b h = refl
flag_first false b h = absurd (cc)

-- ---- sets

-- the common names and marks, with these offsets
abbrev pub set_of_both : Pointers → Pointers → Bounds → Pointers
set_of_both a b w = record {
  any = a.any && b.any;
  null = (a.any || a.null) && (b.any || b.null);
  dead = (a.any || a.dead) && (b.any || b.dead);
  names = names_of_both a.any b.any a.names b.names;
  lo = w.lo;
  hi = w.hi;
  modulus = w.modulus;
  rem = w.rem;
}

spot_both : (objects : List ObjectTree) (a b : Pointers) (w : Bounds) (s : Spot) → IsNarrowedBounds (bounds_of a) (bounds_of b) w
    → IsSpotIn objects a s → IsSpotIn objects b s → IsSpotIn objects (set_of_both a b w) s
spot_both objects a b w spots.Null m h k = marks_both a.any b.any a.null b.null h k
spot_both objects a b w spots.Dead m h k = marks_both a.any b.any a.dead b.dead h k
spot_both objects a b w (spots.At o d) m h k =
    let inside = m.holds d (h.1, h.2) (k.1, k.2) in
    (both_have a.any b.any a.names b.names (length objects) o h.0 k.0, inside.0, inside.1)

spot_first : (objects : List ObjectTree) (a b : Pointers) (w : Bounds) (s : Spot) → IsNarrowedBounds (bounds_of a) (bounds_of b) w
    → NamesBelow (length objects) b → IsSpotIn objects (set_of_both a b w) s → IsSpotIn objects a s
spot_first objects a b w spots.Null m below h = mark_first a.any b.any a.null b.null h
spot_first objects a b w spots.Dead m below h = mark_first a.any b.any a.dead b.dead h
spot_first objects a b w (spots.At o d) m below h =
    let inside = m.inside d (h.1, h.2) in
    (first_has a.any b.any a.names b.names (length objects) o below h.0, inside.0, inside.1)

pub set_narrowed : (a b : Pointers) (w : Bounds) → IsNarrowedBounds (bounds_of a) (bounds_of b) w → IsNarrowedSet a b (set_of_both a b w)
set_narrowed a b w m = record {
  holds = λ objects s h k. spot_both objects a b w s m h k;
  inside = λ objects s below h. spot_first objects a b w s m below h;
  names = λ count h k. names_below a.any b.any a.names b.names count h k;
  null = λ h. mark_second a.any b.any a.null b.null h;
  dead = λ h. mark_second a.any b.any a.dead b.dead h;
  object = λ objects o below h. second_has a.any b.any a.names b.names (length objects) o below h;
  offsets = m;
}

-- such a set, from its parts
abbrev pub set_with : Bounds → Bool → Bool → Bool → List ℕ → Pointers
set_with w any null dead names = record { any = any; null = null; dead = dead; names = names; lo = w.lo; hi = w.hi; modulus = w.modulus; rem = w.rem }

pub set_of_parts : (a b : Pointers) (w : Bounds) (any null dead : Bool) (names : List ℕ) → any ≡ (a.any && b.any)
    → null ≡ ((a.any || a.null) && (b.any || b.null)) → dead ≡ ((a.any || a.dead) && (b.any || b.dead)) → names ≡ names_of_both a.any b.any a.names b.names
    → set_with w any null dead names ≡ set_of_both a b w
set_of_parts a b w any null dead names e f g h = cc

-- ---- what is shown

pub numbers_narrowed : (a b w : Bounds) → IsNarrowedBounds a b w → IsNarrowed (shown_numbers a) (shown_numbers b) (shown_numbers w)
numbers_narrowed a b w m = record {
  form = tt;
  holds = λ objects x h k. holds objects x h k;
  inside = λ objects x below h. inside objects x h;
  names = λ count h k. tt;
  cut = m;
  proper = m.proper;
  divided = λ c h. h;
  known = λ k h. h;
}
  where
    holds : (objects : List ObjectTree) (x : Operand) → IsInShown objects x (shown_numbers a) → IsInShown objects x (shown_numbers b)
        → IsInShown objects x (shown_numbers w)
    holds objects (Number n) h k = m.holds n h k
    holds objects (Point s) h k = absurd h
    holds objects (Points s t) h k = absurd h
    holds objects (Mark n) h k = absurd h
    holds objects (End e) h k = absurd h

    inside : (objects : List ObjectTree) (x : Operand) → IsInShown objects x (shown_numbers w) → IsInShown objects x (shown_numbers a)
    inside objects (Number n) h = m.inside n h
    inside objects (Point s) h = absurd h
    inside objects (Points s t) h = absurd h
    inside objects (Mark n) h = absurd h
    inside objects (End e) h = absurd h

pub one_narrowed : (a b w : Pointers) → IsNarrowedSet a b w → IsNarrowed (shows.One a) (shows.One b) (shows.One w)
one_narrowed a b w m = record {
  form = tt;
  holds = λ objects x h k. holds objects x h k;
  inside = λ objects x below h. inside objects x below h;
  names = m.names;
  cut = m;
  proper = m.offsets.proper;
  divided = λ c h. m.offsets.divided c h.0 h.1;
  known = λ k h. m.offsets.known k h.0 h.1;
}
  where
    holds : (objects : List ObjectTree) (x : Operand) → IsInShown objects x (shows.One a) → IsInShown objects x (shows.One b) → IsInShown objects x (shows.One w)
    holds objects (Point s) h k = m.holds objects s h k
    holds objects (Number n) h k = absurd h
    holds objects (Points s t) h k = absurd h
    holds objects (Mark n) h k = absurd h
    holds objects (End e) h k = absurd h

    inside : (objects : List ObjectTree) (x : Operand) → NamesObjects (length objects) (shows.One b) → IsInShown objects x (shows.One w)
        → IsInShown objects x (shows.One a)
    inside objects (Point s) below h = m.inside objects s below h
    inside objects (Number n) below h = absurd h
    inside objects (Points s t) below h = absurd h
    inside objects (Mark n) below h = absurd h
    inside objects (End e) below h = absurd h

pub pair_narrowed : (a b c d v w : Pointers) → IsNarrowedSet a c v → IsNarrowedSet b d w → IsNarrowed (shows.Pair a b) (shows.Pair c d) (shows.Pair v w)
pair_narrowed a b c d v w m n = record {
  form = tt;
  holds = λ objects x h k. holds objects x h k;
  inside = λ objects x below h. inside objects x below h;
  names = λ count h k. (m.names count h.0 k.0, n.names count h.1 k.1);
  cut = (m, n);
  proper = (m.offsets.proper, n.offsets.proper);
  divided = λ z h. h;
  known = λ k h. h;
}
  where
    holds : (objects : List ObjectTree) (x : Operand) → IsInShown objects x (shows.Pair a b) → IsInShown objects x (shows.Pair c d)
        → IsInShown objects x (shows.Pair v w)
    holds objects (Points s t) h k = (m.holds objects s h.0 k.0, n.holds objects t h.1 k.1)
    holds objects (Number z) h k = absurd h
    holds objects (Point s) h k = absurd h
    holds objects (Mark z) h k = absurd h
    holds objects (End e) h k = absurd h

    inside : (objects : List ObjectTree) (x : Operand) → NamesObjects (length objects) (shows.Pair c d) → IsInShown objects x (shows.Pair v w)
        → IsInShown objects x (shows.Pair a b)
    inside objects (Points s t) below h = (m.inside objects s below.0 h.0, n.inside objects t below.1 h.1)
    inside objects (Number z) below h = absurd h
    inside objects (Point s) below h = absurd h
    inside objects (Mark z) below h = absurd h
    inside objects (End e) below h = absurd h

pub marks_narrowed : (u v b u' v' b' : Bool) → IsNarrowed (shows.Marks u v b) (shows.Marks u' v' b') (shows.Marks (u && u') (v && v') (b && b'))
marks_narrowed u v b u' v' b' = record {
  form = tt;
  holds = λ objects x h k. holds objects x h k;
  inside = λ objects x below h. inside objects x h;
  names = λ count h k. tt;
  cut = λ m h. cut m h;
  proper = tt;
  divided = λ c h. h;
  known = λ k h. h;
}
  where
    holds : (objects : List ObjectTree) (x : Operand) → IsInShown objects x (shows.Marks u v b) → IsInShown objects x (shows.Marks u' v' b')
        → IsInShown objects x (shows.Marks (u && u') (v && v') (b && b'))
    holds objects (Mark Undef) h k = flag_both u u' h k
    holds objects (Mark HasValue) h k = flag_both v v' h k
    holds objects (Mark Broken) h k = flag_both b b' h k
    holds objects (Number n) h k = absurd h
    holds objects (Point s) h k = absurd h
    holds objects (Points s t) h k = absurd h
    holds objects (End e) h k = absurd h

    inside : (objects : List ObjectTree) (x : Operand) → IsInShown objects x (shows.Marks (u && u') (v && v') (b && b'))
        → IsInShown objects x (shows.Marks u v b)
    inside objects (Mark Undef) h = flag_first u u' h
    inside objects (Mark HasValue) h = flag_first v v' h
    inside objects (Mark Broken) h = flag_first b b' h
    inside objects (Number n) h = absurd h
    inside objects (Point s) h = absurd h
    inside objects (Points s t) h = absurd h
    inside objects (End e) h = absurd h

    cut : (m : LoadMark) → IsMarkIn (u && u') (v && v') (b && b') m → IsMarkIn u' v' b' m
    cut Undef h = flag_second u u' h
    cut HasValue h = flag_second v v' h
    cut Broken h = flag_second b b' h

pub ends_narrowed : (v n v' n' : Bool) → IsNarrowed (shows.Ends v n) (shows.Ends v' n') (shows.Ends (v && v') (n && n'))
ends_narrowed v n v' n' = record {
  form = tt;
  holds = λ objects x h k. holds objects x h k;
  inside = λ objects x below h. inside objects x h;
  names = λ count h k. tt;
  cut = λ e h. cut e h;
  proper = tt;
  divided = λ c h. h;
  known = λ k h. h;
}
  where
    holds : (objects : List ObjectTree) (x : Operand) → IsInShown objects x (shows.Ends v n) → IsInShown objects x (shows.Ends v' n')
        → IsInShown objects x (shows.Ends (v && v') (n && n'))
    holds objects (End operands.Value) h k = flag_both v v' h k
    holds objects (End operands.None) h k = flag_both n n' h k
    holds objects (Number m) h k = absurd h
    holds objects (Point s) h k = absurd h
    holds objects (Points s t) h k = absurd h
    holds objects (Mark m) h k = absurd h

    inside : (objects : List ObjectTree) (x : Operand) → IsInShown objects x (shows.Ends (v && v') (n && n')) → IsInShown objects x (shows.Ends v n)
    inside objects (End operands.Value) h = flag_first v v' h
    inside objects (End operands.None) h = flag_first n n' h
    inside objects (Number m) h = absurd h
    inside objects (Point s) h = absurd h
    inside objects (Points s t) h = absurd h
    inside objects (Mark m) h = absurd h

    cut : (e : CallEnd) → IsEndIn (v && v') (n && n') e → IsEndIn v' n' e
    cut operands.Value h = flag_second v v' h
    cut operands.None h = flag_second n n' h
