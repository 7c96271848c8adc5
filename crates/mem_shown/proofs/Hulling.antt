-- A hull holds what both sides do.
use Rattle.std.proofs.Common.{◌≡◌, ◌≤ℤ◌, ◌+ℤ◌, ◌*ℤ◌, ℕ, ℤ, pos, ◌<◌, inl, inr, arith, refl, sym, subst, ap, ◌∙◌, ⊎_elim, Bool, true, false, List, [], ◌∷◌, Option, Some, None, to_z, of_z}
use Rattle.std.specs.Int.RustNames.{FitsSigned}
use Rattle.std.proofs.lemmas.Int.{to_z-of_z}
use mir.Syntax.{w128}
use Rattle.std.specs.Prelude.{IsTrue, IfSome, nat_eq, ◌||◌, ◌++◌, if◌then◌else◌, All, Contains}
use Rattle.std.specs.Int.{int_min, int_max}
use Rattle.std.specs.List.{list_any}
use Rattle.std.proofs.Math.IntN.{*ℤ_comm}
use Rattle.std.proofs.lemmas.Int.{ints}
use Rattle.std.proofs.lemmas.Bool.{eqb-true}
use Rattle.std.proofs.lemmas.List.Elements.{All-push, All-head, All-tail, Contains-append_left, Contains-append_right, Contains-append_cases, Contains-push, Contains-push_cases}
use Rattle.c_syntax.specs.declared.alarm.Pointers.{Pointers}
use Rattle.c_syntax.specs.declared.alarm.Shown.{Shown}
use Rattle.c_syntax.specs.declared.alarm.Shown.TheVariants as shows
use Rattle.c_syntax.specs.declared.alarm.Spot.{Spot}
use Rattle.c_syntax.specs.declared.alarm.Spot.TheVariants as spots
use Rattle.c_syntax.specs.Types.{ObjectTree}
use Rattle.c_syntax.specs.Operand.{Operand, Number, Point, Points, Mark, End, LoadMark, CallEnd, Undef, HasValue, Broken}
use Rattle.c_syntax.specs.Operand as operands
use Rattle.c_syntax.specs.Admission.{HasObject, IsBetween, IsInClass, IsInShown, IsModerate, IsProper, IsSpotIn}
use Rattle.num_api.specs.declared.message.Residue.{Residue}
use Rattle.num_api.specs.Residues.{class_of, InResidue, IsResidue}
use Rattle.residues.specs.Classes.{IsJoin, LiesIn}
use Rattle.mem_shown.specs.declared.bounds.Bounds.{Bounds}
use Rattle.mem_shown.specs.Hulls.{HasOffsets, HoldsBoth, HoldsSets, IsHull, IsHullOf, IsProperBounds, IsUnion, bounds, bounds_of, has_objects, lower_end, upper_end, with_names}

-- ---- classes

pub in_class : (modulus rem n : ℤ) → InResidue (class_of rem modulus) n → IsInClass modulus rem n
in_class modulus rem n h = (h.0, h.1 ∙ ap (λ (x : ℤ). rem +ℤ x) (*ℤ_comm h.0 modulus))

pub in_residue : (modulus rem n : ℤ) → IsInClass modulus rem n → InResidue (class_of rem modulus) n
in_residue modulus rem n h = (h.0, h.1 ∙ ap (λ (x : ℤ). rem +ℤ x) (*ℤ_comm modulus h.0))

-- the remainder is in its class, and so is the next number up
own : (modulus rem : ℤ) → IsInClass modulus rem rem
own modulus rem = (pos 0, sym (zero_more rem modulus))
  where
    zero_more : (r m : ℤ) → r +ℤ (m *ℤ pos 0) ≡ r
    zero_more r m = ap (λ (x : ℤ). r +ℤ x) (*ℤ_comm m (pos 0)) ∙ omega (arith, ints)

next : (modulus rem : ℤ) → IsInClass modulus rem (rem +ℤ modulus)
next modulus rem = (pos 1, ap (λ (x : ℤ). rem +ℤ x) (sym (*ℤ_comm modulus (pos 1) ∙ omega (arith, ints))))

-- a class with the modulus 0 has its remainder alone
alone : (modulus rem n : ℤ) → modulus ≡ pos 0 → IsInClass modulus rem n → n ≡ rem
alone modulus rem n z h =
    let none : modulus *ℤ h.0 ≡ pos 0 = ap (λ (x : ℤ). x *ℤ h.0) z ∙ omega (arith, ints) in
    h.1 ∙ ap (λ (x : ℤ). rem +ℤ x) none ∙ omega (arith, ints)

-- ---- ends

lower_moderate : (a b : Option ℤ) → IsModerate a → IsModerate b → IsModerate (lower_end a b)
lower_moderate None b h k = tt
lower_moderate (Some x) None h k = tt
lower_moderate (Some x) (Some y) h k = (grind (arith, ints), grind (arith, ints))

upper_moderate : (a b : Option ℤ) → IsModerate a → IsModerate b → IsModerate (upper_end a b)
upper_moderate None b h k = tt
upper_moderate (Some x) None h k = tt
upper_moderate (Some x) (Some y) h k = (grind (arith, ints), grind (arith, ints))

lower_first : (a b : Option ℤ) (n : ℤ) → IfSome a (λ l. l ≤ℤ n) → IfSome (lower_end a b) (λ l. l ≤ℤ n)
lower_first None b n h = tt
lower_first (Some x) None n h = tt
lower_first (Some x) (Some y) n h = grind (arith, ints)

lower_second : (a b : Option ℤ) (n : ℤ) → IfSome b (λ l. l ≤ℤ n) → IfSome (lower_end a b) (λ l. l ≤ℤ n)
lower_second None b n h = tt
lower_second (Some x) None n h = tt
lower_second (Some x) (Some y) n h = grind (arith, ints)

upper_first : (a b : Option ℤ) (n : ℤ) → IfSome a (λ u. n ≤ℤ u) → IfSome (upper_end a b) (λ u. n ≤ℤ u)
upper_first None b n h = tt
upper_first (Some x) None n h = tt
upper_first (Some x) (Some y) n h = grind (arith, ints)

upper_second : (a b : Option ℤ) (n : ℤ) → IfSome b (λ u. n ≤ℤ u) → IfSome (upper_end a b) (λ u. n ≤ℤ u)
upper_second None b n h = tt
upper_second (Some x) None n h = tt
upper_second (Some x) (Some y) n h = grind (arith, ints)

min_same : (n : ℤ) → int_min n n ≡ n
min_same n = grind (arith, ints)

max_same : (n : ℤ) → int_max n n ≡ n
max_same n = grind (arith, ints)

-- ---- ranges and classes

-- where the hull has the modulus 0, a side is its one number
side_alone : (a w : Bounds) → w.modulus ≡ pos 0 → ((n : ℤ) → IsInClass a.modulus a.rem n → IsInClass w.modulus w.rem n) → IsProperBounds a
    → (a.lo ≡ Some w.rem) × (a.hi ≡ Some w.rem)
side_alone a w z inside p =
    let here = alone w.modulus w.rem a.rem z (inside a.rem (own a.modulus a.rem)) in
    let there = alone w.modulus w.rem (a.rem +ℤ a.modulus) z (inside (a.rem +ℤ a.modulus) (next a.modulus a.rem)) in
    let none : a.modulus ≡ pos 0 = gone a.rem a.modulus w.rem here there in
    let ends = p.point none in
    (ends.0 ∙ ap (λ (n : ℤ). Some n) here, ends.1 ∙ ap (λ (n : ℤ). Some n) here)
  where
    gone : (r m s : ℤ) → r ≡ s → r +ℤ m ≡ s → m ≡ pos 0
    gone r m s e f = omega (arith, ints)

pub proper_hull : (a b w : Bounds) → IsHullOf a b w → IsResidue (class_of w.rem w.modulus) → IsProperBounds a → IsProperBounds b → IsProperBounds w
proper_hull a b w h r p q = record {
  lo_moderate = subst IsModerate (sym h.lo) (lower_moderate a.lo b.lo p.lo_moderate q.lo_moderate);
  hi_moderate = subst IsModerate (sym h.hi) (upper_moderate a.hi b.hi p.hi_moderate q.hi_moderate);
  modulus_low = r.not_negative;
  modulus_high = r.bounded;
  remainder = λ k. (r.rem_low k, r.rem_high k);
  point = λ z.
      let left = side_alone a w z h.first p in let right = side_alone b w z h.second q in (
        h.lo ∙ ap (λ (o : Option ℤ). lower_end o b.lo) left.0 ∙ ap (λ (o : Option ℤ). lower_end (Some w.rem) o) right.0 ∙ ap (λ (n : ℤ). Some n) (min_same w.rem),
        h.hi ∙ ap (λ (o : Option ℤ). upper_end o b.hi) left.1 ∙ ap (λ (o : Option ℤ). upper_end (Some w.rem) o) right.1 ∙ ap (λ (n : ℤ). Some n) (max_same w.rem),
      );
}

-- a class that joins those of both, with their ends
pub hull_by : (a b w : Bounds) (x y z : Residue) → x ≡ class_of a.rem a.modulus → y ≡ class_of b.rem b.modulus → class_of w.rem w.modulus ≡ z
    → w.lo ≡ lower_end a.lo b.lo → w.hi ≡ upper_end a.hi b.hi → ((n : ℤ) → InResidue x n → InResidue z n) → ((n : ℤ) → InResidue y n → InResidue z n)
    → ((s : Residue) → IsJoin x y s → LiesIn z s) → IsHullOf a b w
hull_by a b w x y z e f g low high left right least = record {
  lo = low;
  hi = high;
  first = λ n h. in_class w.modulus w.rem n (subst (λ (r : Residue). InResidue r n) (sym g)
      (left n (subst (λ (r : Residue). InResidue r n) (sym e) (in_residue a.modulus a.rem n h))));
  second = λ n h. in_class w.modulus w.rem n (subst (λ (r : Residue). InResidue r n) (sym g)
      (right n (subst (λ (r : Residue). InResidue r n) (sym f) (in_residue b.modulus b.rem n h))));
  least = λ s h. subst (λ (r : Residue). LiesIn r s) (sym g)
      (least s (subst (λ (r : Residue). IsJoin r y s) (sym e) (subst (λ (r : Residue). IsJoin (class_of a.rem a.modulus) r s) (sym f) h)));
}

-- the number lies in the range and in the class
abbrev pub IsIn : Bounds → ℤ → Type 0
IsIn b n = IsBetween b.lo b.hi n × IsInClass b.modulus b.rem n

pub first_in : (a b w : Bounds) (n : ℤ) → IsHullOf a b w → IsIn a n → IsIn w n
first_in a b w n h i = (
  (
    subst (λ (o : Option ℤ). IfSome o (λ l. l ≤ℤ n)) (sym h.lo) (lower_first a.lo b.lo n i.0.0),
    subst (λ (o : Option ℤ). IfSome o (λ u. n ≤ℤ u)) (sym h.hi) (upper_first a.hi b.hi n i.0.1),
  ),
  h.first n i.1,
)

pub second_in : (a b w : Bounds) (n : ℤ) → IsHullOf a b w → IsIn b n → IsIn w n
second_in a b w n h i = (
  (
    subst (λ (o : Option ℤ). IfSome o (λ l. l ≤ℤ n)) (sym h.lo) (lower_second a.lo b.lo n i.0.0),
    subst (λ (o : Option ℤ). IfSome o (λ u. n ≤ℤ u)) (sym h.hi) (upper_second a.hi b.hi n i.0.1),
  ),
  h.second n i.1,
)

-- ---- names

-- a name that the test finds is there
found_first : (b : Bool) (x : ℕ) (names : List ℕ) (o : ℕ) → nat_eq x o ≡ b → (list_any (λ y. nat_eq y o) names ≡ true → Contains names o)
    → (b || list_any (λ y. nat_eq y o) names) ≡ true → Contains (x ∷ names) o
found_first true x names o e rest h = subst (λ (y : ℕ). Contains (x ∷ names) y) (eqb-true x o e) (0, omega arith, refl)
found_first false x names o e rest h = Contains-append_right (x ∷ []) names o (rest h)

found : (names : List ℕ) (o : ℕ) → list_any (λ x. nat_eq x o) names ≡ true → Contains names o
found [] o h = absurd (cc)
found (x ∷ names) o h = found_first (nat_eq x o) x names o refl (λ k. found names o k) h

abbrev one_more : Bool → List ℕ → ℕ → List ℕ
one_more b names o = if b then names else names ++ o ∷ []

more_keeps : (b : Bool) (names : List ℕ) (o p : ℕ) → Contains names p → Contains (one_more b names o) p
more_keeps true names o p h = h
more_keeps false names o p h = Contains-append_left names (o ∷ []) p h

more_has : (b : Bool) (names : List ℕ) (o : ℕ) → (b ≡ true → Contains names o) → Contains (one_more b names o) o
more_has true names o h = h refl
more_has false names o h = Contains-push names o

more_below : (b : Bool) (names : List ℕ) (o count : ℕ) → All (λ x. x < count) names → o < count → All (λ x. x < count) (one_more b names o)
more_below true names o count h k = h
more_below false names o count h k = All-push (λ x. x < count) names o h k

abbrev is_among : List ℕ → ℕ → Bool
is_among names o = list_any (λ x. nat_eq x o) names

pub names_first : (names others : List ℕ) (p : ℕ) → Contains names p → Contains (with_names names others) p
names_first names [] p h = h
names_first names (o ∷ others) p h = names_first (one_more (is_among names o) names o) others p (more_keeps (is_among names o) names o p h)

no_element : (p : ℕ) → Contains [] p → ⊥
no_element p (k, below, is) = omega (arith, below)

only_one : (o p : ℕ) → Contains (o ∷ []) p → o ≡ p
only_one o p d = ⊎_elim (λ (none : Contains [] p). absurd (no_element p none)) (λ e. e) (Contains-push_cases [] o p d)

pub names_second : (names others : List ℕ) (p : ℕ) → Contains others p → Contains (with_names names others) p
names_second names [] p h = absurd (no_element p h)
names_second names (o ∷ others) p h = ⊎_elim
    (λ c. names_first (one_more (is_among names o) names o) others p
    (subst (Contains (one_more (is_among names o) names o)) (only_one o p c) (more_has (is_among names o) names o (found names o))))
    (λ c. names_second (one_more (is_among names o) names o) others p c) (Contains-append_cases (o ∷ []) others p h)

pub names_below : (names others : List ℕ) (count : ℕ) → All (λ x. x < count) names → All (λ x. x < count) others → All (λ x. x < count) (with_names names others)
names_below names [] count h k = h
names_below names (o ∷ others) count h k = names_below (one_more (is_among names o) names o) others count
    (more_below (is_among names o) names o count h (All-head (λ x. x < count) o others k)) (All-tail (λ x. x < count) o others k)

-- ---- sets

flag_first : (a b c : Bool) → c ≡ (a || b) → IsTrue a → IsTrue c
flag_first true b c e h = e
flag_first false b c e h = absurd (cc)

flag_second : (a b c : Bool) → c ≡ (a || b) → IsTrue b → IsTrue c
flag_second true b c e h = e
flag_second false b c e h = e ∙ h

-- of one of two flags
either_first : (any null other more w v : Bool) → w ≡ (any || other) → v ≡ (null || more) → IsTrue (any || null) → IsTrue (w || v)
either_first true null other more w v e f h = subst (λ (b : Bool). IsTrue (b || v)) (sym e) refl
either_first false false other more w v e f h = absurd (cc)
either_first false true other more w v e f h = subst (λ (b : Bool). IsTrue (w || b)) (sym f) (last w)
  where
    last : (b : Bool) → IsTrue (b || true)
    last true = refl
    last false = refl

either_second : (any null other more w v : Bool) → w ≡ (any || other) → v ≡ (null || more) → IsTrue (other || more) → IsTrue (w || v)
either_second any null true more w v e f h = subst (λ (b : Bool). IsTrue (b || v)) (sym e) (first any)
  where
    first : (b : Bool) → IsTrue ((b || true) || v)
    first true = refl
    first false = refl
either_second any null false false w v e f h = absurd (cc)
either_second any null false true w v e f h = subst (λ (b : Bool). IsTrue (w || b)) (sym f) (last w null)
  where
    last : (b c : Bool) → IsTrue (b || (c || true))
    last true c = refl
    last false true = refl
    last false false = refl

-- a set that has an object has objects
some_object : (objects : List ObjectTree) (set : Pointers) (o : ℕ) → HasObject objects set o → has_objects set ≡ true
some_object objects set o (inl c) = by set.any set.names c
  where
    by : (any : Bool) (names : List ℕ) → Contains names o → has_objects (record set { any = any; names = names }) ≡ true
    by true names h = refl
    by false [] (k, below, is) = absurd (omega (arith, below))
    by false (x ∷ names) h = refl
some_object objects set o (inr c) = by set.any c.0
  where
    by : (any : Bool) → IsTrue any → has_objects (record set { any = any }) ≡ true
    by true h = refl
    by false h = absurd (cc)

offsets_first : (has more : Bool) (a b w : Bounds) (n : ℤ) → has ≡ true → HasOffsets has more a b w → IsIn a n → IsIn w n
offsets_first true true a b w n e h i = first_in a b w n h i
offsets_first true false a b w n e h i = subst (λ (x : Bounds). IsIn x n) (sym h) i
offsets_first false more a b w n e h i = absurd (cc)

offsets_second : (has more : Bool) (a b w : Bounds) (n : ℤ) → more ≡ true → HasOffsets has more a b w → IsIn b n → IsIn w n
offsets_second true true a b w n e h i = second_in a b w n h i
offsets_second true false a b w n e h i = absurd (cc)
offsets_second false more a b w n e h i = subst (λ (x : Bounds). IsIn x n) (sym h) i

objects_first : (objects : List ObjectTree) (a b w : Pointers) (o : ℕ) → IsUnion a b w → HasObject objects a o → HasObject objects w o
objects_first objects a b w o u (inl c) = inl (subst (λ (names : List ℕ). Contains names o) (sym u.names) (names_first a.names b.names o c))
objects_first objects a b w o u (inr c) = inr (flag_first a.any b.any w.any u.any c.0, c.1)

objects_second : (objects : List ObjectTree) (a b w : Pointers) (o : ℕ) → IsUnion a b w → HasObject objects b o → HasObject objects w o
objects_second objects a b w o u (inl c) = inl (subst (λ (names : List ℕ). Contains names o) (sym u.names) (names_second a.names b.names o c))
objects_second objects a b w o u (inr c) = inr (flag_second a.any b.any w.any u.any c.0, c.1)

spot_first : (objects : List ObjectTree) (a b w : Pointers) (s : Spot) → IsUnion a b w → IsSpotIn objects a s → IsSpotIn objects w s
spot_first objects a b w spots.Null u h = either_first a.any a.null b.any b.null w.any w.null u.any u.null h
spot_first objects a b w spots.Dead u h = either_first a.any a.dead b.any b.dead w.any w.dead u.any u.dead h
spot_first objects a b w (spots.At o d) u h =
    let inside = offsets_first (has_objects a) (has_objects b) (bounds_of a) (bounds_of b) (bounds_of w) d (some_object objects a o h.0) u.offsets (h.1, h.2) in
    (objects_first objects a b w o u h.0, inside.0, inside.1)

spot_second : (objects : List ObjectTree) (a b w : Pointers) (s : Spot) → IsUnion a b w → IsSpotIn objects b s → IsSpotIn objects w s
spot_second objects a b w spots.Null u h = either_second a.any a.null b.any b.null w.any w.null u.any u.null h
spot_second objects a b w spots.Dead u h = either_second a.any a.dead b.any b.dead w.any w.dead u.any u.dead h
spot_second objects a b w (spots.At o d) u h =
    let inside = offsets_second (has_objects a) (has_objects b) (bounds_of a) (bounds_of b) (bounds_of w) d (some_object objects b o h.0) u.offsets (h.1, h.2) in
    (objects_second objects a b w o u h.0, inside.0, inside.1)

pub sets_held : (a b w : Pointers) → IsUnion a b w → IsProperBounds (bounds_of w) → HoldsSets a b w
sets_held a b w u p = record {
  first = λ objects s h. spot_first objects a b w s u h;
  second = λ objects s h. spot_second objects a b w s u h;
  proper = p;
  names = λ count h k. subst (λ (names : List ℕ). All (λ o. o < count) names) (sym u.names) (names_below a.names b.names count h k);
}

-- ---- what is shown

pub numbers_held : (a b w : Bounds) → IsHullOf a b w → IsProperBounds w
    → HoldsBoth (shows.Number a.lo a.hi a.modulus a.rem) (shows.Number b.lo b.hi b.modulus b.rem) (shows.Number w.lo w.hi w.modulus w.rem)
numbers_held a b w h p = record { first = λ objects x i. first objects x i; second = λ objects x i. second objects x i; proper = p; names = λ count i k. tt }
  where
    first : (objects : List ObjectTree) (x : Operand) → IsInShown objects x (shows.Number a.lo a.hi a.modulus a.rem) → IsInShown objects x (shows.Number w.lo w.hi w.modulus w.rem)
    first objects (Number n) i = first_in a b w n h i
    first objects (Point s) i = absurd i
    first objects (Points s t) i = absurd i
    first objects (Mark m) i = absurd i
    first objects (End e) i = absurd i

    second : (objects : List ObjectTree) (x : Operand) → IsInShown objects x (shows.Number b.lo b.hi b.modulus b.rem) → IsInShown objects x (shows.Number w.lo w.hi w.modulus w.rem)
    second objects (Number n) i = second_in a b w n h i
    second objects (Point s) i = absurd i
    second objects (Points s t) i = absurd i
    second objects (Mark m) i = absurd i
    second objects (End e) i = absurd i

pub one_held : (a b w : Pointers) → HoldsSets a b w → HoldsBoth (shows.One a) (shows.One b) (shows.One w)
one_held a b w h = record { first = λ objects x i. first objects x i; second = λ objects x i. second objects x i; proper = h.proper; names = h.names }
  where
    first : (objects : List ObjectTree) (x : Operand) → IsInShown objects x (shows.One a) → IsInShown objects x (shows.One w)
    first objects (Point s) i = h.first objects s i
    first objects (Number n) i = absurd i
    first objects (Points s t) i = absurd i
    first objects (Mark m) i = absurd i
    first objects (End e) i = absurd i

    second : (objects : List ObjectTree) (x : Operand) → IsInShown objects x (shows.One b) → IsInShown objects x (shows.One w)
    second objects (Point s) i = h.second objects s i
    second objects (Number n) i = absurd i
    second objects (Points s t) i = absurd i
    second objects (Mark m) i = absurd i
    second objects (End e) i = absurd i

pub pair_held : (a b c d v w : Pointers) → HoldsSets a c v → HoldsSets b d w → HoldsBoth (shows.Pair a b) (shows.Pair c d) (shows.Pair v w)
pair_held a b c d v w h k = record {
  first = λ objects x i. first objects x i;
  second = λ objects x i. second objects x i;
  proper = (h.proper, k.proper);
  names = λ count i j. (h.names count i.0 j.0, k.names count i.1 j.1);
}
  where
    first : (objects : List ObjectTree) (x : Operand) → IsInShown objects x (shows.Pair a b) → IsInShown objects x (shows.Pair v w)
    first objects (Points s t) i = (h.first objects s i.0, k.first objects t i.1)
    first objects (Number n) i = absurd i
    first objects (Point s) i = absurd i
    first objects (Mark m) i = absurd i
    first objects (End e) i = absurd i

    second : (objects : List ObjectTree) (x : Operand) → IsInShown objects x (shows.Pair c d) → IsInShown objects x (shows.Pair v w)
    second objects (Points s t) i = (h.second objects s i.0, k.second objects t i.1)
    second objects (Number n) i = absurd i
    second objects (Point s) i = absurd i
    second objects (Mark m) i = absurd i
    second objects (End e) i = absurd i

-- ---- marks and ends

marks_held : (u v b u' v' b' x y z : Bool) → x ≡ (u || u') → y ≡ (v || v') → z ≡ (b || b') → HoldsBoth (shows.Marks u v b) (shows.Marks u' v' b') (shows.Marks x y z)
marks_held u v b u' v' b' x y z e f g = record {
  first = λ objects o i. first objects o i;
  second = λ objects o i. second objects o i;
  proper = tt;
  names = λ count i k. tt;
}
  where
    first : (objects : List ObjectTree) (o : Operand) → IsInShown objects o (shows.Marks u v b) → IsInShown objects o (shows.Marks x y z)
    first objects (Mark Undef) i = flag_first u u' x e i
    first objects (Mark HasValue) i = flag_first v v' y f i
    first objects (Mark Broken) i = flag_first b b' z g i
    first objects (Number n) i = absurd i
    first objects (Point s) i = absurd i
    first objects (Points s t) i = absurd i
    first objects (End e) i = absurd i

    second : (objects : List ObjectTree) (o : Operand) → IsInShown objects o (shows.Marks u' v' b') → IsInShown objects o (shows.Marks x y z)
    second objects (Mark Undef) i = flag_second u u' x e i
    second objects (Mark HasValue) i = flag_second v v' y f i
    second objects (Mark Broken) i = flag_second b b' z g i
    second objects (Number n) i = absurd i
    second objects (Point s) i = absurd i
    second objects (Points s t) i = absurd i
    second objects (End e) i = absurd i

ends_held : (v n v' n' x y : Bool) → x ≡ (v || v') → y ≡ (n || n') → HoldsBoth (shows.Ends v n) (shows.Ends v' n') (shows.Ends x y)
ends_held v n v' n' x y e f = record {
  first = λ objects o i. first objects o i;
  second = λ objects o i. second objects o i;
  proper = tt;
  names = λ count i k. tt;
}
  where
    first : (objects : List ObjectTree) (o : Operand) → IsInShown objects o (shows.Ends v n) → IsInShown objects o (shows.Ends x y)
    first objects (End operands.Value) i = flag_first v v' x e i
    first objects (End operands.None) i = flag_first n n' y f i
    first objects (Number m) i = absurd i
    first objects (Point s) i = absurd i
    first objects (Points s t) i = absurd i
    first objects (Mark m) i = absurd i

    second : (objects : List ObjectTree) (o : Operand) → IsInShown objects o (shows.Ends v' n') → IsInShown objects o (shows.Ends x y)
    second objects (End operands.Value) i = flag_second v v' x e i
    second objects (End operands.None) i = flag_second n n' y f i
    second objects (Number m) i = absurd i
    second objects (Point s) i = absurd i
    second objects (Points s t) i = absurd i
    second objects (Mark m) i = absurd i

-- ---- hulls

pub held : (a b w : Shown) → IsHull a b w → IsProper w → HoldsBoth a b w
held (shows.Number lo hi m r) (shows.Number l h s t) (shows.Number x y z u) k p = numbers_held (bounds lo hi m r) (bounds l h s t) (bounds x y z u) k p
held (shows.One a) (shows.One b) (shows.One w) k p = one_held a b w (sets_held a b w k p)
held (shows.Pair a b) (shows.Pair c d) (shows.Pair v w) k p = pair_held a b c d v w (sets_held a c v k.0 p.0) (sets_held b d w k.1 p.1)
held (shows.Marks u v b) (shows.Marks x y z) (shows.Marks l m n) k p = marks_held u v b x y z l m n k.0 k.1 k.2
held (shows.Ends v n) (shows.Ends x y) (shows.Ends l m) k p = ends_held v n x y l m k.0 k.1
held a b w k p = absurd k

abbrev pub shown_of : Bounds → Shown
shown_of b = shows.Number b.lo b.hi b.modulus b.rem

pub numbers_hull : (a b w : Shown) (x y z : Bounds) → a ≡ shown_of x → b ≡ shown_of y → w ≡ shown_of z → IsHullOf x y z → IsHull a b w
numbers_hull a b w x y z e f g h = subst (λ (s : Shown). IsHull s b w) (sym e)
    (subst (λ (s : Shown). IsHull (shown_of x) s w) (sym f) (subst (λ (s : Shown). IsHull (shown_of x) (shown_of y) s) (sym g) h))

-- numbers as the code passes them
pub passed : (lo hi : Option ℤ) (m r : ℤ) → FitsSigned w128 m → FitsSigned w128 r
    → bounds lo hi (to_z w128 (of_z w128 m)) (to_z w128 (of_z w128 r)) ≡ bounds lo hi m r
passed lo hi m r f g =
    ap (λ (x : ℤ). bounds lo hi x (to_z w128 (of_z w128 r))) (to_z-of_z w128 m f) ∙ ap (λ (x : ℤ). bounds lo hi m x) (to_z-of_z w128 r g)
