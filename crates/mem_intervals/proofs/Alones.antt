-- What shows one operand alone.
use Rattle.std.proofs.Common.{◌≡◌, ◌⊎◌, ◌<◌, ◌≤ℤ◌, ◌+ℤ◌, ◌*ℤ◌, inl, inr, ℕ, ℤ, pos, Bool, true, false, arith, refl, sym, subst, ap, ◌∙◌, List, [], ◌∷◌, length, Option, Some}
use Rattle.std.specs.Prelude.{Contains, IfSome}
use Rattle.std.proofs.lemmas.Int.{ints}
use Rattle.std.proofs.lemmas.List.Elements.{All-nil, All-cons, All-contains}
use Rattle.c_syntax.specs.declared.alarm.Check.{Check}
use Rattle.c_syntax.specs.declared.alarm.Pointers.{Pointers}
use Rattle.c_syntax.specs.declared.alarm.Shown.{Shown}
use Rattle.c_syntax.specs.declared.alarm.Shown.TheVariants as shows
use Rattle.c_syntax.specs.declared.alarm.Spot.{Spot}
use Rattle.c_syntax.specs.declared.alarm.Spot.TheVariants as spots
use Rattle.c_syntax.specs.declared.alarm.WrongKind.{WrongKind}
use Rattle.c_syntax.specs.declared.alarm.WrongKind.TheVariants as kinds
use Rattle.c_syntax.specs.Types.{ObjectTree}
use Rattle.c_syntax.specs.Operand.{Operand, Point, Points, Number, Mark, End, Undef, HasValue, Broken}
use Rattle.c_syntax.specs.Operand as operands
use Rattle.c_syntax.specs.Admission.{HasObject, IsBetween, IsInClass, IsSpotIn, IsInShown, IsModerate, IsProper, IsProperRange, IsProperSet, Fails}
use Rattle.num_api.specs.Residues.{IsMultiple}
use Rattle.num_api.proofs.Multiples.{multiple_along, multiple_add, times_multiple, zero_multiple}
use Rattle.csharp.specs.Trees.{CsExprTree}
use Rattle.mem_shown.specs.Decisions.{NamesBelow, NamesObjects}
use Rattle.mem_api.specs.Named.{HasOnly, ShowsOnly, ShowsOffset}
use Rattle.mem_api.specs.Showing.{IsRange, IsSet, IsPair, AreMarks, AreEnds, ArePointers, HasForm, IsAlone}
use Rattle.mem_intervals.specs.AloneOr.{nowhere, set_alone, mark_alone, end_alone, alone_of, IsShowableSpot, IsShowable, IsAloneOr}

-- ---- the operand, and nothing else

spot_there : (objects : List ObjectTree) (s : Spot) → IsSpotIn objects (set_alone s) s
spot_there objects spots.Null = refl
spot_there objects spots.Dead = refl
spot_there objects (spots.At o d) = (inl (0, omega arith, refl), (omega (arith, ints), omega (arith, ints)), (pos 0, omega (arith, ints)))

-- of no object
unnamed : (objects : List ObjectTree) (p : ℕ) → Contains [] p ⊎ ((false ≡ true) × (p < length objects)) → ⊥
unnamed objects p (inl c) = let below = c.1 in omega (arith, below)
unnamed objects p (inr q) = let no = q.0 in absurd (cc)

spot_only : (objects : List ObjectTree) (s t : Spot) → IsSpotIn objects (set_alone s) t → t ≡ s
spot_only objects spots.Null spots.Null h = refl
spot_only objects spots.Null spots.Dead h = absurd (cc)
spot_only objects spots.Null (spots.At p e) h = absurd (unnamed objects p h.0)
spot_only objects spots.Dead spots.Null h = absurd (cc)
spot_only objects spots.Dead spots.Dead h = refl
spot_only objects spots.Dead (spots.At p e) h = absurd (unnamed objects p h.0)
spot_only objects (spots.At o d) spots.Null h = absurd (cc)
spot_only objects (spots.At o d) spots.Dead h = absurd (cc)
spot_only objects (spots.At o d) (spots.At p e) h = same (object h.0) (offset h.1.0 h.1.1) where
  object : (Contains (o ∷ []) p ⊎ ((false ≡ true) × (p < length objects))) → p ≡ o
  object (inl c) = All-contains (λ x. x ≡ o) (o ∷ []) p (All-cons (λ x. x ≡ o) o [] refl (All-nil (λ x. x ≡ o))) c
  object (inr q) = let no = q.0 in absurd (cc)

  offset : d ≤ℤ e → e ≤ℤ d → e ≡ d
  offset a b = omega (arith, ints)

  same : p ≡ o → e ≡ d → spots.At p e ≡ spots.At o d
  same a b = cc

operand_there : (objects : List ObjectTree) (x : Operand) → IsInShown objects x (alone_of x)
operand_there objects (Number n) = ((omega (arith, ints), omega (arith, ints)), (pos 0, omega (arith, ints)))
operand_there objects (Point s) = spot_there objects s
operand_there objects (Points s t) = (spot_there objects s, spot_there objects t)
operand_there objects (Mark Undef) = refl
operand_there objects (Mark HasValue) = refl
operand_there objects (Mark Broken) = refl
operand_there objects (End operands.Value) = refl
operand_there objects (End operands.None) = refl

mark_only : (objects : List ObjectTree) (m n : operands.LoadMark) → IsInShown objects (Mark n) (mark_alone m) → n ≡ m
mark_only objects Undef Undef h = refl
mark_only objects Undef HasValue h = absurd (cc)
mark_only objects Undef Broken h = absurd (cc)
mark_only objects HasValue Undef h = absurd (cc)
mark_only objects HasValue HasValue h = refl
mark_only objects HasValue Broken h = absurd (cc)
mark_only objects Broken Undef h = absurd (cc)
mark_only objects Broken HasValue h = absurd (cc)
mark_only objects Broken Broken h = refl

end_only : (objects : List ObjectTree) (d e : operands.CallEnd) → IsInShown objects (End e) (end_alone d) → e ≡ d
end_only objects operands.Value operands.Value h = refl
end_only objects operands.Value operands.None h = absurd (cc)
end_only objects operands.None operands.Value h = absurd (cc)
end_only objects operands.None operands.None h = refl

between : (n m : ℤ) → n ≤ℤ m → m ≤ℤ n → m ≡ n
between n m a b = omega (arith, ints)

two_points : (s t u v : Spot) → u ≡ s → v ≡ t → Points u v ≡ Points s t
two_points s t u v a b = cc

-- a mark and an end show no other kind of operand
marks_alone : (objects : List ObjectTree) (m : operands.LoadMark) (y : Operand) → IsInShown objects y (mark_alone m) → (n : operands.LoadMark) × (y ≡ Mark n)
marks_alone objects m (Mark n) h = (n, refl)
marks_alone objects Undef (Number k) h = absurd h
marks_alone objects HasValue (Number k) h = absurd h
marks_alone objects Broken (Number k) h = absurd h
marks_alone objects Undef (Point s) h = absurd h
marks_alone objects HasValue (Point s) h = absurd h
marks_alone objects Broken (Point s) h = absurd h
marks_alone objects Undef (Points s t) h = absurd h
marks_alone objects HasValue (Points s t) h = absurd h
marks_alone objects Broken (Points s t) h = absurd h
marks_alone objects Undef (End e) h = absurd h
marks_alone objects HasValue (End e) h = absurd h
marks_alone objects Broken (End e) h = absurd h

ends_alone : (objects : List ObjectTree) (d : operands.CallEnd) (y : Operand) → IsInShown objects y (end_alone d) → (e : operands.CallEnd) × (y ≡ End e)
ends_alone objects d (End e) h = (e, refl)
ends_alone objects operands.Value (Number k) h = absurd h
ends_alone objects operands.None (Number k) h = absurd h
ends_alone objects operands.Value (Point s) h = absurd h
ends_alone objects operands.None (Point s) h = absurd h
ends_alone objects operands.Value (Points s t) h = absurd h
ends_alone objects operands.None (Points s t) h = absurd h
ends_alone objects operands.Value (Mark m) h = absurd h
ends_alone objects operands.None (Mark m) h = absurd h

operand_only : (objects : List ObjectTree) (x y : Operand) → IsInShown objects y (alone_of x) → y ≡ x
operand_only objects (Number n) (Number m) h = ap Number (between n m h.0.0 h.0.1)
operand_only objects (Number n) (Point s) h = absurd h
operand_only objects (Number n) (Points s t) h = absurd h
operand_only objects (Number n) (Mark m) h = absurd h
operand_only objects (Number n) (End e) h = absurd h
operand_only objects (Point s) (Point t) h = ap Point (spot_only objects s t h)
operand_only objects (Point s) (Number n) h = absurd h
operand_only objects (Point s) (Points t u) h = absurd h
operand_only objects (Point s) (Mark m) h = absurd h
operand_only objects (Point s) (End e) h = absurd h
operand_only objects (Points s t) (Points u v) h = two_points s t u v (spot_only objects s u h.0) (spot_only objects t v h.1)
operand_only objects (Points s t) (Number n) h = absurd h
operand_only objects (Points s t) (Point u) h = absurd h
operand_only objects (Points s t) (Mark m) h = absurd h
operand_only objects (Points s t) (End e) h = absurd h
operand_only objects (Mark m) y h =
    let n = marks_alone objects m y h in
    n.1 ∙ ap Mark (mark_only objects m n.0 (subst (λ (z : Operand). IsInShown objects z (mark_alone m)) n.1 h))
operand_only objects (End d) y h =
    let e = ends_alone objects d y h in
    e.1 ∙ ap End (end_only objects d e.0 (subst (λ (z : Operand). IsInShown objects z (end_alone d)) e.1 h))

pub alone : (objects : List ObjectTree) (x : Operand) → IsAlone objects x (alone_of x)
alone objects x = record {
  there = operand_there objects x;
  only = operand_only objects x;
}

-- ---- its form is that of what held it

range_alone : (objects : List ObjectTree) (x : Operand) (w : Shown) → IsInShown objects x w → IsRange w → IsRange (alone_of x)
range_alone objects (Number n) (shows.Number lo hi modulus rem) h k = tt
range_alone objects (Point s) (shows.Number lo hi modulus rem) h k = absurd h
range_alone objects (Points s t) (shows.Number lo hi modulus rem) h k = absurd h
range_alone objects (Mark m) (shows.Number lo hi modulus rem) h k = absurd h
range_alone objects (End e) (shows.Number lo hi modulus rem) h k = absurd h
range_alone objects x (shows.One set) h k = absurd k
range_alone objects x (shows.Pair left right) h k = absurd k
range_alone objects x (shows.Marks undef value broken) h k = absurd k
range_alone objects x (shows.Ends value none) h k = absurd k

set_has_form : (objects : List ObjectTree) (x : Operand) (w : Shown) → IsInShown objects x w → IsSet w → IsSet (alone_of x)
set_has_form objects (Point s) (shows.One set) h k = tt
set_has_form objects (Number n) (shows.One set) h k = absurd h
set_has_form objects (Points s t) (shows.One set) h k = absurd h
set_has_form objects (Mark m) (shows.One set) h k = absurd h
set_has_form objects (End e) (shows.One set) h k = absurd h
set_has_form objects x (shows.Number lo hi modulus rem) h k = absurd k
set_has_form objects x (shows.Pair left right) h k = absurd k
set_has_form objects x (shows.Marks undef value broken) h k = absurd k
set_has_form objects x (shows.Ends value none) h k = absurd k

pair_has_form : (objects : List ObjectTree) (x : Operand) (w : Shown) → IsInShown objects x w → IsPair w → IsPair (alone_of x)
pair_has_form objects (Points s t) (shows.Pair left right) h k = tt
pair_has_form objects (Number n) (shows.Pair left right) h k = absurd h
pair_has_form objects (Point s) (shows.Pair left right) h k = absurd h
pair_has_form objects (Mark m) (shows.Pair left right) h k = absurd h
pair_has_form objects (End e) (shows.Pair left right) h k = absurd h
pair_has_form objects x (shows.Number lo hi modulus rem) h k = absurd k
pair_has_form objects x (shows.One set) h k = absurd k
pair_has_form objects x (shows.Marks undef value broken) h k = absurd k
pair_has_form objects x (shows.Ends value none) h k = absurd k

marks_have_form : (objects : List ObjectTree) (x : Operand) (w : Shown) → IsInShown objects x w → AreMarks w → AreMarks (alone_of x)
marks_have_form objects (Mark Undef) (shows.Marks undef value broken) h k = tt
marks_have_form objects (Mark HasValue) (shows.Marks undef value broken) h k = tt
marks_have_form objects (Mark Broken) (shows.Marks undef value broken) h k = tt
marks_have_form objects (Number n) (shows.Marks undef value broken) h k = absurd h
marks_have_form objects (Point s) (shows.Marks undef value broken) h k = absurd h
marks_have_form objects (Points s t) (shows.Marks undef value broken) h k = absurd h
marks_have_form objects (End e) (shows.Marks undef value broken) h k = absurd h
marks_have_form objects x (shows.Number lo hi modulus rem) h k = absurd k
marks_have_form objects x (shows.One set) h k = absurd k
marks_have_form objects x (shows.Pair left right) h k = absurd k
marks_have_form objects x (shows.Ends value none) h k = absurd k

ends_have_form : (objects : List ObjectTree) (x : Operand) (w : Shown) → IsInShown objects x w → AreEnds w → AreEnds (alone_of x)
ends_have_form objects (End operands.Value) (shows.Ends value none) h k = tt
ends_have_form objects (End operands.None) (shows.Ends value none) h k = tt
ends_have_form objects (Number n) (shows.Ends value none) h k = absurd h
ends_have_form objects (Point s) (shows.Ends value none) h k = absurd h
ends_have_form objects (Points s t) (shows.Ends value none) h k = absurd h
ends_have_form objects (Mark m) (shows.Ends value none) h k = absurd h
ends_have_form objects x (shows.Number lo hi modulus rem) h k = absurd k
ends_have_form objects x (shows.One set) h k = absurd k
ends_have_form objects x (shows.Pair left right) h k = absurd k
ends_have_form objects x (shows.Marks undef value broken) h k = absurd k

pointers_have_form : (es : List CsExprTree) (objects : List ObjectTree) (x : Operand) (w : Shown) → IsInShown objects x w → ArePointers es w → ArePointers es (alone_of x)
pointers_have_form (e ∷ f ∷ []) objects x w h k = pair_has_form objects x w h k
pointers_have_form (e ∷ f ∷ g ∷ es) objects x w h k = set_has_form objects x w h k
pointers_have_form (e ∷ []) objects x w h k = set_has_form objects x w h k
pointers_have_form [] objects x w h k = set_has_form objects x w h k

pub has_form : (kind : WrongKind) (es : List CsExprTree) (objects : List ObjectTree) (x : Operand) (w : Shown) → IsInShown objects x w → HasForm kind es w
    → HasForm kind es (alone_of x)
has_form kinds.Indeterminate es objects x w h k = marks_have_form objects x w h k
has_form kinds.Fragment es objects x w h k = marks_have_form objects x w h k
has_form kinds.NullUse es objects x w h k = pointers_have_form es objects x w h k
has_form kinds.Dangling es objects x w h k = pointers_have_form es objects x w h k
has_form kinds.Bounds es objects x w h k = set_has_form objects x w h k
has_form kinds.Access es objects x w h k = set_has_form objects x w h k
has_form kinds.Alignment es objects x w h k = set_has_form objects x w h k
has_form kinds.ReadOnly es objects x w h k = set_has_form objects x w h k
has_form kinds.Unrelated es objects x w h k = pair_has_form objects x w h k
has_form kinds.NoValue es objects x w h k = ends_have_form objects x w h k
has_form kind es objects x w h k = range_alone objects x w h k

-- ---- it is proper

nowhere_proper : (null dead : Bool) → IsProperSet (nowhere null dead)
nowhere_proper null dead = record {
  lo_moderate = tt;
  hi_moderate = tt;
  modulus_low = omega (arith, ints);
  modulus_high = omega (arith, ints);
  remainder = λ h. (omega (arith, ints), omega (arith, ints));
  point = λ h. absurd (omega (arith, ints, h));
}

point_proper : (n : ℤ) → IsModerate (Some n) → IsProperRange (Some n) (Some n) (pos 0) n
point_proper n m = record {
  lo_moderate = m;
  hi_moderate = m;
  modulus_low = omega (arith, ints);
  modulus_high = omega (arith, ints);
  remainder = λ h. absurd (omega (arith, ints, h));
  point = λ h. (refl, refl);
}

set_proper : (s : Spot) → IsShowableSpot s → IsProperSet (set_alone s)
set_proper spots.Null h = nowhere_proper true false
set_proper spots.Dead h = nowhere_proper false true
set_proper (spots.At o d) h = point_proper d h

pub proper : (x : Operand) → IsShowable x → IsProper (alone_of x)
proper (Number n) h = point_proper n h
proper (Point s) h = set_proper s h
proper (Points s t) h = (set_proper s h.0, set_proper t h.1)
proper (Mark Undef) h = tt
proper (Mark HasValue) h = tt
proper (Mark Broken) h = tt
proper (End operands.Value) h = tt
proper (End operands.None) h = tt

-- ---- it names what was named

set_names : (objects : List ObjectTree) (s : Spot) (set : Pointers) → IsSpotIn objects set s → NamesBelow (length objects) set → NamesBelow (length objects) (set_alone s)
set_names objects spots.Null set h k = All-nil (λ o. o < length objects)
set_names objects spots.Dead set h k = All-nil (λ o. o < length objects)
set_names objects (spots.At o d) set h k = All-cons (λ x. x < length objects) o [] (below h.0) (All-nil (λ x. x < length objects)) where
  below : HasObject objects set o → o < length objects
  below (inl c) = All-contains (λ x. x < length objects) set.names o k c
  below (inr q) = q.1

pub names : (objects : List ObjectTree) (x : Operand) (w : Shown) → IsInShown objects x w → NamesObjects (length objects) w → NamesObjects (length objects) (alone_of x)
names objects (Number n) w h k = tt
names objects (Mark Undef) w h k = tt
names objects (Mark HasValue) w h k = tt
names objects (Mark Broken) w h k = tt
names objects (End operands.Value) w h k = tt
names objects (End operands.None) w h k = tt
names objects (Point s) (shows.One set) h k = set_names objects s set h k
names objects (Point s) (shows.Number lo hi modulus rem) h k = absurd h
names objects (Point s) (shows.Pair left right) h k = absurd h
names objects (Point s) (shows.Marks undef value broken) h k = absurd h
names objects (Point s) (shows.Ends value none) h k = absurd h
names objects (Points s t) (shows.Pair left right) h k = (set_names objects s left h.0 k.0, set_names objects t right h.1 k.1)
names objects (Points s t) (shows.Number lo hi modulus rem) h k = absurd h
names objects (Points s t) (shows.One set) h k = absurd h
names objects (Points s t) (shows.Marks undef value broken) h k = absurd h
names objects (Points s t) (shows.Ends value none) h k = absurd h

-- ---- a pointer into one object

-- an offset of a class whose modulus and remainder are multiples is a multiple
class_multiple : (c : ℕ) (modulus rem d : ℤ) → IsMultiple (pos c) modulus → IsMultiple (pos c) rem → IsInClass modulus rem d → IsMultiple (pos c) d
class_multiple c modulus rem d m r (k, e) =
    multiple_along (pos c) (rem +ℤ (modulus *ℤ k)) d (sym e) (multiple_add (pos c) rem (modulus *ℤ k) r (times_multiple (pos c) modulus k m))

spot_only_in : (objects : List ObjectTree) (o c : ℕ) (s : Spot) (set : Pointers) → IsSpotIn objects set s → HasOnly objects set o c → HasOnly objects (set_alone s) o c
spot_only_in objects o c spots.Null set h f = let at = f.object spots.Null h in let no = at.1 in absurd (cc)
spot_only_in objects o c spots.Dead set h f = let at = f.object spots.Dead h in let no = at.1 in absurd (cc)
spot_only_in objects o c (spots.At p e) set h f =
    let at = f.object (spots.At p e) h in
    record {
      object = λ t k. (at.0, spot_only objects (spots.At p e) t k ∙ at.1);
      modulus = zero_multiple (pos c);
      rem = class_multiple c set.modulus set.rem e f.modulus f.rem h.2;
    }

pub only_in : (objects : List ObjectTree) (o c : ℕ) (x : Operand) (w : Shown) → IsInShown objects x w → ShowsOnly objects o c w → ShowsOnly objects o c (alone_of x)
only_in objects o c (Point s) (shows.One set) h f = spot_only_in objects o c s set h f
only_in objects o c (Number n) (shows.One set) h f = absurd h
only_in objects o c (Points s t) (shows.One set) h f = absurd h
only_in objects o c (Mark m) (shows.One set) h f = absurd h
only_in objects o c (End e) (shows.One set) h f = absurd h
only_in objects o c x (shows.Number lo hi modulus rem) h f = absurd f
only_in objects o c x (shows.Pair left right) h f = absurd f
only_in objects o c x (shows.Marks undef value broken) h f = absurd f
only_in objects o c x (shows.Ends value none) h f = absurd f

-- between two ends that are one number it is that
one_offset : (k d : ℤ) (lo hi : Option ℤ) → lo ≡ Some k → hi ≡ Some k → IsBetween lo hi d → d ≡ k
one_offset k d lo hi low high h =
    let a : k ≤ℤ d = subst (λ o. IfSome o (λ l. l ≤ℤ d)) low h.0 in
    let b : d ≤ℤ k = subst (λ o. IfSome o (λ u. d ≤ℤ u)) high h.1 in omega (arith, ints, a, b)

spot_offset : (objects : List ObjectTree) (o c : ℕ) (k : ℤ) (s : Spot) (set : Pointers) → IsSpotIn objects set s → HasOnly objects set o c
    → (set.lo ≡ Some k) × (set.hi ≡ Some k) → ShowsOffset k (shows.One (set_alone s))
spot_offset objects o c k spots.Null set h f g = let at = f.object spots.Null h in let no = at.1 in absurd (cc)
spot_offset objects o c k spots.Dead set h f g = let at = f.object spots.Dead h in let no = at.1 in absurd (cc)
spot_offset objects o c k (spots.At p e) set h f g =
    let same : Some e ≡ Some k = ap (λ (n : ℤ). Some n) (one_offset k e set.lo set.hi g.0 g.1 h.1) in (same, same)

pub offset_of : (objects : List ObjectTree) (o c : ℕ) (k : ℤ) (x : Operand) (w : Shown) → IsInShown objects x w → ShowsOnly objects o c w → ShowsOffset k w
    → ShowsOffset k (alone_of x)
offset_of objects o c k (Point s) (shows.One set) h f g = spot_offset objects o c k s set h f g
offset_of objects o c k (Number n) (shows.One set) h f g = absurd h
offset_of objects o c k (Points s t) (shows.One set) h f g = absurd h
offset_of objects o c k (Mark m) (shows.One set) h f g = absurd h
offset_of objects o c k (End e) (shows.One set) h f g = absurd h
offset_of objects o c k x (shows.Number lo hi modulus rem) h f g = absurd g
offset_of objects o c k x (shows.Pair left right) h f g = absurd g
offset_of objects o c k x (shows.Marks undef value broken) h f g = absurd g
offset_of objects o c k x (shows.Ends value none) h f g = absurd g

-- ---- the operand alone, or what was shown

module _ (count : ℕ) (w r : Shown) (x : Operand) (k : IsAloneOr count w x r) (objects : List ObjectTree) (n : length objects ≡ count) where
  -- what is so of what was shown, and of the operand alone where it is one of those, is so of the result
  pub either : (P : Shown → Type 0) → P w → (IsShowable x → IsInShown objects x w → P (alone_of x)) → P r
  either P h next = by k where
    by : IsAloneOr count w x r → P r
    by (inl f) = subst P (sym f.0) (next f.1 (f.2 objects n))
    by (inr f) = subst P (sym f.0) h

  pub is_alone : IsInShown objects x w → IsAlone objects x r
  is_alone there = by k where
    by : IsAloneOr count w x r → IsAlone objects x r
    by (inl f) = subst (λ (v : Shown). IsAlone objects x v) (sym f.0) (alone objects x)
    by (inr f) = absurd (f.1 objects n there)

  -- the operand of a state in the set is shown, and nothing else
  pub held_alone : (y : Operand) → x ≡ y → IsInShown objects y w → IsAlone objects y r
  held_alone y same there =
      subst (λ (z : Operand). IsAlone objects z r) same (is_alone (subst (λ (z : Operand). IsInShown objects z w) (sym same) there))

  pub either_form : (kind : WrongKind) (es : List CsExprTree) → HasForm kind es w → HasForm kind es r
  either_form kind es h = either (λ v. HasForm kind es v) h (λ s there. has_form kind es objects x w there h)

  pub either_proper : IsProper w → IsProper r
  either_proper h = either (λ v. IsProper v) h (λ s there. proper x s)

  pub either_names : NamesObjects (length objects) w → NamesObjects (length objects) r
  either_names h = either (λ v. NamesObjects (length objects) v) h (λ s there. names objects x w there h)

  pub either_safe : (check : Check) → ((y : Operand) → IsInShown objects y w → Fails objects check y → ⊥)
      → (y : Operand) → IsInShown objects y r → Fails objects check y → ⊥
  either_safe check h = either (λ v. (y : Operand) → IsInShown objects y v → Fails objects check y → ⊥) h
      (λ s there y shown bad. h x there (subst (λ (z : Operand). Fails objects check z) (operand_only objects x y shown) bad))

  pub either_only : (o c : ℕ) → ShowsOnly objects o c w → ShowsOnly objects o c r
  either_only o c h = either (λ v. ShowsOnly objects o c v) h (λ s there. only_in objects o c x w there h)

  pub either_offset : (o c : ℕ) (d : ℤ) → ShowsOnly objects o c w → ShowsOffset d w → ShowsOffset d r
  either_offset o c d only h = either (λ v. ShowsOffset d v) h (λ s there. offset_of objects o c d x w there only h)
