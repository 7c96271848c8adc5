-- Two pointers of two sets.
use Rattle.std.proofs.Common.{◌≡◌, ℕ, ◌<◌, ◌≤◌, ℤ, pos, ◌+ℤ◌, ◌-ℤ◌, ◌*ℤ◌, ◌⊎◌, inl, inr, arith, refl, sym, ◌∙◌, subst, List, [], ◌∷◌, zero, suc, neg_ℤ, length, map}
use Rattle.std.specs.Prelude.{Option, Some, None, MatchOption, IfSome, IsSomeAnd, slice_get, ◌≢◌}
use Rattle.std.proofs.lemmas.Int.{ints}
use Rattle.std.proofs.lemmas.List.{length-map}
use Rattle.std.proofs.lemmas.List.Elements.{All-contains}
use Rattle.num_api.proofs.Multiples.{multiple_along, multiple_add, multiple_sub, multiple_neg}
use Rattle.c_syntax.specs.declared.types.Object.{Object}
use Rattle.c_syntax.specs.declared.alarm.Pointers.{Pointers}
use Rattle.c_syntax.specs.declared.alarm.Spot.{Spot}
use Rattle.c_syntax.specs.declared.alarm.Spot.TheVariants as spots
use Rattle.c_syntax.specs.Types.{ObjectTree, object_tree}
use Rattle.c_syntax.specs.declared.alarm.Check.{Check}
use Rattle.c_syntax.specs.declared.alarm.WrongKind.{WrongKind}
use Rattle.c_syntax.specs.Operand.{Points}
use Rattle.c_syntax.specs.Admission.{FailsKind, HasObject, IsSpotIn, IsUnrelated, IsNoMultiple}
use Rattle.mem_shown.specs.declared.span.Span.{Span}
use Rattle.mem_shown.specs.declared.pair.Pair.{Pair}
use Rattle.mem_shown.specs.declared.wanted.Wanted.{Wanted}
use Rattle.mem_shown.specs.declared.wanted.Wanted.TheVariants as wanteds
use Rattle.mem_shown.specs.Decisions.{NamesBelow}
use Rattle.mem_shown.specs.Spans.{InSpan}
use Rattle.mem_shown.specs.Offsets.{IsWanted}
use Rattle.mem_shown.specs.Pairs.{AreIn, IsWithOne, AreWanted, AreUnlike}
use Rattle.mem_shown.proofs.Matches.{both_ways}
use Rattle.mem_shown.proofs.Classes.{from_multiple, to_multiple}
use Rattle.mem_shown.proofs.Hits.{IsSpanOf}

-- ---- one of the two is null, or dead

pub with_left : (objects : List ObjectTree) (left right : Pointers) (bad t : Spot) → IsSpotIn objects left bad → IsSpotIn objects right t → IsWithOne objects left right bad bad t
with_left objects left right bad t h k = record { are_in = record { first = h; second = k }; one = inl refl }

pub with_right : (objects : List ObjectTree) (left right : Pointers) (bad s : Spot) → IsSpotIn objects left s → IsSpotIn objects right bad → IsWithOne objects left right bad s bad
with_right objects left right bad s h k = record { are_in = record { first = h; second = k }; one = inr refl }

pub with_none : (objects : List ObjectTree) (left right : Pointers) (bad : Spot) → (IsSpotIn objects left bad → ⊥) → (IsSpotIn objects right bad → ⊥) → (s t : Spot) → IsWithOne objects left right bad s t → ⊥
with_none objects left right bad h k s t w = by w.one
  where
    by : (s ≡ bad) ⊎ (t ≡ bad) → ⊥
    by (inl e) = h (subst (λ (x : Spot). IsSpotIn objects left x) e w.are_in.first)
    by (inr e) = k (subst (λ (x : Spot). IsSpotIn objects right x) e w.are_in.second)

-- ---- two objects

same_or_other : (a b : ℕ) → (a ≡ b) ⊎ (a ≢ b)
same_or_other a b = grind arith

abbrev IsOther : Option ℕ → ℕ → Type 0
IsOther except o = IfSome except (λ e. o ≢ e)

-- what is looked for with no object left out, and with one left out that is another
pub with_all : (objects : List ObjectTree) (set : Pointers) (wanted : Wanted) (except : Option ℕ) (o : ℕ) (d : ℤ) → IsWanted objects set wanted except o d → IsWanted objects set wanted None o d
with_all objects set wanted except o d w = record { spot = w.spot; other = tt; wants = w.wants }

pub without : (objects : List ObjectTree) (set : Pointers) (wanted : Wanted) (n o : ℕ) (d : ℤ) → o ≢ n → IsWanted objects set wanted None o d → IsWanted objects set wanted (Some n) o d
without objects set wanted n o d h w = record { spot = w.spot; other = h; wants = w.wants }

pub two_by_second : (objects : List ObjectTree) (left : Pointers) (of_left : Wanted) (right : Pointers) (of_right : Wanted) (o : ℕ) (d : ℤ) (p : ℕ) (e : ℤ)
    → IsWanted objects left of_left None o d → IsWanted objects right of_right (Some o) p e → AreWanted objects left of_left right of_right o d p e
two_by_second objects left of_left right of_right o d p e h k =
    record { first = h; second = with_all objects right of_right (Some o) p e k; apart = λ q. k.other (sym q) }

pub two_by_first : (objects : List ObjectTree) (left : Pointers) (of_left : Wanted) (right : Pointers) (of_right : Wanted) (o : ℕ) (d : ℤ) (p : ℕ) (e : ℤ)
    → IsWanted objects left of_left (Some p) o d → IsWanted objects right of_right None p e → AreWanted objects left of_left right of_right o d p e
two_by_first objects left of_left right of_right o d p e h k =
    record { first = with_all objects left of_left (Some p) o d h; second = k; apart = h.other }

pub no_two : (objects : List ObjectTree) (left : Pointers) (of_left : Wanted) (right : Pointers) (of_right : Wanted) (m : ℕ) (a : ℤ) (n : ℕ)
    → IsWanted objects left of_left None m a
    → ((p : ℕ) (e : ℤ) → IsWanted objects right of_right (Some m) p e → ⊥) → ((o : ℕ) (d : ℤ) → IsWanted objects left of_left (Some n) o d → ⊥)
    → (o : ℕ) (d : ℤ) (p : ℕ) (e : ℤ) → AreWanted objects left of_left right of_right o d p e → ⊥
no_two objects left of_left right of_right m a n first second third o d p e w = by (same_or_other p m) (same_or_other o n) (same_or_other m n)
  where
    by : (p ≡ m) ⊎ (p ≢ m) → (o ≡ n) ⊎ (o ≢ n) → (m ≡ n) ⊎ (m ≢ n) → ⊥
    by (inl f) (inl g) (inl h) = w.apart (g ∙ sym h ∙ sym f)
    by (inl f) (inl g) (inr h) = third m a (without objects left of_left n m a h first)
    by (inl f) (inr g) k = third o d (without objects left of_left n o d g w.first)
    by (inr f) g k = second p e (without objects right of_right m p e f w.second)

-- ---- one past the end

-- each object of a set is there
at_length : (objects : List Object) (k : ℕ) → k < length objects → IsSomeAnd (slice_get (map object_tree objects) k) (λ x. Unit {0})
at_length objects k h = by objects k h
  where
    by : (objects : List Object) (k : ℕ) → k < length objects → IsSomeAnd (slice_get (map object_tree objects) k) (λ x. Unit {0})
    by [] k h = absurd (omega arith)
    by (x ∷ xs) zero h = tt
    by (x ∷ xs) (suc k) h = by xs k (omega arith)

pub is_there : (objects : List Object) (set : Pointers) (o : ℕ) → NamesBelow (length objects) set → HasObject (map object_tree objects) set o
    → IsSomeAnd (slice_get (map object_tree objects) o) (λ x. Unit {0})
is_there objects set o names (inl c) = at_length objects o (All-contains (λ n. n < length objects) set.names o names c)
is_there objects set o names (inr (t, l)) = at_length objects o (subst (λ (n : ℕ). o < n) (length-map objects object_tree) l)

pub any_wanted : (objects : List Object) (set : Pointers) (o : ℕ) (d : ℤ) → NamesBelow (length objects) set → IsSpotIn (map object_tree objects) set (spots.At o d)
    → IsWanted (map object_tree objects) set wanteds.Any None o d
any_wanted objects set o d names i = record { spot = i; other = tt; wants = is_there objects set o names i.0 }

abbrev pub IsPairAnswer : List ObjectTree → Pointers → Pointers → ℕ → Spot → Spot → Type 0
IsPairAnswer objects left right size s t = AreIn objects left right s t × IsUnrelated objects size (Points s t)

abbrev pub NoPair : List ObjectTree → Pointers → Pointers → ℕ → Type 0
NoPair objects left right size = (s t : Spot) → AreIn objects left right s t → IsUnrelated objects size (Points s t) → ⊥

answer_along : (objects : List ObjectTree) (left right : Pointers) (size : ℕ) (s t u v : Spot) → s ≡ u → t ≡ v → IsPairAnswer objects left right size u v → IsPairAnswer objects left right size s t
answer_along objects left right size s t u v e f h =
    subst (λ (x : Spot). IsPairAnswer objects left right size x t) (sym e) (subst (λ (x : Spot). IsPairAnswer objects left right size u x) (sym f) h)

both_in : (objects : List ObjectTree) (left : Pointers) (of_left : Wanted) (right : Pointers) (of_right : Wanted) (o : ℕ) (d : ℤ) (p : ℕ) (e : ℤ)
    → AreWanted objects left of_left right of_right o d p e → AreIn objects left right (spots.At o d) (spots.At p e)
both_in objects left of_left right of_right o d p e w = record { first = w.first.spot; second = w.second.spot }

-- what two_objects tells
abbrev pub IsTold : List ObjectTree → Pointers → Wanted → Pointers → Wanted → Spot → Spot → Type 0
IsTold objects left of_left right of_right s t =
    (o : ℕ) × (d : ℤ) × (p : ℕ) × (e : ℤ) × (s ≡ spots.At o d) × (t ≡ spots.At p e) × AreWanted objects left of_left right of_right o d p e

abbrev pub NoneTold : List ObjectTree → Pointers → Wanted → Pointers → Wanted → Type 0
NoneTold objects left of_left right of_right = (o : ℕ) (d : ℤ) (p : ℕ) (e : ℤ) → AreWanted objects left of_left right of_right o d p e → ⊥

pub left_at_end : (objects : List ObjectTree) (left right : Pointers) (s t : Spot) → IsTold objects left wanteds.End right wanteds.Any s t → IsPairAnswer objects left right 0 s t
left_at_end objects left right s t (o, d, p, e, q, r, w) =
    answer_along objects left right 0 s t (spots.At o d) (spots.At p e) q r (both_in objects left wanteds.End right wanteds.Any o d p e w, inl (refl, w.apart, inl w.first.wants))

pub right_at_end : (objects : List ObjectTree) (left right : Pointers) (s t : Spot) → IsTold objects left wanteds.Any right wanteds.End s t → IsPairAnswer objects left right 0 s t
right_at_end objects left right s t (o, d, p, e, q, r, w) =
    answer_along objects left right 0 s t (spots.At o d) (spots.At p e) q r (both_in objects left wanteds.Any right wanteds.End o d p e w, inl (refl, w.apart, inr w.second.wants))

pub none_at_end : (objects : List Object) (left right : Pointers) → NamesBelow (length objects) left → NamesBelow (length objects) right
    → NoneTold (map object_tree objects) left wanteds.End right wanteds.Any → NoneTold (map object_tree objects) left wanteds.Any right wanteds.End → NoPair (map object_tree objects) left right 0
none_at_end objects left right a b h k spots.Null t i u = absurd u
none_at_end objects left right a b h k spots.Dead t i u = absurd u
none_at_end objects left right a b h k (spots.At o d) spots.Null i u = absurd u
none_at_end objects left right a b h k (spots.At o d) spots.Dead i u = absurd u
none_at_end objects left right a b h k (spots.At o d) (spots.At p e) i (inl (z, n, inl q)) =
    h o d p e (record { first = record { spot = i.first; other = tt; wants = q }; second = any_wanted objects right p e b i.second; apart = n })
none_at_end objects left right a b h k (spots.At o d) (spots.At p e) i (inl (z, n, inr q)) =
    k o d p e (record { first = any_wanted objects left o d a i.first; second = record { spot = i.second; other = tt; wants = q }; apart = n })
none_at_end objects left right a b h k (spots.At o d) (spots.At p e) i (inr (l, n)) = absurd (omega arith)

-- ---- an order or a difference

pub of_two_objects : (objects : List ObjectTree) (left right : Pointers) (size : ℕ) (s t : Spot) → 1 ≤ size → IsTold objects left wanteds.Any right wanteds.Any s t → IsPairAnswer objects left right size s t
of_two_objects objects left right size s t h (o, d, p, e, q, r, w) =
    answer_along objects left right size s t (spots.At o d) (spots.At p e) q r (both_in objects left wanteds.Any right wanteds.Any o d p e w, inr (omega arith, inl w.apart))

pub of_unlike : (objects : List ObjectTree) (left right : Pointers) (size : ℕ) (s t : Spot) → 1 ≤ size
    → (o : ℕ) × (d : ℤ) × (p : ℕ) × (e : ℤ) × (s ≡ spots.At o d) × (t ≡ spots.At p e) × AreUnlike objects left right size o d p e
    → IsPairAnswer objects left right size s t
of_unlike objects left right size s t h (o, d, p, e, q, r, w) =
    answer_along objects left right size s t (spots.At o d) (spots.At p e) q r (w.are_in, inr (omega arith, inr w.unlike))

pub none_unrelated : (objects : List Object) (left right : Pointers) (size : ℕ) → 1 ≤ size → NamesBelow (length objects) left → NamesBelow (length objects) right
    → NoneTold (map object_tree objects) left wanteds.Any right wanteds.Any
    → ((o : ℕ) (d : ℤ) (p : ℕ) (e : ℤ) → AreUnlike (map object_tree objects) left right size o d p e → ⊥)
    → NoPair (map object_tree objects) left right size
none_unrelated objects left right size one a b h k spots.Null t i u = absurd u
none_unrelated objects left right size one a b h k spots.Dead t i u = absurd u
none_unrelated objects left right size one a b h k (spots.At o d) spots.Null i u = absurd u
none_unrelated objects left right size one a b h k (spots.At o d) spots.Dead i u = absurd u
none_unrelated objects left right size one a b h k (spots.At o d) (spots.At p e) i (inl (z, n, q)) = absurd (omega arith)
none_unrelated objects left right size one a b h k (spots.At o d) (spots.At p e) i (inr (l, inl n)) =
    h o d p e (record { first = any_wanted objects left o d a i.first; second = any_wanted objects right p e b i.second; apart = n })
none_unrelated objects left right size one a b h k (spots.At o d) (spots.At p e) i (inr (l, inr n)) = k o d p e (record { are_in = i; unlike = n })

-- ---- offsets that differ by no multiple

-- another offset of the set in the same object
pub moved_spot : (objects : List ObjectTree) (set : Pointers) (span : Span) (o : ℕ) (d e : ℤ) → IsSpanOf set span → IsSpotIn objects set (spots.At o d) → InSpan span e → IsSpotIn objects set (spots.At o e)
moved_spot objects set span o d e s i h = let b = s.back e h in (i.0, b.0, b.1)

pub turned : (size : ℕ) (d e : ℤ) → IsNoMultiple size (e -ℤ d) → IsNoMultiple size (d -ℤ e)
turned size d e h k f = h there.0 there.1
  where
    minus : (d e : ℤ) → neg_ℤ (d -ℤ e) ≡ e -ℤ d
    minus d e = omega (arith, ints)

    there : (j : ℤ) × ((e -ℤ d) ≡ (pos size *ℤ j))
    there = from_multiple (pos size) (e -ℤ d) (multiple_along (pos size) (neg_ℤ (d -ℤ e)) (e -ℤ d) (minus d e) (multiple_neg (pos size) (d -ℤ e) (to_multiple (pos size) (d -ℤ e) k f)))

pub none_unlike : (objects : List ObjectTree) (left right : Pointers) (size : ℕ) (of_left of_right : Span) (d e : ℤ) → IsSpanOf left of_left → IsSpanOf right of_right → InSpan of_left d
    → ((m : ℤ) → InSpan of_left m → IsNoMultiple size (m -ℤ e) → ⊥) → ((m : ℤ) → InSpan of_right m → IsNoMultiple size (m -ℤ d) → ⊥)
    → (o : ℕ) (x : ℤ) (p : ℕ) (y : ℤ) → AreUnlike objects left right size o x p y → ⊥
none_unlike objects left right size of_left of_right d e sl sr i h k o x p y u =
    h x (sl.inside x u.are_in.first.1 u.are_in.first.2)
    (λ a f. h d i (λ b g. k y (sr.inside y u.are_in.second.1 u.are_in.second.2) (λ c j. all a b c f g j)))
  where
    split : (x y d e : ℤ) → (x -ℤ e) -ℤ ((y -ℤ d) +ℤ (d -ℤ e)) ≡ x -ℤ y
    split x y d e = omega (arith, ints)

    all : (a b c : ℤ) → (x -ℤ e) ≡ (pos size *ℤ a) → (d -ℤ e) ≡ (pos size *ℤ b) → (y -ℤ d) ≡ (pos size *ℤ c) → ⊥
    all a b c f g j =
        let m = multiple_along (pos size) _ (x -ℤ y) (split x y d e)
        (multiple_sub (pos size) (x -ℤ e) ((y -ℤ d) +ℤ (d -ℤ e)) (to_multiple (pos size) (x -ℤ e) a f) (multiple_add (pos size) (y -ℤ d) (d -ℤ e) (to_multiple (pos size) (y -ℤ d) c j) (to_multiple (pos size) (d -ℤ e) b g))) in
        let t = from_multiple (pos size) (x -ℤ y) m in
        u.unlike t.0 t.1

-- ---- some pointer of a set

pub some_by : (objects : List Object) (set : Pointers) (r : Option Spot) → NamesBelow (length objects) set
    → (IsSpotIn (map object_tree objects) set spots.Null → ⊥) → (IsSpotIn (map object_tree objects) set spots.Dead → ⊥)
    → MatchOption r ((o : ℕ) (d : ℤ) → IsWanted (map object_tree objects) set wanteds.Any None o d → ⊥)
    (λ s. (o : ℕ) × (d : ℤ) × (s ≡ spots.At o d) × IsWanted (map object_tree objects) set wanteds.Any None o d)
    → MatchOption r ((s : Spot) → IsSpotIn (map object_tree objects) set s → ⊥) (λ s. IsSpotIn (map object_tree objects) set s)
some_by objects set r names null dead h = both_ways r none some h
  where
    none : ((o : ℕ) (d : ℤ) → IsWanted (map object_tree objects) set wanteds.Any None o d → ⊥) → (s : Spot) → IsSpotIn (map object_tree objects) set s → ⊥
    none n spots.Null i = null i
    none n spots.Dead i = dead i
    none n (spots.At o d) i = n o d (any_wanted objects set o d names i)

    some : (s : Spot) → (o : ℕ) × (d : ℤ) × (s ≡ spots.At o d) × IsWanted (map object_tree objects) set wanteds.Any None o d → IsSpotIn (map object_tree objects) set s
    some s (o, d, q, w) = subst (λ (t : Spot). IsSpotIn (map object_tree objects) set t) (sym q) w.spot

-- ---- pairs that fail

abbrev pub IsPairFailing : List ObjectTree → Check → WrongKind → Pointers → Pointers → Option Pair → Type 0
IsPairFailing objects check kind left right r =
    MatchOption r ((s t : Spot) → AreIn objects left right s t → FailsKind objects check kind (Points s t) → ⊥)
    (λ p. AreIn objects left right p.left p.right × FailsKind objects check kind (Points p.left p.right))

-- a kind that fails where one of the two is null, or dead
pub pair_with_one : (objects : List ObjectTree) (check : Check) (left right : Pointers) (bad : Spot) (kind : WrongKind) (r : Option Pair) → check.kind ≡ kind
    → ((s t : Spot) → FailsKind objects check kind (Points s t) → (s ≡ bad) ⊎ (t ≡ bad)) → ((s t : Spot) → (s ≡ bad) ⊎ (t ≡ bad) → FailsKind objects check kind (Points s t))
    → MatchOption r ((s t : Spot) → IsWithOne objects left right bad s t → ⊥) (λ p. IsWithOne objects left right bad p.left p.right)
    → IsPairFailing objects check check.kind left right r
pair_with_one objects check left right bad kind r e one fails h =
    subst (λ (k : WrongKind). IsPairFailing objects check k left right r) (sym e)
    (both_ways r (λ none s t i f. none s t (record { are_in = i; one = one s t f })) (λ p w. (w.are_in, fails p.left p.right w.one)) h)
