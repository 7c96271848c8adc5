-- Places in objects that are looked for.
use Rattle.std.proofs.Common.{◌≡◌, ℕ, ◌+◌, ◌<◌, ◌≤◌, ℤ, pos, ◌-ℤ◌, ◌⊎◌, inl, inr, arith, ap, refl, sym, ◌∙◌, subst, List, length, map, get_or, take, IsTrue, true, false}
use Rattle.std.specs.Prelude.{Option, Some, None, MatchOption, IfSome, IsSomeAnd, Contains, All, slice_get, option_map, ◌≢◌, Bool}
use Rattle.std.proofs.lemmas.Int.{ints}
use Rattle.std.proofs.lemmas.Option.{slice_get-map, slice_get_read, slice_get_within}
use Rattle.std.proofs.lemmas.List.{take_all}
use Rattle.std.proofs.lemmas.List.Elements.{All-nil, All-more, All-contains, Contains-get_or}
use Rattle.c_syntax.specs.declared.types.Object.{Object}
use Rattle.c_syntax.specs.declared.alarm.Pointers.{Pointers}
use Rattle.c_syntax.specs.Types.{ObjectTree, object_tree}
use Rattle.c_syntax.specs.Admission.{IsBetween, IsInClass, HasObject, IsNoMultiple}
use Rattle.mem_shown.specs.declared.span.Span.{Span}
use Rattle.mem_shown.specs.declared.wanted.Search.{Search}
use Rattle.mem_shown.specs.declared.place.Place.{Place}
use Rattle.mem_shown.specs.Spans.{InSpan}
use Rattle.mem_shown.specs.Offsets.{Wants, IsHit, IsHitAt, IsWanted}
use Rattle.mem_shown.proofs.Matches.{both_ways}

-- ---- what is looked for at one object

pub drop_within : (s : Span) (r : Option ℤ) (W : ℤ → Type 0) (P : ℤ → Type 0) → ((d : ℤ) → P d)
    → MatchOption r ((m : ℤ) → InSpan s m → ⊥) (λ m. InSpan s m × W m)
    → MatchOption r ((d : ℤ) → InSpan s d → P d → ⊥) (λ d. InSpan s d × P d)
drop_within s r W P all h = both_ways r (λ none d i p. none d i) (λ d i. (i.0, all d)) h

pub at_wanted : (s : Span) (r : Option ℤ) (n : ℤ) → MatchOption r (InSpan s n → ⊥) (λ m. (m ≡ n) × InSpan s m)
    → MatchOption r ((d : ℤ) → InSpan s d → d ≡ n → ⊥) (λ d. InSpan s d × (d ≡ n))
at_wanted s r n h = both_ways r (λ none d i e. none (subst (λ (t : ℤ). InSpan s t) e i)) (λ d i. (i.1, i.0)) h

-- the same offsets by another test
pub by_other : (s : Span) (r : Option ℤ) (P Q : ℤ → Type 0) → ((d : ℤ) → P d → Q d) → ((d : ℤ) → Q d → P d)
    → MatchOption r ((m : ℤ) → InSpan s m → P m → ⊥) (λ m. InSpan s m × P m)
    → MatchOption r ((d : ℤ) → InSpan s d → Q d → ⊥) (λ d. InSpan s d × Q d)
by_other s r P Q f g h = both_ways r (λ none d i q. none d i (g d q)) (λ d i. (i.0, f d i.1)) h

minus_zero : (d : ℤ) → d -ℤ pos 0 ≡ d
minus_zero d = omega (arith, ints)

pub unaligned : (s : Span) (r : Option ℤ) (align : ℕ)
    → MatchOption r ((m : ℤ) → InSpan s m → IsNoMultiple align (m -ℤ pos 0) → ⊥) (λ m. InSpan s m × IsNoMultiple align (m -ℤ pos 0))
    → MatchOption r ((d : ℤ) → InSpan s d → IsNoMultiple align d → ⊥) (λ d. InSpan s d × IsNoMultiple align d)
unaligned s r align h =
    by_other s r (λ d. IsNoMultiple align (d -ℤ pos 0)) (λ d. IsNoMultiple align d)
    (λ d p. subst (λ (t : ℤ). IsNoMultiple align t) (minus_zero d) p) (λ d p. subst (λ (t : ℤ). IsNoMultiple align t) (sym (minus_zero d)) p) h

pub never_written : (s : Span) (b : Bool) → b ≡ false → (d : ℤ) → InSpan s d → IsTrue b → ⊥
never_written s b e d i t = cc

pub hit_none : (s : Search) (o : ℕ) (object : ObjectTree) → (IfSome s.except (λ e. o ≢ e) → ⊥) → (d : ℤ) → IsHit s o object d → ⊥
hit_none s o object h d i = h i.other

pub hit_by : (s : Search) (o : ℕ) (object : ObjectTree) (r : Option ℤ) → IfSome s.except (λ e. o ≢ e)
    → MatchOption r ((d : ℤ) → InSpan s.span d → Wants s.wanted object d → ⊥) (λ d. InSpan s.span d × Wants s.wanted object d)
    → MatchOption r ((d : ℤ) → IsHit s o object d → ⊥) (λ d. IsHit s o object d)
hit_by s o object r other h =
    both_ways r (λ none d i. none d i.inside i.wants) (λ d i. record { other = other; inside = i.0; wants = i.1 }) h

-- ---- among all objects

pub tree_at : (objects : List Object) (k : ℕ) (object : Object) → k < length objects → object ≡ get_or objects k object → slice_get (map object_tree objects) k ≡ Some (object_tree object)
tree_at objects k object h e = slice_get-map object_tree objects k ∙ ap (option_map object_tree) (slice_get_read objects (length objects) k object refl h e)

pub hit_at : (objects : List Object) (s : Search) (k : ℕ) (object : Object) (d : ℤ) → k < length objects → object ≡ get_or objects k object
    → IsHit s k (object_tree object) d → IsHitAt (map object_tree objects) s k d
hit_at objects s k object d h e i = subst (λ (o : Option ObjectTree). IsSomeAnd o (λ x. IsHit s k x d)) (sym (tree_at objects k object h e)) i

pub hit_from : (objects : List Object) (s : Search) (k : ℕ) (object : Object) (d : ℤ) → k < length objects → object ≡ get_or objects k object
    → IsHitAt (map object_tree objects) s k d → IsHit s k (object_tree object) d
hit_from objects s k object d h e i = subst (λ (o : Option ObjectTree). IsSomeAnd o (λ x. IsHit s k x d)) (tree_at objects k object h e) i

-- a place that is looked for is in an object that is there
there : (trees : List ObjectTree) (k : ℕ) (o : Option ObjectTree) (P : ObjectTree → Type 0) → slice_get trees k ≡ o → IsSomeAnd o P → k < length trees
there trees k None P e h = absurd h
there trees k (Some x) P e h = slice_get_within trees k x e

pub below_length : (objects : List Object) (P : ObjectTree → Type 0) (k : ℕ) → IsSomeAnd (slice_get (map object_tree objects) k) P → k < length objects
below_length objects P k h = by (slice_get objects k) refl (subst (λ (o : Option ObjectTree). IsSomeAnd o P) (slice_get-map object_tree objects k) h)
  where
    by : (o : Option Object) → slice_get objects k ≡ o → IsSomeAnd (option_map object_tree o) P → k < length objects
    by None e h = absurd h
    by (Some x) e h = slice_get_within objects k x e

abbrev pub NoneBefore : List Object → Search → ℕ → Type 0
NoneBefore objects s n = (k : ℕ) (d : ℤ) → k < n → IsHitAt (map object_tree objects) s k d → ⊥

pub none_at_first : (objects : List Object) (s : Search) → NoneBefore objects s 0
none_at_first objects s k d h = absurd (omega arith)

pub none_further : (objects : List Object) (s : Search) (n : ℕ) (object : Object) → n < length objects → object ≡ get_or objects n object → NoneBefore objects s n
    → ((d : ℤ) → IsHit s n (object_tree object) d → ⊥) → NoneBefore objects s (n + 1)
none_further objects s n object h e before here k d l i = by (below_or_same k n l)
  where
    below_or_same : (k n : ℕ) → k < n + 1 → (k < n) ⊎ (k ≡ n)
    below_or_same k n l = grind arith

    by : (k < n) ⊎ (k ≡ n) → ⊥
    by (inl m) = before k d m i
    by (inr q) = here d (hit_from objects s n object d h e (subst (λ (t : ℕ). IsHitAt (map object_tree objects) s t d) q i))

pub none_in_all : (objects : List Object) (s : Search) (n : ℕ) → length objects ≤ n → NoneBefore objects s n → (o : ℕ) (d : ℤ) → IsHitAt (map object_tree objects) s o d → ⊥
none_in_all objects s n h before o d i = let l = below_length objects (λ x. IsHit s o x d) o i in before o d (omega arith) i

-- ---- among the objects that are named

-- no object of these is one in which the search finds something
abbrev pub IsMissedAt : List Object → Search → ℕ → Type 0
IsMissedAt objects s o = (d : ℤ) → IsHitAt (map object_tree objects) s o d → ⊥

-- the place is in an object that is named, and is looked for
abbrev pub IsNamedHit : List ℕ → List Object → Search → Place → Type 0
IsNamedHit names objects s p = Contains names p.object × IsHitAt (map object_tree objects) s p.object p.offset

-- the first of the names are all missed, or the place is one that is looked for
abbrev pub IsBest : List ℕ → List Object → Search → ℕ → Option Place → Type 0
IsBest names objects s n first = MatchOption first (All (IsMissedAt objects s) (take n names)) (IsNamedHit names objects s)

pub best_at_first : (names : List ℕ) (objects : List Object) (s : Search) → IsBest names objects s 0 None
best_at_first names objects s = All-nil (IsMissedAt objects s)

pub best_further : (names : List ℕ) (objects : List Object) (s : Search) (n number : ℕ) (object : Object) (offset : Option ℤ) (first next : Option Place)
    → n < length names → number ≡ get_or names n 0 → number < length objects → object ≡ get_or objects number object
    → MatchOption offset ((d : ℤ) → IsHit s number (object_tree object) d → ⊥) (λ d. IsHit s number (object_tree object) d)
    → MatchOption next ((first ≡ None) × (offset ≡ None)) (λ p. (first ≡ Some p) ⊎ ((p.object ≡ number) × (offset ≡ Some p.offset)))
    → IsBest names objects s n first → IsBest names objects s (n + 1) next
best_further names objects s n number object offset first next h q l e found choice best =
    both_ways next (λ (u, v). All-more (IsMissedAt objects s) names n 0 h (earlier u) (λ d i. here v d i)) (λ p c. by p c) choice
  where
    earlier : first ≡ None → All (IsMissedAt objects s) (take n names)
    earlier u = subst (λ (o : Option Place). IsBest names objects s n o) u best

    here : offset ≡ None → (d : ℤ) → IsHitAt (map object_tree objects) s (get_or names n 0) d → ⊥
    here v d i =
        let none : (d : ℤ) → IsHit s number (object_tree object) d → ⊥ =
        subst (λ (o : Option ℤ). MatchOption o ((d : ℤ) → IsHit s number (object_tree object) d → ⊥) (λ d. IsHit s number (object_tree object) d)) v found in
        none d (hit_from objects s number object d l e (subst (λ (t : ℕ). IsHitAt (map object_tree objects) s t d) (sym q) i))

    hit : (d : ℤ) → offset ≡ Some d → IsHit s number (object_tree object) d
    hit d v = subst (λ (o : Option ℤ). MatchOption o ((d : ℤ) → IsHit s number (object_tree object) d → ⊥) (λ d. IsHit s number (object_tree object) d)) v found

    named : Contains names number
    named = subst (λ (t : ℕ). Contains names t) (sym q) (Contains-get_or names n 0 h)

    by : (p : Place) → (first ≡ Some p) ⊎ ((p.object ≡ number) × (offset ≡ Some p.offset)) → IsNamedHit names objects s p
    by p (inl u) = subst (λ (o : Option Place). IsBest names objects s n o) u best
    by p (inr (u, v)) =
        subst (λ (t : ℕ). Contains names t × IsHitAt (map object_tree objects) s t p.offset) (sym u) (named, hit_at objects s number object p.offset l e (hit p.offset v))

pub best_of_all : (names : List ℕ) (objects : List Object) (s : Search) (n : ℕ) (first : Option Place) → length names ≤ n → IsBest names objects s n first
    → MatchOption first ((o : ℕ) (d : ℤ) → Contains names o → IsHitAt (map object_tree objects) s o d → ⊥)
    (λ p. Contains names p.object × IsHitAt (map object_tree objects) s p.object p.offset)
best_of_all names objects s n first h best =
    both_ways first (λ all o d c i. All-contains (IsMissedAt objects s) names o (subst (λ (xs : List ℕ). All (IsMissedAt objects s) xs) (take_all n names h) all) c d i) (λ p i. i) best

-- ---- pointers of a set

parts : (k : ℕ) (s : Search) (d : ℤ) (o : Option ObjectTree) → IsSomeAnd o (λ x. IsHit s k x d) → IfSome s.except (λ e. k ≢ e) × InSpan s.span d × IsSomeAnd o (λ x. Wants s.wanted x d)
parts k s d None h = absurd h
parts k s d (Some x) h = (h.other, h.inside, h.wants)

joined : (k : ℕ) (s : Search) (d : ℤ) (o : Option ObjectTree) → IfSome s.except (λ e. k ≢ e) → InSpan s.span d → IsSomeAnd o (λ x. Wants s.wanted x d) → IsSomeAnd o (λ x. IsHit s k x d)
joined k s d None other inside h = absurd h
joined k s d (Some x) other inside h = record { other = other; inside = inside; wants = h }

-- the span is that of the set's offsets
pub record IsSpanOf (set : Pointers) (span : Span) : Type 0 where
  pub inside : (n : ℤ) → IsBetween set.lo set.hi n → IsInClass set.modulus set.rem n → InSpan span n
  pub back : (n : ℤ) → InSpan span n → IsBetween set.lo set.hi n × IsInClass set.modulus set.rem n

pub hit_from_wanted : (trees : List ObjectTree) (set : Pointers) (s : Search) → IsSpanOf set s.span → (o : ℕ) (d : ℤ) → IsWanted trees set s.wanted s.except o d → IsHitAt trees s o d
hit_from_wanted trees set s span o d w = joined o s d (slice_get trees o) w.other (span.inside d w.spot.1 w.spot.2) w.wants

pub wanted_from_hit : (trees : List ObjectTree) (set : Pointers) (s : Search) → IsSpanOf set s.span → (o : ℕ) (d : ℤ) → HasObject trees set o → IsHitAt trees s o d → IsWanted trees set s.wanted s.except o d
wanted_from_hit trees set s span o d there h =
    let p = parts o s d (slice_get trees o) h in
    let b = span.back d p.1 in
    record { spot = (there, b.0, b.1); other = p.0; wants = p.2 }

pub wanted_in_all : (trees : List ObjectTree) (set : Pointers) (s : Search) (r : Option Place) → IsSpanOf set s.span → set.any ≡ true
    → MatchOption r ((o : ℕ) (d : ℤ) → IsHitAt trees s o d → ⊥) (λ p. IsHitAt trees s p.object p.offset)
    → MatchOption r ((o : ℕ) (d : ℤ) → IsWanted trees set s.wanted s.except o d → ⊥) (λ p. IsWanted trees set s.wanted s.except p.object p.offset)
wanted_in_all trees set s r span e h =
    both_ways r (λ none o d w. none o d (hit_from_wanted trees set s span o d w))
    (λ p i. wanted_from_hit trees set s span p.object p.offset (inr (any, there trees p.object (slice_get trees p.object) (λ x. IsHit s p.object x p.offset) refl i)) i) h
  where
    any : IsTrue set.any
    any = e

pub wanted_among_named : (trees : List ObjectTree) (set : Pointers) (s : Search) (names : List ℕ) (r : Option Place) → IsSpanOf set s.span → set.any ≡ false → names ≡ set.names
    → MatchOption r ((o : ℕ) (d : ℤ) → Contains names o → IsHitAt trees s o d → ⊥) (λ p. Contains names p.object × IsHitAt trees s p.object p.offset)
    → MatchOption r ((o : ℕ) (d : ℤ) → IsWanted trees set s.wanted s.except o d → ⊥) (λ p. IsWanted trees set s.wanted s.except p.object p.offset)
wanted_among_named trees set s names r span e q h =
    both_ways r (λ none o d w. none o d (subst (λ (xs : List ℕ). Contains xs o) (sym q) (named o w.spot.0)) (hit_from_wanted trees set s span o d w))
    (λ p i. wanted_from_hit trees set s span p.object p.offset (inl (subst (λ (xs : List ℕ). Contains xs p.object) q i.0)) i.1) h
  where
    named : (o : ℕ) → HasObject trees set o → Contains set.names o
    named o (inl c) = c
    named o (inr (t, l)) = absurd cc

-- ---- the lesser of two places

abbrev pub IsLesser : Option Place → ℕ → Option ℤ → Option Place → Type 0
IsLesser first number offset r = MatchOption r ((first ≡ None) × (offset ≡ None)) (λ p. (first ≡ Some p) ⊎ ((p.object ≡ number) × (offset ≡ Some p.offset)))

pub lesser_first : (first : Option Place) (number : ℕ) (offset : Option ℤ) → offset ≡ None → IsLesser first number offset first
lesser_first None number offset e = (refl, e)
lesser_first (Some p) number offset e = inl refl
