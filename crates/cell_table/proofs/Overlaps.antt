-- The numbers of the places that share a byte with a part of an object are those of the cells that do.
use Rattle.std.proofs.Common.{◌≡◌, ◌≢◌, ℕ, zero, suc, ◌+◌, ◌-◌, ◌<◌, ◌≤◌, ◌==◌, ◌&&◌, nat_lt, Bool, true, false, List, [], ◌∷◌, Some, length, get_or, slice_get, Contains, refl, sym, ap, subst, ◌∙◌, arith, rules}
use Rattle.std.specs.List.{AllByRecursion}
use Rattle.std.specs.List.Sorted.{IsStrictlySortedBy}
use Rattle.std.specs.Map.{keys_of}
use Rattle.std.specs.Ordering.{is_eq}
use Rattle.std.specs.declared.cmp.Ordering.TheVariants.{Less, Equal, Greater}
use Rattle.std.specs.BTreeMap.{BTreeMap, is_at, IsOrdered}
use Rattle.std.specs.Map.{lookup}
use Rattle.c_syntax.specs.declared.alarm.Cell.{Cell}
use Rattle.cell_table.specs.declared.places.Place.{Place}
use Rattle.cell_table.specs.Cells.{Slot, cell_at, IsInUse, IsApartFrom, Overlaps, AreOverlapping}
use Rattle.cell_table.specs.Places.{place_cmp, has_byte_in, numbers_in}
use Rattle.cell_table.specs.Kept.{IsKept}
use Rattle.cell_table.proofs.Slots.{by_bool}
use Rattle.cell_table.proofs.Steps.{by_cmp, at-place, at-itself, at-other}

abbrev Entry : Type 0
Entry = (ℕ × ℕ) × Place

less-after : (k : ℕ × ℕ) (es : List Entry) → AllByRecursion (λ y. place_cmp k y ≡ Less) (keys_of es) → (j : ℕ) (e : Entry) → slice_get es j ≡ Some e → place_cmp k e.0 ≡ Less
less-after k [] h j e at = cc
less-after k (d ∷ es) h zero e at = let same : d ≡ e = cc in subst (λ (x : Entry). place_cmp k x.0 ≡ Less) same h.0
less-after k (d ∷ es) h (suc j) e at = less-after k es h.1 j e at

less-differs : (p q : ℕ × ℕ) → place_cmp p q ≡ Less → p ≢ q
less-differs p q h s =
    let itself : is_eq (place_cmp p p) ≡ true = at-itself p in
    let less : place_cmp p p ≡ Less = subst (λ (r : ℕ × ℕ). place_cmp p r ≡ Less) (sym s) h in
    let no : false ≡ true = rw less at itself in cc

-- an entry of ordered places is found
found : (es : List Entry) → IsStrictlySortedBy place_cmp (keys_of es) → (j : ℕ) (e : Entry) → slice_get es j ≡ Some e → lookup (is_at (place_cmp e.0)) es ≡ Some e.1
unfolding IsStrictlySortedBy
found [] s j e at = cc
found (d ∷ es) s zero e at =
    let same : d ≡ e = cc in
    subst (λ (x : Entry). lookup (is_at (place_cmp x.0)) (d ∷ es) ≡ Some x.1) same (rw (at-itself d.0) refl)
found (d ∷ es) s (suc j) e at = rw (at-other e.0 d.0 (less-differs d.0 e.0 (less-after d.0 es s.0 j e at))) (found es s.1 j e at)

-- what is found is an entry
pub record Stands (es : List Entry) (e : Entry) : Type 0 where
  pub place : ℕ
  pub at : slice_get es place ≡ Some e

stands : (es : List Entry) (k : ℕ × ℕ) (p : Place) → lookup (is_at (place_cmp k)) es ≡ Some p → Stands es (k, p)
stands [] k p h = cc
stands (e ∷ es) k p h =
    by_bool (is_at (place_cmp k) e.0)
    (λ q. let key : e.0 ≡ k = at-place k e.0 q in
    let both : Some e.1 ≡ Some p = rw q at h in
    let value : e.1 ≡ p = cc in
    record { place = zero; at = λ i. Some (key i, value i) })
    (λ q. let rest = stands es k p (rw q at h) in record { place = suc rest.place; at = rest.at })

-- a number stands at an index
abbrev IsAmong : ℕ → List ℕ → Type 0
IsAmong n ns = (i : ℕ) × (slice_get ns i ≡ Some n)

among-contains : (ns : List ℕ) (n i : ℕ) → i < length ns → get_or ns i n ≡ n → IsAmong n ns
among-contains [] n i l h = absurd (omega arith)
among-contains (m ∷ ns) n zero l h = (zero, ap (λ (k : ℕ). Some k) h)
among-contains (m ∷ ns) n (suc i) l h = let rest = among-contains ns n i (omega arith) h in (suc rest.0, rest.1)

contains-among : (ns : List ℕ) (n i : ℕ) → slice_get ns i ≡ Some n → Contains ns n
contains-among [] n i h = cc
contains-among (m ∷ ns) n zero h = (zero, omega arith, cc)
contains-among (m ∷ ns) n (suc i) h = let rest = contains-among ns n i h in (suc rest.0, omega (arith, rest.1), rest.2)

-- a number comes from a place that has a byte there
record Picked (object from to : ℕ) (es : List Entry) (n : ℕ) : Type 0 where
  pub entry : Entry
  pub stands : Stands es entry
  pub has : has_byte_in object from to entry ≡ true
  pub number : entry.1.number ≡ n

module _ (object from to : ℕ) where
  later : (e : Entry) (es : List Entry) (n : ℕ) → Picked object from to es n → Picked object from to (e ∷ es) n
  later e es n p = record { entry = p.entry; stands = record { place = suc p.stands.place; at = p.stands.at }; has = p.has; number = p.number }

  picked : (es : List Entry) (i n : ℕ) → slice_get (numbers_in object from to es) i ≡ Some n → Picked object from to es n
  picked [] i n h = cc
  picked (e ∷ es) zero n h =
      by_bool (has_byte_in object from to e)
      (λ q. let both : Some e.1.number ≡ Some n = rw q at h in record { entry = e; stands = record { place = zero; at = refl }; has = q; number = cc })
      (λ q. later e es n (picked es zero n (rw q at h)))
  picked (e ∷ es) (suc i) n h =
      by_bool (has_byte_in object from to e)
      (λ q. later e es n (picked es i n (rw q at h)))
      (λ q. later e es n (picked es (suc i) n (rw q at h)))

  among : (es : List Entry) (j : ℕ) (e : Entry) → slice_get es j ≡ Some e → has_byte_in object from to e ≡ true → IsAmong e.1.number (numbers_in object from to es)
  among [] j e at has = cc
  among (d ∷ es) zero e at has =
      let same : d ≡ e = cc in
      let has' : has_byte_in object from to d ≡ true = subst (λ (x : Entry). has_byte_in object from to x ≡ true) (sym same) has in
      (zero, rw has' (ap (λ (x : Entry). Some x.1.number) same))
  among (d ∷ es) (suc j) e at has =
      let rest = among es j e at has in
      by_bool (has_byte_in object from to d) (λ q. (suc rest.0, rw q rest.1)) (λ q. (rest.0, rw q rest.1))

  -- of two numbers the first comes from a place below that of the second
  record Pair (es : List Entry) (m n : ℕ) : Type 0 where
    pub first : Picked object from to es m
    pub second : Picked object from to es n
    pub below : place_cmp first.entry.0 second.entry.0 ≡ Less

  later-pair : (e : Entry) (es : List Entry) (m n : ℕ) → Pair es m n → Pair (e ∷ es) m n
  unfolding later
  later-pair e es m n p = record { first = later e es m p.first; second = later e es n p.second; below = p.below }

  pair : (es : List Entry) → IsStrictlySortedBy place_cmp (keys_of es) → (i j m n : ℕ) → i < j
      → slice_get (numbers_in object from to es) i ≡ Some m → slice_get (numbers_in object from to es) j ≡ Some n → Pair es m n
  unfolding IsStrictlySortedBy later picked
  pair [] s i j m n l h k = cc
  pair (e ∷ es) s i zero m n l h k = absurd (omega arith)
  pair (e ∷ es) s zero (suc j) m n l h k =
      by_bool (has_byte_in object from to e)
      (λ q. let both : Some e.1.number ≡ Some m = rw q at h in
      let second = picked es j n (rw q at k) in
      record {
        first = record { entry = e; stands = record { place = zero; at = refl }; has = q; number = cc };
        second = later e es n second;
        below = less-after e.0 es s.0 second.stands.place second.entry second.stands.at;
      })
      (λ q. later-pair e es m n (pair es s.1 zero (suc j) m n l (rw q at h) (rw q at k)))
  pair (e ∷ es) s (suc i) (suc j) m n l h k =
      by_bool (has_byte_in object from to e)
      (λ q. later-pair e es m n (pair es s.1 i j m n (omega arith) (rw q at h) (rw q at k)))
      (λ q. later-pair e es m n (pair es s.1 (suc i) (suc j) m n l (rw q at h) (rw q at k)))

-- what the test of a place tells
record Reaches (object from to : ℕ) (e : Entry) : Type 0 where
  pub same : e.0.0 ≡ object
  pub starts : e.0.1 < to
  pub part : from < to
  pub ends : from - e.0.1 < e.1.size

lt-true : (a b : ℕ) → nat_lt a b ≡ true → a < b
lt-true a b h = search rules

is-lt : (a b : ℕ) → a < b → nat_lt a b ≡ true
is-lt a b h = search rules

eq-true : (a b : ℕ) → (a == b) ≡ true → a ≡ b
eq-true a b h = search rules

is-eq : (a b : ℕ) → a ≡ b → (a == b) ≡ true
is-eq a b h = search rules

and-first : (a b : Bool) → a && b ≡ true → a ≡ true
and-first true b h = refl
and-first false b h = h

and-second : (a b : Bool) → a && b ≡ true → b ≡ true
and-second true b h = h
and-second false b h = cc

reaches : (object from to : ℕ) (e : Entry) → has_byte_in object from to e ≡ true → Reaches object from to e
reaches object from to e h =
    let rest = and-second (e.0.0 == object) _ h in
    let last = and-second (nat_lt e.0.1 to) _ rest in
    record {
      same = eq-true _ _ (and-first _ _ h);
      starts = lt-true _ _ (and-first _ _ rest);
      part = lt-true _ _ (and-first _ _ last);
      ends = lt-true _ _ (and-second (nat_lt from to) _ last);
    }

tests : (object from to : ℕ) (e : Entry) → Reaches object from to e → has_byte_in object from to e ≡ true
tests object from to e r = rw (is-eq e.0.0 object r.same, is-lt e.0.1 to r.starts, is-lt from to r.part, is-lt (from - e.0.1) e.1.size r.ends) refl

module _ (ss : List Slot) (places : BTreeMap (ℕ × ℕ) Place) (kept : IsKept ss places) (ordered : IsOrdered place_cmp places) (object from to : ℕ) where
  in-use : (e : Entry) → Stands places.entries e → IsInUse ss e.1.number (record { object = e.0.0; offset = e.0.1; size = e.1.size })
  in-use e s = kept.sound e.0.0 e.0.1 e.1 (found places.entries ordered s.place e s.at)

  overlaps-entry : (e : Entry) → Stands places.entries e → has_byte_in object from to e ≡ true → Overlaps ss object from to e.1.number
  overlaps-entry e s h =
      let r = reaches object from to e h in
      by_bool (nat_lt from e.0.1)
      (λ q. let l = lt-true _ _ q in record {
        cell = record { object = e.0.0; offset = e.0.1; size = e.1.size };
        in_use = in-use e s;
        byte = e.0.1;
        has = record { same = r.same; low = omega arith; high = omega (arith, r.ends) };
        low = omega arith;
        high = r.starts;
      })
      (λ q. let l : e.0.1 ≤ from = search rules in record {
        cell = record { object = e.0.0; offset = e.0.1; size = e.1.size };
        in_use = in-use e s;
        byte = from;
        has = record { same = r.same; low = l; high = omega (arith, r.ends) };
        low = omega arith;
        high = r.part;
      })

  overlaps-number : (n : ℕ) → IsAmong n (numbers_in object from to places.entries) → Overlaps ss object from to n
  overlaps-number n a =
      let p = picked object from to places.entries a.0 n a.1 in
      subst (λ (m : ℕ). Overlaps ss object from to m) p.number (overlaps-entry p.entry p.stands p.has)

  number-overlaps : (n : ℕ) → Overlaps ss object from to n → IsAmong n (numbers_in object from to places.entries)
  number-overlaps n o =
      let s = stands places.entries (o.cell.object, o.cell.offset) (record { number = n; size = o.cell.size }) (kept.whole n o.cell o.in_use) in
      among object from to places.entries s.place ((o.cell.object, o.cell.offset), record { number = n; size = o.cell.size }) s.at
      (tests object from to ((o.cell.object, o.cell.offset), record { number = n; size = o.cell.size })
      (record {
        same = o.has.same;
        starts = omega (arith, o.has.low, o.high);
        part = omega (arith, o.low, o.high);
        ends = omega (arith, o.low, o.has.high, o.has.low);
      }))

  rising : (m n : ℕ) (c d : Cell) → Pair object from to places.entries m n → cell_at ss m ≡ Some c → cell_at ss n ≡ Some d → c.offset < d.offset
  rising m n c d p h k =
      let a = p.first.entry in
      let b = p.second.entry in
      let one : Some (record { object = a.0.0; offset = a.0.1; size = a.1.size }) ≡ Some c = sym (in-use a p.first.stands).cell ∙ ap (cell_at ss) p.first.number ∙ h in
      let two : Some (record { object = b.0.0; offset = b.0.1; size = b.1.size }) ≡ Some d = sym (in-use b p.second.stands).cell ∙ ap (cell_at ss) p.second.number ∙ k in
      let first : record { object = a.0.0; offset = a.0.1; size = a.1.size } ≡ c = cc in
      let second : record { object = b.0.0; offset = b.0.1; size = b.1.size } ≡ d = cc in
      let objects : a.0.0 ≡ b.0.0 = (reaches object from to a p.first.has).same ∙ sym (reaches object from to b p.second.has).same in
      let offsets : a.0.1 < b.0.1 = by_cmp a.0.0 b.0.0 (λ l e. absurd (omega (arith, objects)))
      (λ s e. by_cmp a.0.1 b.0.1 (λ l f. l)
      (λ t f. let no : Equal ≡ Less = rw (e, f) at p.below in cc)
      (λ l f. let no : Greater ≡ Less = rw (e, f) at p.below in cc))
      (λ l e. absurd (omega (arith, objects))) in
      omega (arith, offsets, ap (λ (x : Cell). x.offset) first, ap (λ (x : Cell). x.offset) second)

  pub are-overlapping : AreOverlapping ss object from to (numbers_in object from to places.entries)
  are-overlapping = record {
    each = λ n. (
      λ h. overlaps-number n (among-contains _ n h.0 h.1 h.2),
      λ o. let a = number-overlaps n o in contains-among _ n a.0 a.1,
    );
    by_offset = λ i j m n c d l h k p q. rising m n c d (pair object from to places.entries ordered i j m n l h k) p q;
  }

-- where only the cell itself shares bytes with it, it is apart from the others
pub apart-overlapping : (ss : List Slot) (c : Cell) (ns : List ℕ) → AreOverlapping ss c.object c.offset (c.offset + c.size) ns
    → ((n : ℕ) → Contains ns n → cell_at ss n ≡ Some c) → IsApartFrom ss c
apart-overlapping ss c ns are only = record {
  none = λ n d u differ o b x y.
      let there : Contains ns n = (are.each n).1 (record {
        cell = d;
        in_use = u;
        byte = b;
        has = record { same = y.same ∙ sym x.same; low = y.low; high = y.high };
        low = x.low;
        high = x.high;
      }) in
      let both : Some d ≡ Some c = sym u.cell ∙ only n there in
      let same : d ≡ c = cc in
      differ same;
}
