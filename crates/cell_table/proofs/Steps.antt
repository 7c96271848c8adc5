-- How a table and its places change together.
use Rattle.std.proofs.Common.{◌≡◌, ◌≢◌, ℕ, ◌+◌, ◌<◌, ◌≤◌, ◌^◌, true, false, List, None, Some, refl, sym, ap, subst, ◌∙◌, arith}
use Rattle.std.specs.Ordering.{nat_cmp, MatchOrdering}
use Rattle.std.specs.declared.cmp.Ordering.{Ordering}
use Rattle.std.specs.declared.cmp.Ordering.TheVariants.{Less, Equal, Greater}
use Rattle.std.specs.Cmp.{ranks}
use Rattle.std.specs.BTreeMap.{BTreeMap, get, is_at, UpdatesBy, IsUnchanged}
use Rattle.c_syntax.specs.declared.alarm.Cell.{Cell}
use Rattle.cell_table.specs.declared.places.Place.{Place}
use Rattle.cell_table.specs.Cells.{Slot, cell_at, used_at, number_of, in_use_with, in_use_without, HasByte, IsInUse, IsApartFrom, IsTable}
use Rattle.cell_table.specs.Places.{place_cmp}
use Rattle.cell_table.specs.Kept.{IsKept}
use Rattle.cell_table.proofs.Slots.{by_bool, by_nat, cell-with, used-with, cell-with_other, used-with_other, cell-number, cell-number_only, cell-without, used-without_other, used-without}

-- how two numbers compare
pub by_cmp : {P : Type 0} (x y : ℕ) → (x < y → nat_cmp x y ≡ Less → P) → (x ≡ y → nat_cmp x y ≡ Equal → P) → (y < x → nat_cmp x y ≡ Greater → P) → P
by_cmp {P} x y f g h = go (nat_cmp x y) (ranks x y) refl
  where
    go : (r : Ordering) → MatchOrdering r (x < y) (x ≡ y) (y < x) → nat_cmp x y ≡ r → P
    go Less k e = f k e
    go Equal k e = g k e
    go Greater k e = h k e

abbrev pair : ℕ → ℕ → ℕ × ℕ
pair o x = (o, x)

-- a place is at a query for itself alone
pub at-place : (p q : ℕ × ℕ) → is_at (place_cmp p) q ≡ true → q ≡ p
at-place p q h =
    by_cmp p.0 q.0 (λ l e. let no : false ≡ true = rw e at h in cc)
    (λ s e. by_cmp p.1 q.1 (λ l f. let no : false ≡ true = rw (e, f) at h in cc)
    (λ t f. same_pair p q s t)
    (λ l f. let no : false ≡ true = rw (e, f) at h in cc))
    (λ l e. let no : false ≡ true = rw e at h in cc)
  where
    same_pair : (p q : ℕ × ℕ) → p.0 ≡ q.0 → p.1 ≡ q.1 → q ≡ p
    same_pair p q s t = λ i. (sym s i, sym t i)

pub at-itself : (p : ℕ × ℕ) → is_at (place_cmp p) p ≡ true
at-itself p =
    by_cmp p.0 p.0 (λ l e. absurd (omega arith))
    (λ s e. by_cmp p.1 p.1 (λ l f. absurd (omega arith)) (λ t f. rw (e, f) refl) (λ l f. absurd (omega arith)))
    (λ l e. absurd (omega arith))

pub at-other : (p q : ℕ × ℕ) → q ≢ p → is_at (place_cmp p) q ≡ false
at-other p q h = by_bool (is_at (place_cmp p) q) (λ e. absurd (h (at-place p q e))) (λ e. e)

-- a place is a query's or another
by_place : {P : Type 0} (p q : ℕ × ℕ) → (q ≡ p → P) → (q ≢ p → P) → P
by_place p q f g =
    by_bool (is_at (place_cmp p) q) (λ e. f (at-place p q e))
    (λ e. g (λ s. let t : is_at (place_cmp p) q ≡ true = subst (λ (r : ℕ × ℕ). is_at (place_cmp p) r ≡ true) (sym s) (at-itself p) in cc))

-- where slots and entries stay, so does what is kept
pub kept-same : (ss ss' : List Slot) (places places' : BTreeMap (ℕ × ℕ) Place) → ss' ≡ ss → IsUnchanged places places' → IsKept ss places → IsKept ss' places'
kept-same ss ss' places places' same entries kept = record {
  table = subst IsTable (sym same) kept.table;
  sound = λ o x p h. subst (λ (us : List Slot). IsInUse us p.number (record { object = o; offset = x; size = p.size })) (sym same) (kept.sound o x p (rw entries at h));
  whole = λ n c h. rw entries (kept.whole n c (subst (λ (us : List Slot). IsInUse us n c) same h));
}

module _ (ss : List Slot) (c : Cell) (table : IsTable ss) where
  -- a cell has no other number
  one-number : (n : ℕ) → cell_at ss n ≡ Some c → n ≡ number_of ss c
  one-number n h = table.one_number n (number_of ss c) c h (cell-number ss c n h)

  before : (n : ℕ) (d : Cell) → n ≢ number_of ss c → IsInUse (in_use_with ss c) n d → IsInUse ss n d
  before n d h u = record { cell = sym (cell-with_other ss c n h) ∙ u.cell; used = sym (used-with_other ss c n h) ∙ u.used }

  after : (n : ℕ) (d : Cell) → n ≢ number_of ss c → IsInUse ss n d → IsInUse (in_use_with ss c) n d
  after n d h u = record { cell = cell-with_other ss c n h ∙ u.cell; used = used-with_other ss c n h ∙ u.used }

  -- the cell at its number is it
  the-cell : (n : ℕ) (d : Cell) → n ≡ number_of ss c → cell_at (in_use_with ss c) n ≡ Some d → d ≡ c
  the-cell n d e h =
      let at : cell_at (in_use_with ss c) n ≡ Some c = subst (λ (m : ℕ). cell_at (in_use_with ss c) m ≡ Some c) (sym e) (cell-with ss c) in
      let both : Some d ≡ Some c = sym h ∙ at in cc

  -- any cell at another number was there before, and is not this one
  other-cell : (n : ℕ) (d : Cell) → n ≢ number_of ss c → cell_at ss n ≡ Some d → d ≢ c
  other-cell n d h at same = h (one-number n (subst (λ (e : Cell). cell_at ss n ≡ Some e) same at))

  module _ (some_bytes : 1 ≤ c.size) (end : c.offset + c.size < 2 ^ 64) (apart : IsApartFrom ss c) where
    -- a table stays one where a cell apart from the others comes into use
    pub table-with : IsTable (in_use_with ss c)
    table-with = record {
      one_number = λ m n d p q. by_nat m (number_of ss c)
          (λ e. by_nat n (number_of ss c) (λ f. e ∙ sym f)
          (λ g. absurd (other-cell n d g (sym (cell-with_other ss c n g) ∙ q) (the-cell m d e p))))
          (λ g. by_nat n (number_of ss c)
          (λ f. absurd (other-cell m d g (sym (cell-with_other ss c m g) ∙ p) (the-cell n d f q)))
          (λ h. table.one_number m n d (sym (cell-with_other ss c m g) ∙ p) (sym (cell-with_other ss c n h) ∙ q)));
      some_bytes = λ n d p. by_nat n (number_of ss c)
          (λ e. subst (λ (x : Cell). 1 ≤ x.size) (sym (the-cell n d e p)) some_bytes)
          (λ g. table.some_bytes n d (sym (cell-with_other ss c n g) ∙ p));
      ends = λ n d p. by_nat n (number_of ss c)
          (λ e. subst (λ (x : Cell). x.offset + x.size < 2 ^ 64) (sym (the-cell n d e p)) end)
          (λ g. table.ends n d (sym (cell-with_other ss c n g) ∙ p));
      apart = λ m n d d' u v differ o b x y. by_nat m (number_of ss c)
          (λ e. by_nat n (number_of ss c) (λ f. differ (e ∙ sym f))
          (λ g. let w = before n d' g v in
          apart.none n d' w (other-cell n d' g w.cell) o b (subst (λ (z : Cell). HasByte z o b) (the-cell m d e u.cell) x) y))
          (λ g. let w = before m d g u in by_nat n (number_of ss c)
          (λ f. apart.none m d w (other-cell m d g w.cell) o b (subst (λ (z : Cell). HasByte z o b) (the-cell n d' f v.cell) y) x)
          (λ h. table.apart m n d d' w (before n d' h v) differ o b x y));
    }

    module _ (places places' : BTreeMap (ℕ × ℕ) Place) (kept : IsKept ss places)
        (updates : UpdatesBy place_cmp (place_cmp (c.object, c.offset)) places places' (Some (record { number = number_of ss c; size = c.size }))) where
      here : get place_cmp places' (c.object, c.offset) ≡ Some (record { number = number_of ss c; size = c.size })
      here = updates.1

      there : (q : ℕ × ℕ) → q ≢ (c.object, c.offset) → get place_cmp places' q ≡ get place_cmp places q
      there q h = updates.2 q (at-other (c.object, c.offset) q h)

      sound-here : (o x : ℕ) (p : Place) → pair o x ≡ pair c.object c.offset → get place_cmp places' (o, x) ≡ Some p
          → IsInUse (in_use_with ss c) p.number (record { object = o; offset = x; size = p.size })
      sound-here o x p s h =
          let got : Some p ≡ Some (record { number = number_of ss c; size = c.size }) = sym h ∙ ap (get place_cmp places') s ∙ here in
          let place : p ≡ record { number = number_of ss c; size = c.size } = cc in
          let number : p.number ≡ number_of ss c = ap (λ (r : Place). r.number) place in
          let cell : record { object = o; offset = x; size = p.size } ≡ c = λ i. record { object = (s i).0; offset = (s i).1; size = (place i).size } in
          record {
            cell = subst (λ (m : ℕ). cell_at (in_use_with ss c) m ≡ Some (record { object = o; offset = x; size = p.size })) (sym number)
                (cell-with ss c ∙ ap (λ (d : Cell). Some d) (sym cell));
            used = subst (λ (m : ℕ). used_at (in_use_with ss c) m ≡ Some true) (sym number) (used-with ss c);
          }

      sound-there : (o x : ℕ) (p : Place) → pair o x ≢ pair c.object c.offset → get place_cmp places' (o, x) ≡ Some p
          → IsInUse (in_use_with ss c) p.number (record { object = o; offset = x; size = p.size })
      sound-there o x p differ h =
          let d : Cell = record { object = o; offset = x; size = p.size } in
          let old : IsInUse ss p.number d = kept.sound o x p (sym (there (o, x) differ) ∙ h) in
          let other : p.number ≢ number_of ss c = λ e. differ (let same : d ≡ c = cell-number_only ss c d (subst (λ (m : ℕ). cell_at ss m ≡ Some d) e old.cell) in λ i. ((same i).object, (same i).offset)) in
          after p.number d other old

      whole-there : (n : ℕ) (d : Cell) → n ≢ number_of ss c → IsInUse ss n d → pair d.object d.offset ≢ pair c.object c.offset
      whole-there n d g w s =
          let object : d.object ≡ c.object = λ i. (s i).0 in
          let offset : d.offset ≡ c.offset = λ i. (s i).1 in
          apart.none n d w (other-cell n d g w.cell) c.object c.offset
          (record { same = refl; low = omega arith; high = omega (arith, some_bytes) })
          (record { same = object; low = omega (arith, offset); high = omega (arith, offset, table.some_bytes n d w.cell) })

      -- the places stay those of the cells in use
      pub kept-with : IsKept (in_use_with ss c) places'
      kept-with = record {
        table = table-with;
        sound = λ o x p h. by_place (c.object, c.offset) (o, x) (λ s. sound-here o x p s h) (λ s. sound-there o x p s h);
        whole = λ n d u. by_nat n (number_of ss c)
            (λ e. subst (λ (z : Cell). get place_cmp places' (z.object, z.offset) ≡ Some (record { number = n; size = z.size })) (sym (the-cell n d e u.cell))
            (here ∙ ap (λ (m : ℕ). Some (record { number = m; size = c.size })) (sym e)))
            (λ g. let w = before n d g u in there (d.object, d.offset) (whole-there n d g w) ∙ kept.whole n d w);
      }

module _ (ss : List Slot) (n : ℕ) (c : Cell) (in_use : IsInUse ss n c) where
  other-number : (m : ℕ) (d : Cell) → IsInUse (in_use_without ss n) m d → m ≢ n
  other-number m d u e = used-without ss n (subst (λ (k : ℕ). used_at (in_use_without ss n) k ≡ Some true) e u.used)

  pub was-in_use : (m : ℕ) (d : Cell) → IsInUse (in_use_without ss n) m d → IsInUse ss m d
  was-in_use m d u = record { cell = sym (cell-without ss n m) ∙ u.cell; used = sym (used-without_other ss n m (other-number m d u)) ∙ u.used }

  -- a table stays one where a cell goes out of use
  pub table-without : IsTable ss → IsTable (in_use_without ss n)
  table-without table = record {
    one_number = λ m k d p q. table.one_number m k d (sym (cell-without ss n m) ∙ p) (sym (cell-without ss n k) ∙ q);
    some_bytes = λ m d p. table.some_bytes m d (sym (cell-without ss n m) ∙ p);
    ends = λ m d p. table.ends m d (sym (cell-without ss n m) ∙ p);
    apart = λ m k d d' u v. table.apart m k d d' (was-in_use m d u) (was-in_use k d' v);
  }

  module _ (places places' : BTreeMap (ℕ × ℕ) Place) (kept : IsKept ss places)
      (updates : UpdatesBy place_cmp (place_cmp (c.object, c.offset)) places places' None) where
    gone : get place_cmp places' (c.object, c.offset) ≡ None
    gone = updates.1

    stays : (q : ℕ × ℕ) → q ≢ (c.object, c.offset) → get place_cmp places' q ≡ get place_cmp places q
    stays q h = updates.2 q (at-other (c.object, c.offset) q h)

    sound-without : (o x : ℕ) (p : Place) → pair o x ≢ pair c.object c.offset → get place_cmp places' (o, x) ≡ Some p
        → IsInUse (in_use_without ss n) p.number (record { object = o; offset = x; size = p.size })
    sound-without o x p differ h =
        let d : Cell = record { object = o; offset = x; size = p.size } in
        let old : IsInUse ss p.number d = kept.sound o x p (sym (stays (o, x) differ) ∙ h) in
        let other : p.number ≢ n = λ e. differ (
        let both : Some d ≡ Some c = sym old.cell ∙ ap (cell_at ss) e ∙ in_use.cell in
        let same : d ≡ c = cc in λ i. ((same i).object, (same i).offset)) in
        record { cell = cell-without ss n p.number ∙ old.cell; used = used-without_other ss n p.number other ∙ old.used }

    whole-without : (m : ℕ) (d : Cell) → IsInUse (in_use_without ss n) m d → pair d.object d.offset ≢ pair c.object c.offset
    whole-without m d u s =
        let both : Some (record { number = m; size = d.size }) ≡ Some (record { number = n; size = c.size })
        = sym (kept.whole m d (was-in_use m d u)) ∙ ap (get place_cmp places) s ∙ kept.whole n c in_use in
        let same : record { number = m; size = d.size } ≡ record { number = n; size = c.size } = cc in
        other-number m d u (ap (λ (r : Place). r.number) same)

    pub kept-without : IsKept (in_use_without ss n) places'
    kept-without = record {
      table = table-without kept.table;
      sound = λ o x p h. by_place (c.object, c.offset) (o, x)
          (λ s. let none : Some p ≡ None = sym h ∙ ap (get place_cmp places') s ∙ gone in cc)
          (λ s. sound-without o x p s h);
      whole = λ m d u. stays (d.object, d.offset) (whole-without m d u) ∙ kept.whole m d (was-in_use m d u);
    }
