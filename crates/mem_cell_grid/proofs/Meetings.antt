-- What two sides say at once, item by item.
use Rattle.std.proofs.Common.{ℕ, ◌≡◌, ◌⊎◌, ◌+◌, ◌-◌, ◌<◌, ◌≤◌, ◌++◌, ◌&&◌, ◌||◌, not, Bool, true, false, List, [], ◌∷◌, length, slice_get, Option, Some, None, refl, sym, ap, subst, ◌∙◌, arith, inl, inr, get_or}
use Rattle.std.proofs.lemmas.Bool.{cases_lt}
use Rattle.pointsets.specs.Targets.{BaseSet, covers_set, joined}
use Rattle.pointsets.proofs.Bases.{covers-has, joined-left, joined-right}
use Rattle.pointsets.proofs.Weights.{joined-less, joined-falls}
use Rattle.mem_cell_bytes.specs.declared.entry.Entry.{Entry}
use Rattle.mem_cell_bytes.specs.declared.entry.FillByte.{FillByte}
use Rattle.mem_cell_bytes.specs.declared.entry.Stretch.{Stretch}
use Rattle.mem_cell_bytes.specs.Contents.{Contents}
use Rattle.mem_cell_bytes.specs.Joins.{IsWider}
use Rattle.mem_cell_bytes.specs.Stands.{Has, IsInStretch}
use Rattle.mem_cell_bytes.specs.Weights.{covers_entry, entry_weight, joined_entry, pointer_weight, stretch_weight, total}
use Rattle.mem_cell_bytes.proofs.Steps.{has-push, has-none}
use Rattle.mem_cell_bytes.proofs.Weights.{entry-falls, entry-less, total-append}
use Rattle.mem_cell_grid.specs.Lefts.{IsIn}
use Rattle.mem_cell_grid.specs.Meetings.{AreCellsMet, AreContentsMet, AreMet, AreStretchesMet, IsAtPlace, IsCellMet, IsMetFrom, IsPartMet, IsPointerMet, IsStretchMet}
use Rattle.mem_cell_grid.proofs.Lists.{get-below, get-push, has-new, has-old}

-- ---- tests

or-left : (a b : Bool) → a ≡ true → (a || b) ≡ true
or-left true b h = refl
or-left false b h = cc

or-right : (a b : Bool) → b ≡ true → (a || b) ≡ true
or-right true b h = refl
or-right false b h = h

implied : (a b : Bool) → (a || not b) ≡ true → b ≡ true → a ≡ true
implied true b h k = refl
implied false true h k = h
implied false false h k = k

pub both-true : (a b : Bool) → (a && b) ≡ true → (a ≡ true) × (b ≡ true)
both-true true b h = (refl, h)
both-true false b h = cc

pub some-false : (a b : Bool) → (a && b) ≡ false → (a ≡ false) ⊎ (b ≡ false)
some-false true b h = inr h
some-false false b h = inl refl

pub false-second : (a b : Bool) → b ≡ false → (a && b) ≡ false
false-second true b h = h
false-second false b h = refl

pub false-first : (a b : Bool) → a ≡ false → (a && b) ≡ false
false-first true b h = cc
false-first false b h = refl

-- ---- cells

pub wider-self : (e : Entry) → IsWider e e
wider-self e = record { offset = refl; ty = refl; undef = λ h. h; value = λ h. h; targets = λ b h. h }

joined-first : (e d : Entry) → IsWider e (joined_entry e d)
joined-first e d = record { offset = refl; ty = refl; undef = or-left e.undef d.undef; value = or-left e.value d.value; targets = joined-left e.targets d.targets }

joined-second : (e d : Entry) → e.offset ≡ d.offset → e.ty ≡ d.ty → IsWider d (joined_entry e d)
joined-second e d at ty = record { offset = at; ty = ty; undef = or-right e.undef d.undef; value = or-right e.value d.value; targets = joined-right e.targets d.targets }

covers-wider : (e d : Entry) → e.offset ≡ d.offset → e.ty ≡ d.ty → covers_entry e d ≡ true → IsWider d e
covers-wider e d at ty h =
    let a = both-true (e.undef || not d.undef) ((e.value || not d.value) && covers_set e.targets d.targets) h in
    let b = both-true (e.value || not d.value) (covers_set e.targets d.targets) a.1 in
    record { offset = at; ty = ty; undef = implied e.undef d.undef a.0; value = implied e.value d.value b.0; targets = λ x k. covers-has e.targets d.targets x b.1 k }

pub cells-start : (others met : List Entry) → met ≡ [] → AreCellsMet [] others met true
cells-start others met is = record {
  first = λ e h. has-none met e is h;
  second = λ e h. has-none met e is h;
  less = let z : total entry_weight met ≡ 0 = ap (total entry_weight) is in omega (arith, z);
  falls = λ h. cc;
  covers = λ h e k. has-none [] e refl k;
}

module _ (xs others met met' : List Entry) (e : Entry) (kept : Bool) (was : AreCellsMet xs others met kept) where
  weight : total entry_weight (xs ++ e ∷ []) ≡ total entry_weight xs + entry_weight e
  weight = total-append entry_weight xs (e ∷ []) ∙ (let z : total entry_weight xs + (entry_weight e + 0) ≡ total entry_weight xs + entry_weight e = omega arith in z)

  -- a cell that is lost
  cell-lost : met' ≡ met → AreCellsMet (xs ++ e ∷ []) others met' false
  cell-lost is = record {
    first = λ d h. let f = was.first d (subst (λ ys. Has ys d) is h) in (f.0, has-old xs e f.0 f.1, f.2);
    second = λ d h. was.second d (subst (λ ys. Has ys d) is h);
    less = let z = ap (total entry_weight) is in let l = was.less in let w = weight in omega (arith, z, l, w);
    falls = λ h. let z = ap (total entry_weight) is in let l = was.less in let w = weight in omega (arith, z, l, w);
    covers = λ h. cc;
  }

  -- a cell that is met becomes c
  cell-met : (d c : Entry) (keeps : Bool) → IsAtPlace others e d → met' ≡ met ++ c ∷ [] → IsWider e c → IsWider d c → entry_weight c ≤ entry_weight e
      → (keeps ≡ false → entry_weight c < entry_weight e) → (keeps ≡ true → IsWider d e) → AreCellsMet (xs ++ e ∷ []) others met' (kept && keeps)
  cell-met d c keeps at is first second less falls covered =
      let z : total entry_weight met' ≡ total entry_weight met + (entry_weight c + 0) = ap (total entry_weight) is ∙ total-append entry_weight met (c ∷ []) in
      record {
        first = λ x h. has-push {P = (d : Entry) × Has (xs ++ e ∷ []) d × IsWider d x} met c x (subst (λ ys. Has ys x) is h)
            (λ old. let f = was.first x old in (f.0, has-old xs e f.0 f.1, f.2))
            (λ same. (e, has-new xs e, subst (IsWider e) (sym same) first));
        second = λ x h. has-push {P = (d : Entry) × Has others d × IsWider d x} met c x (subst (λ ys. Has ys x) is h)
            (λ old. was.second x old)
            (λ same. (d, at.has, subst (IsWider d) (sym same) second));
        less = let l = was.less in let w = weight in omega (arith, z, l, w, less);
        falls = λ h. elim (some-false kept keeps h) [
          | inl a ↦ let l = was.falls a in let w = weight in omega (arith, z, l, w, less)
          | inr b ↦ let l = was.less in let w = weight in let f = falls b in omega (arith, z, l, w, f)
        ];
        covers = λ h x k. let b = both-true kept keeps h in has-push {P = (d : Entry) × Has others d × IsWider d x} xs e x k
            (λ old. was.covers b.0 x old)
            (λ same. (d, at.has, subst (IsWider d) (sym same) (covered b.1)));
      }

  pub cells-step : (keeps : Bool) → IsCellMet others e met met' keeps → AreCellsMet (xs ++ e ∷ []) others met' (kept && keeps)
  cells-step keeps (inl lost) = subst (λ b. AreCellsMet (xs ++ e ∷ []) others met' b) (sym (false-second kept keeps lost.1)) (cell-lost lost.0)
  cells-step keeps (inr (d, at, inl same)) =
      let wide = covers-wider e d (sym at.offset) (sym at.ty) same.1 in
      cell-met d e keeps at same.2 (wider-self e) wide (omega arith) (λ h. let no = same.0 in cc) (λ h. wide)
  cells-step keeps (inr (d, at, inr joins)) =
      cell-met d (joined_entry e d) keeps at joins.2 (joined-first e d) (joined-second e d (sym at.offset) (sym at.ty)) (entry-less e d) (λ h. entry-falls e d joins.1)
      (λ h. let no = joins.0 in cc)

-- ---- stretches

-- what was met of a stretch up to a byte
pub record IsSeen (others : List Stretch) (f : Stretch) (old met : List Stretch) (low : ℕ) (kept : Bool) : Type 0 where
  pub from : f.from ≤ low
  pub to : (low ≤ f.to) ⊎ (low ≡ f.from)
  pub bytes : (q : ℕ) (x : FillByte) → IsInStretch met q x → IsInStretch old q x ⊎ (IsIn f q x × IsInStretch others q x)
  pub less : total stretch_weight met ≤ total stretch_weight old + (low - f.from)
  pub falls : kept ≡ false → total stretch_weight met < total stretch_weight old + (low - f.from)
  pub covers : kept ≡ true → (q : ℕ) → f.from ≤ q → q < low → IsInStretch others q f.byte

pub seen-start : (others : List Stretch) (f : Stretch) (old : List Stretch) → IsSeen others f old old f.from true
seen-start others f old = record {
  from = omega arith;
  to = inr refl;
  bytes = λ q x h. inl h;
  less = omega arith;
  falls = λ h. cc;
  covers = λ h q low high. absurd (omega (arith, low, high));
}

seen-more : (others : List Stretch) (f g : Stretch) (old met met' : List Stretch) (low next : ℕ) (kept keeps : Bool) → Has others g
    → IsSeen others f old met low kept → IsMetFrom f g low kept met met' next keeps → IsSeen others f old met' next keeps
seen-more others f g old met met' low next kept keeps has was m =
    let weight : total stretch_weight met' ≡ total stretch_weight met + (next - m.from) = m.adds.weight in
    record {
      from = let a = was.from in omega (arith, a, m.low_from, m.some);
      to = inl m.to;
      bytes = λ q x h. elim (m.adds.bytes q x h) [
        | inl o ↦ was.bytes q x o
        | inr i ↦ inr (
          (let a = was.from in omega (arith, a, m.low_from, i.0), let b = m.to in omega (arith, b, i.1), i.2),
          record { stretch = g; has = has; from = omega (arith, m.other_from, i.0); to = omega (arith, m.other_to, i.1); is = m.byte ∙ i.2 },
        )
      ];
      less = let l = was.less in let a = was.from in omega (arith, weight, l, a, m.low_from, m.some);
      falls = λ h. elim (m.losing h) [
        | inl n ↦ let l = was.falls n in let a = was.from in omega (arith, weight, l, a, m.low_from, m.some)
        | inr n ↦ let l = was.less in let a = was.from in omega (arith, weight, l, a, n, m.some)
      ];
      covers = λ h q from to. let k = m.keeping h in elim (cases_lt q low) [
        | inl below ↦ was.covers k.0 q from below
        | inr above ↦ record { stretch = g; has = has; from = let e = k.1 in let o = m.other_from in omega (arith, e, o, above); to = let o = m.other_to in omega (arith, o, to); is = m.byte }
      ];
    }

pub seen-step : (others : List Stretch) (f g : Stretch) (old met met' : List Stretch) (low next : ℕ) (kept keeps : Bool) → Has others g
    → IsSeen others f old met low kept → IsPartMet f g low kept met met' next keeps → IsSeen others f old met' next keeps
seen-step others f g old met met' low next kept keeps has was (inl same) =
    subst (λ ms. IsSeen others f old ms next keeps) (sym same.0)
    (subst (λ n. IsSeen others f old met n keeps) (sym same.1) (subst (λ b. IsSeen others f old met low b) (sym same.2) was))
seen-step others f g old met met' low next kept keeps has was (inr m) = seen-more others f g old met met' low next kept keeps has was m

pub seen-end : (others : List Stretch) (f : Stretch) (old met : List Stretch) (low : ℕ) (kept last keeps : Bool) → IsSeen others f old met low kept
    → keeps ≡ (kept && last) → (last ≡ true → f.to ≤ low) → (last ≡ false → low < f.to) → IsStretchMet others f old met keeps
seen-end others f old met low kept last keeps s is ends goes_on = record {
  bytes = s.bytes;
  less = elim s.to [ inl t ↦ let l = s.less in omega (arith, l, t) | inr e ↦ let l = s.less in omega (arith, l, e) ];
  falls = λ h. elim (some-false kept last (sym is ∙ h)) [
    | inl n ↦ elim s.to [ inl t ↦ let l = s.falls n in omega (arith, l, t) | inr e ↦ let l = s.falls n in omega (arith, l, e) ]
    | inr n ↦ let l = s.less in let a = s.from in let b = goes_on n in omega (arith, l, a, b)
  ];
  covers = λ h q x i. let b = both-true kept last (sym is ∙ h) in let y = ends b.1 in
      subst (IsInStretch others q) i.2 (s.covers b.0 q i.0 (omega (arith, y, i.1)));
}

pub stretches-start : (others met : List Stretch) → met ≡ [] → AreStretchesMet [] others met true
stretches-start others met is = record {
  first = λ q x h. has-none met h.stretch is h.has;
  second = λ q x h. has-none met h.stretch is h.has;
  less = let z : total stretch_weight met ≡ 0 = ap (total stretch_weight) is in omega (arith, z);
  falls = λ h. cc;
  covers = λ h q x k. has-none [] k.stretch refl k.has;
}

in-old : (xs : List Stretch) (f : Stretch) (q : ℕ) (x : FillByte) → IsInStretch xs q x → IsInStretch (xs ++ f ∷ []) q x
in-old xs f q x i = record { stretch = i.stretch; has = has-old xs f i.stretch i.has; from = i.from; to = i.to; is = i.is }

pub stretches-step : (xs others met met' : List Stretch) (f : Stretch) (kept keeps : Bool) → AreStretchesMet xs others met kept → IsStretchMet others f met met' keeps
    → AreStretchesMet (xs ++ f ∷ []) others met' (kept && keeps)
stretches-step xs others met met' f kept keeps was m =
    let w : total stretch_weight (xs ++ f ∷ []) ≡ total stretch_weight xs + (stretch_weight f + 0) = total-append stretch_weight xs (f ∷ []) in
    record {
      first = λ q x h. elim (m.bytes q x h) [
        | inl old ↦ in-old xs f q x (was.first q x old)
        | inr new ↦ record { stretch = f; has = has-new xs f; from = new.0.0; to = new.0.1; is = new.0.2 }
      ];
      second = λ q x h. elim (m.bytes q x h) [ inl old ↦ was.second q x old | inr new ↦ new.1 ];
      less = let a = was.less in let b = m.less in omega (arith, w, a, b);
      falls = λ h. elim (some-false kept keeps h) [
        | inl n ↦ let a = was.falls n in let b = m.less in omega (arith, w, a, b)
        | inr n ↦ let a = was.less in let b = m.falls n in omega (arith, w, a, b)
      ];
      covers = λ h q x k. let b = both-true kept keeps h in has-push {P = IsInStretch others q x} xs f k.stretch k.has
          (λ old. was.covers b.0 q x (record { stretch = k.stretch; has = old; from = k.from; to = k.to; is = k.is }))
          (λ same. m.covers b.1 q x (subst (λ (g : Stretch). IsIn g q x) same (k.from, k.to, k.is)));
    }

-- others of which the first were passed
pub of-all : (others all : List Stretch) (f : Stretch) (old new : List Stretch) (keeps : Bool) → ((g : Stretch) → Has others g → Has all g) → IsStretchMet others f old new keeps
    → IsStretchMet all f old new keeps
of-all others all f old new keeps more m = record {
  bytes = λ q x h. elim (m.bytes q x h) [ inl o ↦ inl o | inr n ↦ inr (n.0, up q x n.1) ];
  less = m.less;
  falls = m.falls;
  covers = λ h q x i. up q x (m.covers h q x i);
}
  where
    up : (q : ℕ) (x : FillByte) → IsInStretch others q x → IsInStretch all q x
    up q x i = record { stretch = i.stretch; has = more i.stretch i.has; from = i.from; to = i.to; is = i.is }

-- ---- one object

-- where nothing is lost
pub held-kept : (a b : Contents) (cells : List Entry) (stretches : List Stretch) → AreCellsMet a.cells b.cells cells true → AreStretchesMet a.stretches b.stretches stretches true
    → AreContentsMet a b a true
held-kept a b cells stretches c s = record {
  cell_first = λ e h. (e, h, wider-self e);
  cell_second = c.covers refl;
  byte_first = λ q x h. h;
  byte_second = s.covers refl;
  less = omega arith;
  falls = λ h. cc;
  cells_covered = λ h. c.covers refl;
  bytes_covered = λ h. s.covers refl;
}

pub held-lost : (a b c : Contents) (cells_kept stretches_kept : Bool) → AreCellsMet a.cells b.cells c.cells cells_kept → AreStretchesMet a.stretches b.stretches c.stretches stretches_kept
    → (cells_kept && stretches_kept) ≡ false → AreContentsMet a b c false
held-lost a b c cells_kept stretches_kept x y h = record {
  cell_first = x.first;
  cell_second = x.second;
  byte_first = y.first;
  byte_second = y.second;
  less = let l = x.less in let m = y.less in omega (arith, l, m);
  falls = λ k. elim (some-false cells_kept stretches_kept h) [
    | inl n ↦ let l = x.falls n in let m = y.less in omega (arith, l, m)
    | inr n ↦ let l = x.less in let m = y.falls n in omega (arith, l, m)
  ];
  cells_covered = λ k. cc;
  bytes_covered = λ k. cc;
}

-- ---- places of lists

module _ {X : Type 0} (w : X → ℕ) (none : X) (Met : X → X → X → Bool → Type 0) where
  pub met-start : (ys met : List X) → met ≡ [] → AreMet w none Met [] ys met true
  met-start ys met is = record {
    long = ap length is;
    each = λ o a c h k. cc;
    less = let z : total w met ≡ 0 = ap (total w) is in omega (arith, z);
    falls = λ h. cc;
  }

  pub met-step : (xs ys met met' : List X) (a c : X) (kept keeps : Bool) → AreMet w none Met xs ys met kept → Met a (get_or ys (length xs) none) c keeps
      → w c ≤ w a → (keeps ≡ false → w c < w a) → met' ≡ met ++ c ∷ [] → AreMet w none Met (xs ++ a ∷ []) ys met' (kept && keeps)
  met-step xs ys met met' a c kept keeps was here less falls is =
      let p : total w (xs ++ a ∷ []) ≡ total w xs + (w a + 0) = total-append w xs (a ∷ []) in
      let q : total w met' ≡ total w met + (w c + 0) = ap (total w) is ∙ total-append w met (c ∷ []) in
      record {
        long = ap length is ∙ more met c ∙ ap (λ n. n + 1) was.long ∙ sym (more xs a);
        each = λ o x y h k. elim (get-push xs a x o h) [
          | inl old ↦ elim (get-push met c y o (subst (λ zs. slice_get zs o ≡ Some y) is k)) [
            | inl old_met ↦ let e = was.each o x y old old_met in (e.0, e.1, λ b. e.2 (both-true kept keeps b).0)
            | inr new_met ↦ absurd (let l = get-below xs o x old in let m = new_met.0 in let n = was.long in omega (arith, l, m, n))
          ]
          | inr new ↦ elim (get-push met c y o (subst (λ zs. slice_get zs o ≡ Some y) is k)) [
            | inl old_met ↦ absurd (let l = get-below met o y old_met in let m = new.0 in let n = was.long in omega (arith, l, m, n))
            | inr new_met ↦ (
              keeps,
              subst (λ n. Met x (get_or ys n none) y keeps) (sym new.0) (subst (λ z. Met z (get_or ys (length xs) none) y keeps) (sym new.1) (subst (λ z. Met a (get_or ys (length xs) none) z keeps) (sym new_met.1) here)),
              λ b. (both-true kept keeps b).1,
            )
          ]
        ];
        less = let l = was.less in omega (arith, p, q, l, less);
        falls = λ h. elim (some-false kept keeps h) [
          | inl n ↦ let l = was.falls n in omega (arith, p, q, l, less)
          | inr n ↦ let l = was.less in let m = falls n in omega (arith, p, q, l, m)
        ];
      }
    where
      more : (zs : List X) (z : X) → length (zs ++ z ∷ []) ≡ length zs + 1
      more [] z = refl
      more (y ∷ zs) z = let r = more zs z in omega (arith, r)

-- ---- temporaries

pub pointer-less : (a b c : Option BaseSet) (kept : Bool) → IsPointerMet a b c kept → pointer_weight c ≤ pointer_weight a
pointer-less None b c kept h = let z : pointer_weight c ≡ 0 = ap pointer_weight h.0 in omega (arith, z)
pointer-less (Some s) None c kept h = let z : pointer_weight c ≡ 0 = ap pointer_weight h.0 in omega (arith, z)
pointer-less (Some s) (Some t) c kept (inl h) = let z : pointer_weight c ≡ pointer_weight (Some s) = ap pointer_weight h.2 in omega (arith, z)
pointer-less (Some s) (Some t) c kept (inr h) = let z : pointer_weight c ≡ pointer_weight (Some (joined s t)) = ap pointer_weight h.2 in let l = joined-less s t in omega (arith, z, l)

pub pointer-falls : (a b c : Option BaseSet) (kept : Bool) → IsPointerMet a b c kept → kept ≡ false → pointer_weight c < pointer_weight a
pointer-falls None b c kept h k = let no = h.1 in cc
pointer-falls (Some s) None c kept h k = let z : pointer_weight c ≡ 0 = ap pointer_weight h.0 in omega (arith, z)
pointer-falls (Some s) (Some t) c kept (inl h) k = let no = h.0 in cc
pointer-falls (Some s) (Some t) c kept (inr h) k = let z : pointer_weight c ≡ pointer_weight (Some (joined s t)) = ap pointer_weight h.2 in let l = joined-falls s t h.1 in omega (arith, z, l)
