-- Where the kept bounds stand, and what one write changes.
use Rattle.std.specs.Prelude.{ℕ, zero, suc, ◌≡◌, ◌<◌, ◌≤◌, ◌+◌, ◌-◌, ◌*◌, ◌/◌, ◌%◌, List, Bool, true, false, ◌&&◌, if◌then◌else◌, length, slice_index_or, slice_set, nat_lt, nat_eq}
use Rattle.std.proofs.Common.{arith, sym, subst, refl, ap, ◌∙◌, length-set, replicate}
use Rattle.std.proofs.lemmas.List.{get_or-set_same, get_or-set_other, get_or-replicate, length-replicate}
use Rattle.std.proofs.lemmas.Bool.Decides.{nat_tests}
use Rattle.ext_int.specs.Ext.{lesser, greater}
use Rattle.ext_int.specs.declared.Ext.{Ext}
use Rattle.ext_int.specs.declared.Ext.TheVariants.{Low, High}
use Rattle.bound_matrix.specs.Bound.{bar, reach, row_start, place, entry, cut, InRange, IsKept, LowersTo, RaisesTo, MatrixView, bound_at}
use Rattle.bound_matrix.proofs.Entries.{greater-range, lesser-range}

-- ---- cases

pub nat-either : {P : Type 0} (a b : ℕ) → (a ≡ b → P) → ((a ≡ b → ⊥) → P) → P
nat-either {P} a b f g = by (nat_eq a b) refl
  where
    by : (x : Bool) → nat_eq a b ≡ x → P
    by true e = f (grind (arith, nat_tests))
    by false e = g (λ h. absurd (grind (arith, nat_tests)))

pub nat-less_or : {P : Type 0} (a b : ℕ) → (a < b → P) → (b ≤ a → P) → P
nat-less_or {P} a b f g = by (nat_lt a b) refl
  where
    by : (x : Bool) → nat_lt a b ≡ x → P
    by true e = f (grind (arith, nat_tests))
    by false e = g (grind (arith, nat_tests))

-- ---- the two signs of a variable

pub bar-twice : (i : ℕ) → bar (bar i) ≡ i
bar-twice i = by (nat_eq (i % 2) 0) refl
  where
    by : (b : Bool) → nat_eq (i % 2) 0 ≡ b → bar (bar i) ≡ i
    by true e = grind (arith, nat_tests)
    by false e = grind (arith, nat_tests)

-- which of the two indices of a variable it is
pub data Sign (i : ℕ) : Type 0 where
  even : (a : ℕ) → i ≡ a + a → bar i ≡ a + a + 1 → reach i ≡ a + a + 2 → reach (bar i) ≡ a + a + 1 → i % 2 ≡ 0 → Sign i
  odd : (a : ℕ) → i ≡ a + a + 1 → bar i ≡ a + a → reach i ≡ a + a + 1 → reach (bar i) ≡ a + a + 2 → i % 2 ≡ 1 → Sign i

pub sign : (i : ℕ) → Sign i
sign i = by (nat_eq (i % 2) 0) refl
  where
    by : (b : Bool) → nat_eq (i % 2) 0 ≡ b → Sign i
    by true e = even (i / 2) (grind (arith, nat_tests)) (grind (arith, nat_tests)) (grind (arith, nat_tests)) (grind (arith, nat_tests)) (grind (arith, nat_tests))
    by false e = odd (i / 2) (grind (arith, nat_tests)) (grind (arith, nat_tests)) (grind (arith, nat_tests)) (grind (arith, nat_tests)) (grind (arith, nat_tests))

pub bar-less : (n i : ℕ) → i < n + n → bar i < n + n
bar-less n i h = by (sign i)
  where
    by : Sign i → bar i < n + n
    by (even a p q r s t) = omega arith
    by (odd a p q r s t) = omega arith

-- ---- places

-- a place that is kept, and whose mirror image is kept too, mirrors itself
one-side : (i j : ℕ) → j < reach i → bar i < reach (bar j) → j ≡ bar i
one-side i j h g = by (sign i) (sign j)
  where
    by : Sign i → Sign j → j ≡ bar i
    by (even a p q r s t) (even b p2 q2 r2 s2 t2) = absurd (omega arith)
    by (even a p q r s t) (odd b p2 q2 r2 s2 t2) = omega arith
    by (odd a p q r s t) (even b p2 q2 r2 s2 t2) = omega arith
    by (odd a p q r s t) (odd b p2 q2 r2 s2 t2) = absurd (omega arith)

pub other-side : (i j : ℕ) → reach i ≤ j → bar i < reach (bar j)
other-side i j h = by (sign i) (sign j)
  where
    by : Sign i → Sign j → bar i < reach (bar j)
    by (even a p q r s t) (even b p2 q2 r2 s2 t2) = omega arith
    by (even a p q r s t) (odd b p2 q2 r2 s2 t2) = omega arith
    by (odd a p q r s t) (even b p2 q2 r2 s2 t2) = omega arith
    by (odd a p q r s t) (odd b p2 q2 r2 s2 t2) = omega arith

pub reach-most : (i j : ℕ) → j < reach i → j < i + 2 - i % 2
reach-most i j h = by (sign i)
  where
    by : Sign i → j < i + 2 - i % 2
    by (even a p q r s t) = omega arith
    by (odd a p q r s t) = omega arith

row_start-next : (i : ℕ) → row_start (suc i) ≡ row_start i + (i + 2 - i % 2)
unfolding row_start
row_start-next i = refl

row_start-first : row_start 0 ≡ 0
unfolding row_start
row_start-first = refl

start-after : (i p : ℕ) → i < p → row_start i + (i + 2 - i % 2) ≤ row_start p
start-after i zero h = absurd (omega arith)
start-after i (suc p) h = nat-either i p
    (λ e. let k = row_start-next p in subst (λ (i : ℕ). row_start i + (i + 2 - i % 2) ≤ row_start (suc p)) (sym e) (omega arith))
    (λ d. let g = start-after i p (omega arith) in let k = row_start-next p in omega arith)

pub row_start-square : (i : ℕ) → (i + 1) * (i + 1) ≡ row_start i + row_start i + (i + 1) % 2
row_start-square zero = let e = row_start-first in omega arith
row_start-square (suc i) = let h = row_start-square i in let e = row_start-next i in
    let z : (suc i + 1) * (suc i + 1) ≡ (i + 1) * (i + 1) + (i + i + 3) = grind arith in omega arith

pub row_start-is : (i : ℕ) → (i + 1) * (i + 1) / 2 ≡ row_start i
row_start-is i = let h = row_start-square i in omega arith

pub row_start-end : (n : ℕ) → row_start (n + n) ≡ 2 * n * (n + 1)
row_start-end n = let h = row_start-square (n + n) in let z : (n + n + 1) * (n + n + 1) ≡ 2 * n * (n + 1) + 2 * n * (n + 1) + 1 = grind arith in omega arith

rows-apart : {P : Type 0} (i j p q : ℕ) → j < i + 2 - i % 2 → q < p + 2 - p % 2 → row_start p + q ≡ row_start i + j → (p ≡ i → q ≡ j → P) → P
rows-apart i j p q h g e f = nat-less_or p i
    (λ l. absurd (let k = start-after p i l in omega arith))
    (λ l. nat-less_or i p
    (λ m. absurd (let k = start-after i p m in omega arith))
    (λ m. let d : p ≡ i = omega arith in f d (let k = ap row_start d in omega arith)))

-- the kept place of i and j
data Placed (i j : ℕ) : Type 0 where
  direct : j < reach i → place i j ≡ row_start i + j → Placed i j
  mirrored : reach i ≤ j → bar i < reach (bar j) → place i j ≡ row_start (bar j) + bar i → Placed i j

pub place-direct : (i j : ℕ) → j < reach i → row_start i + j ≡ place i j
unfolding place
place-direct i j h = grind (arith, nat_tests)

pub place-mirrored : (i j : ℕ) → reach i ≤ j → row_start (bar j) + bar i ≡ place i j
unfolding place
place-mirrored i j h = grind (arith, nat_tests)

placed : (i j : ℕ) → Placed i j
unfolding place
placed i j = by (nat_lt j (reach i)) refl
  where
    by : (b : Bool) → nat_lt j (reach i) ≡ b → Placed i j
    by true e = direct (grind (arith, nat_tests)) (rw e refl)
    by false e = let l : reach i ≤ j = grind (arith, nat_tests) in mirrored l (other-side i j l) (rw e refl)

place-mirror : (i j : ℕ) → place (bar j) (bar i) ≡ place i j
place-mirror i j = by (placed i j) (placed (bar j) (bar i))
  where
    by : Placed i j → Placed (bar j) (bar i) → place (bar j) (bar i) ≡ place i j
    by (direct h e) (direct g f) = let d = one-side i j h g in let k : bar j ≡ i = ap bar d ∙ bar-twice i in let z = ap row_start k in omega arith
    by (direct h e) (mirrored l g f) = f ∙ (rw (bar-twice i, bar-twice j) (sym e))
    by (mirrored l h e) (direct g f) = f ∙ sym e
    by (mirrored l h e) (mirrored m g f) = absurd (omega arith)

place-same : {P : Type 0} (i j p q : ℕ) → place p q ≡ place i j → (p ≡ i → q ≡ j → P) → (p ≡ bar j → q ≡ bar i → P) → P
place-same {P} i j p q h f g = by (placed i j) (placed p q)
  where
    back : (a b : ℕ) → bar a ≡ bar b → a ≡ b
    back a b e = sym (bar-twice a) ∙ (ap bar e ∙ bar-twice b)

    turn : (a b : ℕ) → bar a ≡ b → a ≡ bar b
    turn a b e = sym (bar-twice a) ∙ ap bar e

    by : Placed i j → Placed p q → P
    by (direct a e) (direct b k) = rows-apart i j p q (reach-most i j a) (reach-most p q b) (sym k ∙ (h ∙ e)) f
    by (direct a e) (mirrored l b k) = rows-apart i j (bar q) (bar p) (reach-most i j a) (reach-most (bar q) (bar p) b) (sym k ∙ (h ∙ e)) (λ x y. g (turn p j y) (turn q i x))
    by (mirrored m a e) (direct b k) = rows-apart (bar j) (bar i) p q (reach-most (bar j) (bar i) a) (reach-most p q b) (sym k ∙ (h ∙ e)) g
    by (mirrored m a e) (mirrored l b k) = rows-apart (bar j) (bar i) (bar q) (bar p) (reach-most (bar j) (bar i) a) (reach-most (bar q) (bar p) b) (sym k ∙ (h ∙ e)) (λ x y. f (back p i y) (back q j x))

pub place-less : (n i j : ℕ) → i < n + n → j < n + n → place i j < 2 * n * (n + 1)
place-less n i j h g = by (placed i j)
  where
    inside : (p q : ℕ) → p < n + n → q < reach p → row_start p + q < 2 * n * (n + 1)
    inside p q l m = let a = start-after p (n + n) l in let b = row_start-end n in let c = reach-most p q m in omega arith

    by : Placed i j → place i j < 2 * n * (n + 1)
    by (direct a e) = rw e (inside i j h a)
    by (mirrored l a e) = rw e (inside (bar j) (bar i) (bar-less n j g) a)

pub few-places : (n : ℕ) → n ≤ 24 → 2 * n * (n + 1) ≤ 1200
few-places n h = let a : n * (n + 1) ≤ 24 * 25 = grind arith in grind arith

-- ---- entries

pub entry-in : (n : ℕ) (s : List Ext) (i j : ℕ) → i < n + n → j < n + n → entry n s i j ≡ slice_index_or s (place i j) Low
unfolding entry
entry-in n s i j h g = grind (arith, nat_tests)

pub entry-out : (n : ℕ) (s : List Ext) (i j : ℕ) → (i < n + n → j < n + n → ⊥) → entry n s i j ≡ High
unfolding entry
entry-out n s i j h = by (nat_lt i (n + n)) (nat_lt j (n + n)) refl refl
  where
    by : (a b : Bool) → nat_lt i (n + n) ≡ a → nat_lt j (n + n) ≡ b → (if nat_lt i (n + n) && nat_lt j (n + n) then slice_index_or s (place i j) Low else High) ≡ High
    by true true x y = absurd (h (grind (arith, nat_tests)) (grind (arith, nat_tests)))
    by true false x y = rw (x, y) refl
    by false b x y = rw x refl

-- whether both indices are inside
pub inside-or : {P : Type 0} (n i j : ℕ) → (i < n + n → j < n + n → P) → ((i < n + n → j < n + n → ⊥) → P) → P
inside-or n i j f g = nat-less_or i (n + n)
    (λ h. nat-less_or j (n + n) (λ k. f h k) (λ l. g (λ _ k. absurd (omega arith))))
    (λ l. g (λ k _. absurd (omega arith)))

-- the matrix is coherent
pub entry-mirror : (n : ℕ) (s : List Ext) (i j : ℕ) → entry n s (bar j) (bar i) ≡ entry n s i j
entry-mirror n s i j = inside-or n i j
    (λ h g. entry-in n s (bar j) (bar i) (bar-less n j g) (bar-less n i h) ∙ (ap (λ (p : ℕ). slice_index_or s p Low) (place-mirror i j) ∙ sym (entry-in n s i j h g)))
    (λ o. entry-out n s (bar j) (bar i) (λ a b. o (under i b) (under j a)) ∙ sym (entry-out n s i j o))
  where
    under : (k : ℕ) → bar k < n + n → k < n + n
    under k l = let a = bar-less n (bar k) l in let e = bar-twice k in omega arith

module _ (n : ℕ) (s : List Ext) (i j : ℕ) (b : Ext) (kept : IsKept n s) (row : i < n + n) (column : j < n + n) where
  pub after : List Ext
  after = slice_set s (place i j) (lesser (slice_index_or s (place i j) Low) (cut b))

  was : slice_index_or s (place i j) Low ≡ entry n s i j
  was = sym (entry-in n s i j row column)

  at-place : slice_index_or after (place i j) Low ≡ lesser (entry n s i j) (cut b)
  unfolding after
  at-place = get_or-set_same s (place i j) _ Low (let l = place-less n i j row column in let k = kept.size in omega arith) ∙ ap (λ (e : Ext). lesser e (cut b)) was

  here-is : entry n after i j ≡ lesser (entry n s i j) (cut b)
  here-is = entry-in n after i j row column ∙ at-place

  elsewhere : (p q : ℕ) → (p ≡ i → q ≡ j → ⊥) → (p ≡ bar j → q ≡ bar i → ⊥) → entry n after p q ≡ entry n s p q
  unfolding after
  elsewhere p q f g = inside-or n p q
      (λ a c. entry-in n after p q a c ∙ (get_or-set_other s (place i j) (place p q) _ Low (λ e. place-same i j p q e f g) ∙ sym (entry-in n s p q a c)))
      (λ o. entry-out n after p q o ∙ sym (entry-out n s p q o))

  pub set-lowers : LowersTo i j b (entry n s) (entry n after)
  set-lowers = record { here = here-is; mirror = entry-mirror n after i j ∙ here-is; others = elsewhere }

  pub set-kept : InRange (cut b) → IsKept n after
  unfolding after
  set-kept r = record {
    few = kept.few;
    size = length-set s (place i j) _ ∙ kept.size;
    range = record { range = λ p q. nat-either p i (λ d. nat-either q j (λ e. rw (d, e) new) (λ e. mirrored p q (λ _ k. e k))) (λ d. mirrored p q (λ k _. d k)) };
  }
    where
      new : InRange (entry n after i j)
      new = subst InRange (sym here-is) (lesser-range (entry n s i j) (cut b) (kept.range.range i j) r)

      mirrored : (p q : ℕ) → (p ≡ i → q ≡ j → ⊥) → InRange (entry n after p q)
      mirrored p q f = nat-either p (bar j)
          (λ d. nat-either q (bar i)
          (λ e. subst InRange (sym (rw (d, e) (entry-mirror n after i j))) new)
          (λ e. subst InRange (sym (elsewhere p q f (λ _ k. e k))) (kept.range.range p q)))
          (λ d. subst InRange (sym (elsewhere p q f (λ k _. d k))) (kept.range.range p q))

-- ---- as the code has it

pub place-small : (n i j : ℕ) → n ≤ 24 → i < n + n → j < n + n → place i j < 1200
place-small n i j few h g = let l = place-less n i j h g in let m = few-places n few in omega arith

pub place-below : (n : ℕ) (s : List Ext) (i j : ℕ) → IsKept n s → i < n + n → j < n + n → place i j < length s
place-below n s i j k h g = let l = place-less n i j h g in let e = k.size in omega arith

pub value-in : (n : ℕ) (s : List Ext) (i j p : ℕ) → i < n + n → j < n + n → p ≡ place i j → slice_index_or s p Low ≡ entry n s i j
value-in n s i j p h g e = ap (λ (p : ℕ). slice_index_or s p Low) e ∙ sym (entry-in n s i j h g)

written : (s : List Ext) (i j p : ℕ) (b c e : Ext) → p ≡ place i j → c ≡ cut b → e ≡ lesser (slice_index_or s p Low) c → slice_set s p e ≡ slice_set s (place i j) (lesser (slice_index_or s (place i j) Low) (cut b))
written s i j p b c e x y z = cc

pub written-lowers : (n : ℕ) (s : List Ext) (i j : ℕ) (b : Ext) (p : ℕ) (c e : Ext) → IsKept n s → i < n + n → j < n + n → p ≡ place i j → c ≡ cut b → e ≡ lesser (slice_index_or s p Low) c → LowersTo i j b (entry n s) (entry n (slice_set s p e))
unfolding after
written-lowers n s i j b p c e k h g x y z = rw (written s i j p b c e x y z) (set-lowers n s i j b k h g)

pub written-kept : (n : ℕ) (s : List Ext) (i j : ℕ) (b : Ext) (p : ℕ) (c e : Ext) → IsKept n s → i < n + n → j < n + n → p ≡ place i j → c ≡ cut b → e ≡ lesser (slice_index_or s p Low) c → InRange c → IsKept n (slice_set s p e)
unfolding after
written-kept n s i j b p c e k h g x y z r = rw (written s i j p b c e x y z) (set-kept n s i j b k h g (subst InRange y r))

pub bound-mirror : (m : MatrixView) (i j : ℕ) → bound_at m i j ≡ bound_at m (bar j) (bar i)
bound-mirror m i j = sym (entry-mirror m.vars m.kept i j)

-- ---- a list of no bounds

module _ (n : ℕ) (s : List Ext) (e : s ≡ replicate (2 * n * (n + 1)) High) where
  pub none-in : (i j : ℕ) → entry n s i j ≡ High
  none-in i j = inside-or n i j
      (λ h g. entry-in n s i j h g ∙ (rw e (get_or-replicate (2 * n * (n + 1)) (place i j) High Low (place-less n i j h g))))
      (λ o. entry-out n s i j o)

  pub none-kept : n ≤ 24 → IsKept n s
  none-kept few = record {
    few = few;
    size = rw e (length-replicate (2 * n * (n + 1)) High);
    range = record { range = λ i j. subst InRange (sym (none-in i j)) tt };
  }

-- a row keeps no more columns than it has places
pub row-cost : (i : ℕ) → row_start i + reach i ≤ row_start (i + 1)
row-cost i = by (sign i)
  where
    next : row_start (i + 1) ≡ row_start i + (i + 2 - i % 2)
    next = ap row_start (omega arith) ∙ row_start-next i

    by : Sign i → row_start i + reach i ≤ row_start (i + 1)
    by (even a p q r s t) = let e = next in omega arith
    by (odd a p q r s t) = let e = next in omega arith

-- ---- the same for a raised bound

module _ (n : ℕ) (s : List Ext) (i j : ℕ) (b : Ext) (kept : IsKept n s) (row : i < n + n) (column : j < n + n) where
  pub raised-after : List Ext
  raised-after = slice_set s (place i j) (greater (slice_index_or s (place i j) Low) (cut b))

  raised-was : slice_index_or s (place i j) Low ≡ entry n s i j
  raised-was = sym (entry-in n s i j row column)

  raised-at-place : slice_index_or raised-after (place i j) Low ≡ greater (entry n s i j) (cut b)
  unfolding raised-after
  raised-at-place = get_or-set_same s (place i j) _ Low (let l = place-less n i j row column in let k = kept.size in omega arith) ∙ ap (λ (e : Ext). greater e (cut b)) raised-was

  raised-here : entry n raised-after i j ≡ greater (entry n s i j) (cut b)
  raised-here = entry-in n raised-after i j row column ∙ raised-at-place

  raised-elsewhere : (p q : ℕ) → (p ≡ i → q ≡ j → ⊥) → (p ≡ bar j → q ≡ bar i → ⊥) → entry n raised-after p q ≡ entry n s p q
  unfolding raised-after
  raised-elsewhere p q f g = inside-or n p q
      (λ a c. entry-in n raised-after p q a c ∙ (get_or-set_other s (place i j) (place p q) _ Low (λ e. place-same i j p q e f g) ∙ sym (entry-in n s p q a c)))
      (λ o. entry-out n raised-after p q o ∙ sym (entry-out n s p q o))

  pub set-raises : RaisesTo i j b (entry n s) (entry n raised-after)
  set-raises = record { here = raised-here; mirror = entry-mirror n raised-after i j ∙ raised-here; others = raised-elsewhere }

  pub set-raised_kept : InRange (cut b) → IsKept n raised-after
  unfolding raised-after
  set-raised_kept r = record {
    few = kept.few;
    size = length-set s (place i j) _ ∙ kept.size;
    range = record { range = λ p q. nat-either p i (λ d. nat-either q j (λ e. rw (d, e) new) (λ e. mirrored p q (λ _ k. e k))) (λ d. mirrored p q (λ k _. d k)) };
  }
    where
      new : InRange (entry n raised-after i j)
      new = subst InRange (sym raised-here) (greater-range (entry n s i j) (cut b) (kept.range.range i j) r)

      mirrored : (p q : ℕ) → (p ≡ i → q ≡ j → ⊥) → InRange (entry n raised-after p q)
      mirrored p q f = nat-either p (bar j)
          (λ d. nat-either q (bar i)
          (λ e. subst InRange (sym (rw (d, e) (entry-mirror n raised-after i j))) new)
          (λ e. subst InRange (sym (raised-elsewhere p q f (λ _ k. e k))) (kept.range.range p q)))
          (λ d. subst InRange (sym (raised-elsewhere p q f (λ k _. d k))) (kept.range.range p q))

raised-written : (s : List Ext) (i j p : ℕ) (b c e : Ext) → p ≡ place i j → c ≡ cut b → e ≡ greater (slice_index_or s p Low) c → slice_set s p e ≡ slice_set s (place i j) (greater (slice_index_or s (place i j) Low) (cut b))
raised-written s i j p b c e x y z = cc

pub raised-raises : (n : ℕ) (s : List Ext) (i j : ℕ) (b : Ext) (p : ℕ) (c e : Ext) → IsKept n s → i < n + n → j < n + n → p ≡ place i j → c ≡ cut b → e ≡ greater (slice_index_or s p Low) c → RaisesTo i j b (entry n s) (entry n (slice_set s p e))
unfolding raised-after
raised-raises n s i j b p c e k h g x y z = rw (raised-written s i j p b c e x y z) (set-raises n s i j b k h g)

pub raised-kept : (n : ℕ) (s : List Ext) (i j : ℕ) (b : Ext) (p : ℕ) (c e : Ext) → IsKept n s → i < n + n → j < n + n → p ≡ place i j → c ≡ cut b → e ≡ greater (slice_index_or s p Low) c → InRange c → IsKept n (slice_set s p e)
unfolding raised-after
raised-kept n s i j b p c e k h g x y z r = rw (raised-written s i j p b c e x y z) (set-raised_kept n s i j b k h g (subst InRange y r))

pub empty-kept : (s : List Ext) → length s ≡ 0 → IsKept 0 s
empty-kept s e = record {
  few = omega arith;
  size = e;
  range = record { range = λ i j. subst InRange (sym (entry-out 0 s i j (λ h g. omega arith))) tt };
}
