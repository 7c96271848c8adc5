-- Entries that rise, joined and parted.
use Rattle.std.proofs.Common.{arith, true, false, ◌+◌, take, drop, ℕ, ◌≡◌, ◌<◌, ◌≤◌, List, [], ◌∷◌, ◌++◌, Some, None, length, get_or, zero, suc, refl, sym, subst, ◌∙◌}
use Rattle.std.specs.Prelude.{nat_lt}
use Rattle.std.specs.List.{AllWithin, slice_get}
use Rattle.std.proofs.Math.Seq.{drop-cons}
use Rattle.std.proofs.lemmas.List.{length-take, length-drop, get_or-take, get_or-drop, take-append-drop}
use Rattle.std.specs.List.Sorted.{IsNonDecreasingBy}
use Rattle.std.proofs.lemmas.Bool.{ltb-true, ltb-false}
use Rattle.std.proofs.lemmas.List.Elements.{All-head, All-tail, All-cons, All-append, All-weaker, All-get_or}
use Rattle.env_lift.specs.declared.entries.Entry.{Entry}
use Rattle.env_lift.specs.Entries.{value_in, AreBelow, AreAbove, AreFrom, IsRising}
use Rattle.env_lift.proofs.Lookups.{at_first, past_first, none_above}

-- ---- parts

pub rising_behind : {T : Type 0} (a b : List (Entry T)) → IsRising (a ++ b) → IsRising b
rising_behind [] b h = h
rising_behind (e ∷ a) b h = rising_behind a b h.1

all_front : {T : Type 0} (P : Entry T → Type 0) (a b : List (Entry T)) → ((k : ℕ) (d : Entry T) → k < length (a ++ b) → P (get_or (a ++ b) k d)) → (k : ℕ) (d : Entry T) → k < length a → P (get_or a k d)
all_front P [] b h k d l = absurd (omega arith)
all_front P (e ∷ a) b h zero d l = All-head P e (a ++ b) h
all_front P (e ∷ a) b h (suc k) d l = all_front P a b (All-tail P e (a ++ b) h) k d (omega arith)

pub rising_front : {T : Type 0} (a b : List (Entry T)) → IsRising (a ++ b) → IsRising a
rising_front [] b h = tt
rising_front (e ∷ a) b h = (all_front (λ d. e.var.0 < d.var.0) a b h.0, rising_front a b h.1)

-- ---- wholes

all_above : {T : Type 0} (x y : ℕ) (es : List (Entry T)) → x < y → AreAbove y es → AreAbove x es
all_above x y es l h = All-weaker (λ e. y < e.var.0) (λ e. x < e.var.0) (λ e k. omega arith) es h

-- entries below a variable, and behind them entries from it on
pub rising_joined : {T : Type 0} (a : List (Entry T)) (e : Entry T) (b : List (Entry T)) → IsRising a → AreBelow e.var.0 a → IsRising (e ∷ b) → IsRising (a ++ e ∷ b)
rising_joined [] e b r l s = s
rising_joined (d ∷ a) e b r l s =
    let head : d.var.0 < e.var.0 = All-head (λ c. c.var.0 < e.var.0) d a l in
    let rest = All-cons (λ c. d.var.0 < c.var.0) e b head (all_above d.var.0 e.var.0 b head s.0) in
    (All-append (λ c. d.var.0 < c.var.0) a (e ∷ b) r.0 rest, rising_joined a e b r.1 (All-tail (λ c. c.var.0 < e.var.0) d a l) s)

-- an entry taken out
pub rising_without : {T : Type 0} (a : List (Entry T)) (e : Entry T) (b : List (Entry T)) → IsRising (a ++ e ∷ b) → IsRising (a ++ b)
rising_without [] e b h = h.1
rising_without (d ∷ a) e b h =
    let front = all_front (λ c. d.var.0 < c.var.0) a (e ∷ b) h.0 in
    let from = all_behind (λ c. d.var.0 < c.var.0) a (e ∷ b) h.0 in
    (All-append (λ c. d.var.0 < c.var.0) a b front (All-tail (λ c. d.var.0 < c.var.0) e b from), rising_without a e b h.1)
  where
    all_behind : {S : Type 0} (P : Entry S → Type 0) (p q : List (Entry S)) → ((k : ℕ) (c : Entry S) → k < length (p ++ q) → P (get_or (p ++ q) k c)) → (k : ℕ) (c : Entry S) → k < length q → P (get_or q k c)
    all_behind P [] q h k c l = h k c l
    all_behind P (x ∷ p) q h k c l = all_behind P p q (All-tail P x (p ++ q) h) k c l

-- ---- the first of them

-- entries from a variable on have its value first, or not at all
pub above_first : {T : Type 0} (e : Entry T) (es : List (Entry T)) (x : ℕ) → IsRising (e ∷ es) → x ≤ e.var.0 → AreAbove x es
above_first e es x r l = All-weaker (λ d. e.var.0 < d.var.0) (λ d. x < d.var.0) (λ d k. omega arith) es r.0

pub all_from : {T : Type 0} (e : Entry T) (es : List (Entry T)) (x : ℕ) → IsRising (e ∷ es) → x ≤ e.var.0 → AreFrom x (e ∷ es)
all_from e es x r l = All-cons (λ d. x ≤ d.var.0) e es l (All-weaker (λ d. e.var.0 < d.var.0) (λ d. x ≤ d.var.0) (λ d k. omega arith) es r.0)

pub none_first : {T : Type 0} (e : Entry T) (es : List (Entry T)) (x : ℕ) → IsRising (e ∷ es) → AreFrom x (e ∷ es) → (e.var.0 ≡ x → ⊥) → value_in (e ∷ es) x ≡ None
none_first e es x r from ne =
    let head : x ≤ e.var.0 = All-head (λ d. x ≤ d.var.0) e es from in
    past_first e es x ne ∙ none_above es x (above_first e es x r head)

-- ---- as std sorts

pub non_decreasing : {T : Type 0} (es : List (Entry T)) → IsRising es → IsNonDecreasingBy (λ e. e.var.0) es
non_decreasing [] r i j d l k = absurd (omega arith)
non_decreasing (e ∷ es) r zero zero d l k = omega arith
non_decreasing (e ∷ es) r zero (suc j) d l k =
    let at : e.var.0 < (get_or es j d).var.0 = All-get_or (λ c. e.var.0 < c.var.0) es j d (omega arith) r.0 in
    omega arith
non_decreasing (e ∷ es) r (suc i) zero d l k = absurd (omega arith)
non_decreasing (e ∷ es) r (suc i) (suc j) d l k = non_decreasing es r.1 i j d (omega arith) (omega arith)

-- each entry's variable has its value
pub rising_found : {T : Type 0} (es : List (Entry T)) → IsRising es → (k : ℕ) (d : Entry T) → k < length es → value_in es (get_or es k d).var.0 ≡ Some (get_or es k d).value
rising_found [] r k d l = absurd (omega arith)
rising_found (e ∷ es) r zero d l = at_first e es e.var.0 refl
rising_found (e ∷ es) r (suc k) d l =
    let above : e.var.0 < (get_or es k d).var.0 = All-get_or (λ c. e.var.0 < c.var.0) es k d (omega arith) r.0 in
    past_first e es (get_or es k d).var.0 (λ s. omega arith) ∙ rising_found es r.1 k d (omega arith)

-- ---- parted at a variable

pub parted_below : {T : Type 0} (es : List (Entry T)) (x i : ℕ) → AllWithin (λ e. nat_lt e.var.0 x ≡ true) es 0 i → AreBelow x (take i es)
parted_below es x i h k d l =
    let size = length-take i es in
    let inside : k < i = omega (arith, size) in
    subst (λ e. e.var.0 < x) (sym (get_or-take i es k d inside)) (ltb-true (get_or es k d).var.0 x (h k d (omega arith) inside))

pub parted_from : {T : Type 0} (es : List (Entry T)) (x i : ℕ) → AllWithin (λ e. nat_lt e.var.0 x ≡ false) es i (length es) → AreFrom x (drop i es)
parted_from es x i h k d l =
    let size = length-drop i es in
    let inside : i + k < length es = omega (arith, size) in
    subst (λ e. x ≤ e.var.0) (sym (get_or-drop i es k d)) (ltb-false (get_or es (i + k) d).var.0 x (h (i + k) d (omega arith) inside))

-- of entries from a variable on, the first alone can be its
pub first_none : {T : Type 0} (es : List (Entry T)) (x : ℕ) → IsRising es → AreFrom x es → ((e : Entry T) → slice_get es 0 ≡ Some e → e.var.0 ≡ x → ⊥) → value_in es x ≡ None
first_none [] x r from ne = refl
first_none (e ∷ es) x r from ne = none_first e es x r from (ne e refl)

pub place_above : {T : Type 0} (es : List (Entry T)) (x i : ℕ) → IsRising es → AreFrom x (drop i es) → ((d : Entry T) → i < length es → (get_or es i d).var.0 ≡ x → ⊥) → AreAbove x (drop i es)
place_above {T} es x i r from ne k d l =
    let size = length-drop i es in
    let within : i < length es = omega (arith, size) in
    let split = drop-cons es i d within in
    let rises : IsRising (get_or es i d ∷ drop (suc i) es) = subst IsRising split (rising_dropped i es r) in
    let head : x ≤ (get_or es i d).var.0 = All-head (λ c. x ≤ c.var.0) (get_or es i d) (drop (suc i) es) (subst (AreFrom x) split from) in
    let strict : x < (get_or es i d).var.0 = apart x (get_or es i d).var.0 head (ne d within) in
    subst (AreAbove x) (sym split) (All-cons (λ c. x < c.var.0) (get_or es i d) (drop (suc i) es) strict (above_first (get_or es i d) (drop (suc i) es) x rises head)) k d l
  where
    apart : (a b : ℕ) → a ≤ b → (b ≡ a → ⊥) → a < b
    apart a b l ne = omega arith

    rising_dropped : {S : Type 0} (n : ℕ) (ds : List (Entry S)) → IsRising ds → IsRising (drop n ds)
    rising_dropped n ds q = rising_behind (take n ds) (drop n ds) (subst IsRising (sym (take-append-drop n ds)) q)

pub first_other : {T : Type 0} (es : List (Entry T)) (x : ℕ) (e : Entry T) → IsRising es → AreFrom x es → slice_get es 0 ≡ Some e → (e.var.0 ≡ x → ⊥) → value_in es x ≡ None
first_other {T} es x e r from is ne = first_none es x r from (λ d at s.
    let one : Some e ≡ Some d = sym is ∙ at in
    let same : e ≡ d = cc in
    ne (subst (λ (c : Entry T). c.var.0 ≡ x) (sym same) s))
