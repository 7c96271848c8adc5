-- The places of a name in a list that changes at its end, and what stands at them.
use Rattle.std.proofs.Common.{◌≡◌, refl, sym, ap, subst, ◌∙◌, ℕ, zero, suc, ◌+◌, ◌-◌, ◌<◌, ◌≤◌, arith, Bool, true, false, cond, List, [], ◌∷◌, ◌++◌, length, length-append, take, drop, map, get_or, ltb, Bor, Option, Some, None, ◌⊎◌, inl, inr}
use Rattle.std.specs.Prelude.{if◌then◌else◌, find, slice_get, IfSome, nat_le, min, reverse}
use Rattle.std.specs.List.{HoldsAt}
use Rattle.std.specs.Option.{MatchOption, option_copied}
use Rattle.std.specs.Str.{bytes_eq}
use Rattle.std.proofs.lemmas.Option.{slice_get_past, slice_get_read}
use Rattle.std.proofs.lemmas.Bool.{le-leb, lt-leb, ltb-true, ltb-false, cases_lt}
use Rattle.std.specs.List.Sorted.{IsPartitionedBy, IsPartitionPoint}
use Rattle.std.proofs.lemmas.List.Sorted.{IsPartitionedBy-ltb}
use Rattle.std.proofs.lemmas.List.{append-nil, map-append, reverse-append, reverse-reverse, length-map, take_all}
use Rattle.c_check_names.specs.Places.{places_from}

-- the last of a list
abbrev pub last_of : List ℕ → Option ℕ
last_of ps = slice_get ps (length ps - 1)

-- what stands at a place that is counted from a number
abbrev pub at_place : {A : Type 0} → ℕ → List A → Option ℕ → Option A
at_place k xs None = None
at_place k xs (Some place) = slice_get xs (place - k)

-- places that rise, from a number on and below another
abbrev pub Rise : ℕ → ℕ → List ℕ → Type 0
Rise low high [] = Unit {0}
Rise low high (p ∷ ps) = (low ≤ p) × (p < high) × Rise (suc p) high ps

rise_lower : (low k high : ℕ) (ps : List ℕ) → k ≤ low → Rise low high ps → Rise k high ps
rise_lower low k high [] l h = tt
rise_lower low k high (p ∷ ps) l h = (omega arith, h.1, h.2)

rise_at : (k high : ℕ) (b : Bool) (ps : List ℕ) → k < high → Rise (suc k) high ps → Rise k high (if b then k ∷ ps else ps)
rise_at k high true ps l h = (omega arith, l, h)
rise_at k high false ps l h = rise_lower (suc k) k high ps (omega arith) h

rise_so : (low k n : ℕ) (ps : List ℕ) → k ≡ n → Rise low k ps → Rise low n ps
rise_so low k n ps e h = subst (λ v. Rise low v ps) e h

-- the places of a name rise
pub places_rise : (k : ℕ) (name : List ℕ) (names : List (List ℕ)) → Rise k (k + length names) (places_from k name names)
places_rise k name [] = tt
places_rise k name (x ∷ xs) = rise_at k (k + length (x ∷ xs)) (bytes_eq x name) (places_from (suc k) name xs) (omega arith) (rise_so (suc k) (suc k + length xs) (k + length (x ∷ xs)) (places_from (suc k) name xs) (omega arith) (places_rise (suc k) name xs))

-- one more name
one_here : (k n : ℕ) (b : Bool) → k ≡ n → (if b then k ∷ [] else []) ≡ (if b then n ∷ [] else [])
one_here k n b e = ap (λ v. if b then v ∷ [] else []) e

one_behind : (b : Bool) (k : ℕ) (p q r : List ℕ) → p ≡ q ++ r → (if b then k ∷ p else p) ≡ (if b then k ∷ q else q) ++ r
one_behind true k p q r e = ap (λ v. k ∷ v) e
one_behind false k p q r e = e

pub places-append : (k : ℕ) (name : List ℕ) (names : List (List ℕ)) (n : List ℕ) → places_from k name (names ++ n ∷ []) ≡ places_from k name names ++ (if bytes_eq n name then (k + length names) ∷ [] else [])
places-append k name [] n = one_here k (k + 0) (bytes_eq n name) (omega arith)
places-append k name (x ∷ xs) n = one_behind (bytes_eq x name) k (places_from (suc k) name (xs ++ n ∷ [])) (places_from (suc k) name xs) (if bytes_eq n name then (k + suc (length xs)) ∷ [] else []) (places-append (suc k) name xs n ∙ ap (λ v. places_from (suc k) name xs ++ v) (one_here (suc k + length xs) (k + suc (length xs)) (bytes_eq n name) (omega arith)))

-- the next element stands one place further
shifted : {A : Type 0} (k : ℕ) (x : A) (xs : List A) (o : Option ℕ) → IfSome o (λ p. suc k ≤ p) → at_place (suc k) xs o ≡ at_place k (x ∷ xs) o
shifted k x xs None h = refl
shifted k x xs (Some p) h = let e : suc (p - suc k) ≡ p - k = omega arith in ap (slice_get (x ∷ xs)) e

low_step : (b : Bool) (low p : ℕ) (o : Option ℕ) → low ≤ p → IfSome o (λ q. suc p ≤ q) → IfSome (cond b (Some p) o) (λ q. low ≤ q)
low_step true low p o l h = l
low_step false low p None l h = tt
low_step false low p (Some q) l h = omega arith

pub found_low : (test : ℕ → Bool) (low high : ℕ) (ps : List ℕ) → Rise low high ps → IfSome (find test ps) (λ p. low ≤ p)
found_low test low high [] h = tt
found_low test low high (p ∷ ps) h = low_step (test p) low p (find test ps) h.0 (found_low test (suc p) high ps h.2)

-- at or behind the place from which is looked
here_step : {A : Type 0} (test : ℕ → Bool) (b : Bool) (k : ℕ) (x : A) (xs : List A) (ps : List ℕ) (found : Option A)
    → test k ≡ true → found ≡ at_place k (x ∷ xs) (find test ps) → cond b (Some x) found ≡ at_place k (x ∷ xs) (find test (if b then k ∷ ps else ps))
here_step test true k x xs ps found t e =
    let same : 0 ≡ k - k = omega arith in
    ap (slice_get (x ∷ xs)) same ∙ ap (λ c. at_place k (x ∷ xs) (cond c (Some k) (find test ps))) (sym t)
here_step test false k x xs ps found t e = e

-- before it
below_step : {A : Type 0} (test : ℕ → Bool) (b : Bool) (k : ℕ) (x : A) (xs : List A) (ps : List ℕ) (found : Option A)
    → test k ≡ false → found ≡ at_place k (x ∷ xs) (find test ps) → found ≡ at_place k (x ∷ xs) (find test (if b then k ∷ ps else ps))
below_step test true k x xs ps found t e = e ∙ ap (λ c. at_place k (x ∷ xs) (cond c (Some k) (find test ps))) (sym t)
below_step test false k x xs ps found t e = e

module _ {A : Type 0} (name_of : A → List ℕ) (name : List ℕ) where
  abbrev has_name : A → Bool
  has_name a = bytes_eq (name_of a) name

  none_left : (n : ℕ) → find has_name (drop n []) ≡ None
  none_left zero = refl
  none_left (suc n) = refl

  -- the first with the name from a place on stands at the first such place
  pub first_found : (k from : ℕ) (xs : List A) → find has_name (drop (from - k) xs) ≡ at_place k xs (find (λ place. nat_le from place) (places_from k name (map name_of xs)))
  first_found k from [] = none_left (from - k)
  first_found k from (x ∷ xs) =
      let rest = places_from (suc k) name (map name_of xs) in
      let later : find has_name (drop (from - suc k) xs) ≡ at_place k (x ∷ xs) (find (λ place. nat_le from place) rest) =
      first_found (suc k) from xs ∙ shifted k x xs (find (λ place. nat_le from place) rest) (found_low (λ place. nat_le from place) (suc k) (suc k + length (map name_of xs)) rest (places_rise (suc k) name (map name_of xs))) in
      elim (cases_lt k from) [
        | inr h ↦
            let now : from - k ≡ 0 = omega arith in
            let later_none : from - suc k ≡ 0 = omega arith in
            ap (λ n. find has_name (drop n (x ∷ xs))) now ∙ here_step (λ place. nat_le from place) (has_name x) k x xs rest (find has_name xs) (le-leb from k h) (ap (λ n. find has_name (drop n xs)) (sym later_none) ∙ later)
        | inl h ↦
            let next : from - k ≡ suc (from - suc k) = omega arith in
            ap (λ n. find has_name (drop n (x ∷ xs))) next ∙ below_step (λ place. nat_le from place) (has_name x) k x xs rest (find has_name (drop (from - suc k) xs)) (lt-leb from k h) later
      ]

rise_above : (low high : ℕ) (ps : List ℕ) (i d : ℕ) → Rise low high ps → i < length ps → low ≤ get_or ps i d
rise_above low high [] i d h l = absurd (omega arith)
rise_above low high (p ∷ ps) zero d h l = h.0
rise_above low high (p ∷ ps) (suc i) d h l = let above = rise_above (suc p) high ps i d h.2 (omega arith) in let first = h.0 in omega (arith, above, first)

rise_order : (low high : ℕ) (ps : List ℕ) → Rise low high ps → (i j d : ℕ) → i ≤ j → j < length ps → get_or ps i d ≤ get_or ps j d
rise_order low high [] h i j d l m = absurd (omega arith)
rise_order low high (p ∷ ps) h zero zero d l m = omega arith
rise_order low high (p ∷ ps) h zero (suc j) d l m = let above = rise_above (suc p) high ps j d h.2 (omega arith) in omega (arith, above)
rise_order low high (p ∷ ps) h (suc i) zero d l m = absurd (omega arith)
rise_order low high (p ∷ ps) h (suc i) (suc j) d l m = rise_order (suc p) high ps h.2 i j d (omega arith) (omega arith)

-- where the places from a place on begin
pub parted : (from : ℕ) (name : List ℕ) (names : List (List ℕ)) → IsPartitionedBy (λ place. ltb place from) (places_from 0 name names)
parted from name names = IsPartitionedBy-ltb (λ (place : ℕ). place) (places_from 0 name names) from (rise_order 0 (0 + length names) (places_from 0 name names) (places_rise 0 name names))

find_first : (from p : ℕ) (ps : List ℕ) → from ≤ p → Some p ≡ find (λ place. nat_le from place) (p ∷ ps)
find_first from p ps h = ap (λ b. cond b (Some p) (find (λ place. nat_le from place) ps)) (sym (le-leb from p h))

find_later : (from p : ℕ) (ps : List ℕ) → p < from → find (λ place. nat_le from place) ps ≡ find (λ place. nat_le from place) (p ∷ ps)
find_later from p ps h = ap (λ b. cond b (Some p) (find (λ place. nat_le from place) ps)) (sym (lt-leb from p h))

pub at_point : (from : ℕ) (ps : List ℕ) (at : ℕ) → at ≤ length ps → IsPartitionPoint (λ place. ltb place from ≡ true) (λ place. ltb place from ≡ false) ps at
    → slice_get ps at ≡ find (λ place. nat_le from place) ps
at_point from [] at l h = refl
at_point from (p ∷ ps) zero l h = find_first from p ps (ltb-false p from (h.1 0 0 (omega arith) (omega arith)))
at_point from (p ∷ ps) (suc at) l h =
    at_point from ps at (omega arith) ((λ k d lo hi. h.0 (suc k) d (omega arith) (omega arith)), (λ k d lo hi. h.1 (suc k) d (omega arith) (omega arith)))
    ∙ find_later from p ps (ltb-true p from (h.0 0 0 (omega arith) (omega arith)))

-- the same from the start of the list
pub first_found_from : {A : Type 0} (name_of : A → List ℕ) (name : List ℕ) (from : ℕ) (xs : List A)
    → find (λ a. bytes_eq (name_of a) name) (drop from xs) ≡ at_place 0 xs (find (λ place. nat_le from place) (places_from 0 name (map name_of xs)))
first_found_from name_of name from xs =
    let start : from ≡ from - 0 = omega arith in
    ap (λ n. find (λ a. bytes_eq (name_of a) name) (drop n xs)) start ∙ first_found name_of name 0 from xs

-- what `get` gives
pub got : {A : Type 0} (xs : List A) (i : ℕ) (r : Option (Bor A)) → MatchOption r (length xs ≤ i) (λ x. (i < length xs) × HoldsAt (λ y. x.now ≡ y) xs i)
    → option_copied r ≡ slice_get xs i
got xs i None h = sym (slice_get_past xs i h)
got xs i (Some x) h = sym (slice_get_read xs (length xs) i x.now refl h.0 (h.1 x.now))

pub get_behind : {A : Type 0} (xs : List A) (x : A) → slice_get (xs ++ x ∷ []) (length xs) ≡ Some x
get_behind [] x = refl
get_behind (y ∷ ys) x = get_behind ys x

get_before : {A : Type 0} (xs : List A) (x : A) (p : ℕ) → p < length xs → slice_get xs p ≡ slice_get (xs ++ x ∷ []) p
get_before [] x p h = absurd (omega arith)
get_before (y ∷ ys) x zero h = refl
get_before (y ∷ ys) x (suc p) h = get_before ys x p (omega arith)

-- the last of a list that got one more
pub last_one : (ps : List ℕ) (p : ℕ) → last_of (ps ++ p ∷ []) ≡ Some p
last_one ps p =
    let e : length (ps ++ p ∷ []) - 1 ≡ length ps = omega (arith, length-append ps (p ∷ [])) in
    ap (slice_get (ps ++ p ∷ [])) e ∙ get_behind ps p

rise_last : (low high : ℕ) (ps : List ℕ) (p : ℕ) → Rise low high ps → slice_get ps p ≡ None ⊎ IfSome (slice_get ps p) (λ q. q < high)
rise_last low high [] p h = inl refl
rise_last low high (q ∷ ps) zero h = inr h.1
rise_last low high (q ∷ ps) (suc p) h = rise_last (suc q) high ps p h.2

-- a place of the list is one of the longer list
at_longer : {A : Type 0} (xs : List A) (x : A) (o : Option ℕ) → (o ≡ None) ⊎ IfSome o (λ q. q < length xs) → at_place 0 xs o ≡ at_place 0 (xs ++ x ∷ []) o
at_longer xs x None h = refl
at_longer xs x (Some p) (inl e) = cc
at_longer xs x (Some p) (inr l) = get_before xs x (p - 0) (omega arith)

module _ {A : Type 0} (name_of : A → List ℕ) (name : List ℕ) where
  abbrev places_in : List A → List ℕ
  places_in xs = places_from 0 name (map name_of xs)

  abbrev found_in : List A → Option A
  found_in xs = at_place 0 xs (last_of (places_in xs))

  one_place : A → List A → List ℕ
  one_place x xs = if bytes_eq (name_of x) name then (0 + length (map name_of xs)) ∷ [] else []

  places_with : (xs : List A) (x : A) → places_in (xs ++ x ∷ []) ≡ places_in xs ++ (if bytes_eq (name_of x) name then (0 + length (map name_of xs)) ∷ [] else [])
  places_with xs x = ap (places_from 0 name) (map-append name_of xs (x ∷ [])) ∙ places-append 0 name (map name_of xs) (name_of x)

  last_step : (b : Bool) (xs : List A) (x : A) (found : Option A) → found ≡ found_in xs
      → cond b (Some x) found ≡ at_place 0 (xs ++ x ∷ []) (last_of (places_in xs ++ (if b then (0 + length (map name_of xs)) ∷ [] else [])))
  last_step true xs x found e =
      let there : length xs ≡ (0 + length (map name_of xs)) - 0 = omega (arith, length-map xs name_of) in
      sym (get_behind xs x) ∙ ap (slice_get (xs ++ x ∷ [])) there ∙ ap (at_place 0 (xs ++ x ∷ [])) (sym (last_one (places_in xs) (0 + length (map name_of xs))))
  last_step false xs x found e =
      let size : 0 + length (map name_of xs) ≡ length xs = omega (arith, length-map xs name_of) in
      e ∙ at_longer xs x (last_of (places_in xs)) (rise_last 0 (length xs) (places_in xs) (length (places_in xs) - 1) (subst (λ n. Rise 0 n (places_in xs)) size (places_rise 0 name (map name_of xs))))
      ∙ ap (λ ps. at_place 0 (xs ++ x ∷ []) (last_of ps)) (sym (append-nil (places_in xs)))

  last_reversed : (ys : List A) → find (λ a. bytes_eq (name_of a) name) ys ≡ found_in (reverse ys)
  last_reversed [] = refl
  last_reversed (y ∷ ys) =
      last_step (bytes_eq (name_of y) name) (reverse ys) y (find (λ a. bytes_eq (name_of a) name) ys) (last_reversed ys)
      ∙ ap (λ ps. at_place 0 (reverse ys ++ y ∷ []) (last_of ps)) (sym (places_with (reverse ys) y))
      ∙ ap found_in (sym (reverse-append (y ∷ []) ys))

  -- the last with the name stands at the last such place
  pub last_found : (xs : List A) → find (λ a. bytes_eq (name_of a) name) (reverse xs) ≡ found_in xs
  last_found xs = last_reversed (reverse xs) ∙ ap found_in (reverse-reverse xs)

-- what was taken away down to a count
pub cut_to : {A : Type 0} (count : ℕ) (items all : List A) → items ≡ take (length items) all → length items ≤ count → min count (length all) ≤ length items → items ≡ take count all
cut_to count items all e l m = elim (cases_lt count (length all)) [
  | inl h ↦ let same : length items ≡ count = omega arith in e ∙ ap (λ n. take n all) same
  | inr h ↦ let long : length all ≤ length items = omega arith in e ∙ take_all (length items) all long ∙ sym (take_all count all h)
]
