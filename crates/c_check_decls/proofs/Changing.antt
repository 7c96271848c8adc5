-- Items of one name that are changed, one after the other.
use Rattle.std.proofs.Common.{◌≡◌, refl, sym, ap, subst, ◌∙◌, ℕ, zero, suc, ◌+◌, ◌-◌, ◌<◌, ◌≤◌, arith, Bool, true, false, cond, List, [], ◌∷◌, ◌++◌, length, take, drop, map, Option, Some, None, ◌⊎◌, inl, inr}
use Rattle.std.specs.Prelude.{if◌then◌else◌, find, IfSome, nat_le, slice_get, slice_set}
use Rattle.std.specs.Str.{bytes_eq}
use Rattle.std.proofs.lemmas.Bool.{le-leb, lt-leb, cases_lt, cases_Bool}
use Rattle.c_check_names.specs.Places.{places_from, first_place}
use Rattle.c_check_names.proofs.Places.{places_rise, found_low}
use Rattle.c_check_decls.specs.Changes.{become, changed_at}

skipped : (b : Bool) (from k : ℕ) (ps : List ℕ) → nat_le from k ≡ false → find (λ q. nat_le from q) ps ≡ find (λ q. nat_le from q) (if b then k ∷ ps else ps)
skipped true from k ps t = ap (λ v. cond v (Some k) (find (λ q. nat_le from q) ps)) (sym t)
skipped false from k ps t = refl

found_now : (from k : ℕ) (ps : List ℕ) (b : Bool) → b ≡ true → nat_le from k ≡ true → find (λ q. nat_le from q) (if b then k ∷ ps else ps) ≡ Some k
found_now from k ps b e t = ap (λ v. find (λ q. nat_le from q) (if v then k ∷ ps else ps)) e ∙ ap (λ v. cond v (Some k) (find (λ q. nat_le from q) ps)) t

-- the items from a place on are changed where they have the name
abbrev pub changed_from : {B : Type 0} → (B → List ℕ) → List ℕ → (B → B) → ℕ → List B → List B
changed_from name_of name change n bs = take n bs ++ map (become name_of name change) (drop n bs)

module _ {B : Type 0} (name_of : B → List ℕ) (name : List ℕ) (change : B → B) where
  abbrev anew : ℕ → List B → List B
  anew n bs = changed_from name_of name change n bs

  abbrev names_of : List B → List (List ℕ)
  names_of bs = map name_of bs

  abbrev looked : ℕ → ℕ → List B → Option ℕ
  looked from k bs = find (λ q. nat_le from q) (places_from k name (names_of bs))

  -- one that is not of the name stays
  stays : (b : B) → bytes_eq (name_of b) name ≡ false → become name_of name change b ≡ b
  stays b e = ap (λ t. if t then change b else b) e

  changes : (b : B) → bytes_eq (name_of b) name ≡ true → become name_of name change b ≡ change b
  changes b e = ap (λ t. if t then change b else b) e

  -- a place behind the first of the list
  later_place : (from k p : ℕ) (bs : List B) → looked from (suc k) bs ≡ Some p → suc k ≤ p
  later_place from k p bs e = subst (λ o. IfSome o (λ q. suc k ≤ q)) e (found_low (λ q. nat_le from q) (suc k) (suc k + length (names_of bs)) (places_from (suc k) name (names_of bs)) (places_rise (suc k) name (names_of bs)))

  -- behind the first, where the rest is told
  behind_first : (k p : ℕ) (b : B) (bs rest : List B) → suc k ≤ p → rest ≡ anew (suc p - suc k) (changed_at change (p - suc k) bs)
      → b ∷ rest ≡ anew (suc p - k) (changed_at change (p - k) (b ∷ bs))
  behind_first k p b bs rest l e =
      let next : suc (suc p - suc k) ≡ suc p - k = omega arith in
      let place : suc (p - suc k) ≡ p - k = omega arith in
      ap (λ v. b ∷ v) e ∙ ap (λ n. anew n (changed_at change (suc (p - suc k)) (b ∷ bs))) next ∙ ap (λ n. anew (suc p - k) (changed_at change n (b ∷ bs))) place

  at_first : (k p : ℕ) (b : B) (bs : List B) → bytes_eq (name_of b) name ≡ true → k ≡ p → anew 0 (b ∷ bs) ≡ anew (suc p - k) (changed_at change (p - k) (b ∷ bs))
  at_first k p b bs t e =
      let next : 1 ≡ suc p - k = omega (arith, e) in
      let place : 0 ≡ p - k = omega (arith, e) in
      ap (λ v. v ∷ map (become name_of name change) bs) (changes b t)
      ∙ ap (λ n. anew n (changed_at change 0 (b ∷ bs))) next ∙ ap (λ n. anew (suc p - k) (changed_at change n (b ∷ bs))) place

  -- where the first is passed over
  passed_over : (from k : ℕ) (b : B) (bs : List B) (o : Option ℕ) → ((bytes_eq (name_of b) name ≡ false) ⊎ (nat_le from k ≡ false)) → looked from k (b ∷ bs) ≡ o → looked from (suc k) bs ≡ o
  passed_over from k b bs o (inl t) e = ap (λ v. find (λ q. nat_le from q) (if v then k ∷ places_from (suc k) name (names_of bs) else places_from (suc k) name (names_of bs))) (sym t) ∙ e
  passed_over from k b bs o (inr t) e = skipped (bytes_eq (name_of b) name) from k (places_from (suc k) name (names_of bs)) t ∙ e

  head_kept : (from k : ℕ) (b : B) (bs : List B) → ((bytes_eq (name_of b) name ≡ false) × (from ≤ k)) ⊎ (k < from) → anew (from - k) (b ∷ bs) ≡ b ∷ anew (from - suc k) bs
  head_kept from k b bs (inl h) =
      let now : from - k ≡ 0 = omega (arith, h.1) in
      let later : 0 ≡ from - suc k = omega (arith, h.1) in
      ap (λ n. anew n (b ∷ bs)) now ∙ ap (λ v. v ∷ anew 0 bs) (stays b h.0) ∙ ap (λ n. b ∷ anew n bs) later
  head_kept from k b bs (inr h) =
      let next : from - k ≡ suc (from - suc k) = omega arith in
      ap (λ n. anew n (b ∷ bs)) next

  none_told : (n : ℕ) → anew n [] ≡ []
  none_told zero = refl
  none_told (suc n) = refl

  -- the next one is told, and those behind it
  pub told_next : (k from p : ℕ) (bs : List B) → looked from k bs ≡ Some p → anew (from - k) bs ≡ anew (suc p - k) (changed_at change (p - k) bs)
  told_next k from p [] e = absurd (let h : None ≡ Some p = e in cc)
  told_next k from p (b ∷ bs) e = elim (cases_lt k from) [
    | inl l ↦
        let rest = passed_over from k b bs (Some p) (inr (lt-leb from k l)) e in
        head_kept from k b bs (inr l) ∙ behind_first k p b bs (anew (from - suc k) bs) (later_place from k p bs rest) (told_next (suc k) from p bs rest)
    | inr l ↦ elim (cases_Bool (bytes_eq (name_of b) name)) [
      | inl t ↦
          let now : from - k ≡ 0 = omega arith in
          let first : Some k ≡ Some p = sym (found_now from k (places_from (suc k) name (names_of bs)) (bytes_eq (name_of b) name) t (le-leb from k l)) ∙ e in
          ap (λ n. anew n (b ∷ bs)) now ∙ at_first k p b bs t (let same : k ≡ p = cc in same)
      | inr t ↦
          let rest = passed_over from k b bs (Some p) (inl t) e in
          head_kept from k b bs (inl (t, l)) ∙ behind_first k p b bs (anew (from - suc k) bs) (later_place from k p bs rest) (told_next (suc k) from p bs rest)
    ]
  ]

  -- where none is left, all are told
  pub told_all : (k from : ℕ) (bs : List B) → looked from k bs ≡ None → anew (from - k) bs ≡ bs
  told_all k from [] e = none_told (from - k)
  told_all k from (b ∷ bs) e = elim (cases_lt k from) [
    | inl l ↦ head_kept from k b bs (inr l) ∙ ap (λ v. b ∷ v) (told_all (suc k) from bs (passed_over from k b bs None (inr (lt-leb from k l)) e))
    | inr l ↦ elim (cases_Bool (bytes_eq (name_of b) name)) [
      | inl t ↦ absurd (let h : Some k ≡ None = sym (found_now from k (places_from (suc k) name (names_of bs)) (bytes_eq (name_of b) name) t (le-leb from k l)) ∙ e in cc)
      | inr t ↦ head_kept from k b bs (inl (t, l)) ∙ ap (λ v. b ∷ v) (told_all (suc k) from bs (passed_over from k b bs None (inl t) e))
    ]
  ]

-- the code's item at a place, changed
pub set_changed : {A B : Type 0} (tree : A → B) (change : B → B) (xs : List A) (n : ℕ) (old new : A) → slice_get xs n ≡ Some old → tree new ≡ change (tree old)
    → map tree (slice_set xs n new) ≡ changed_at change n (map tree xs)
set_changed tree change [] n old new e h = absurd (let f : None ≡ Some old = e in cc)
set_changed tree change (a ∷ xs) zero old new e h =
    let same : a ≡ old = let f : Some a ≡ Some old = e in cc in
    ap (λ v. v ∷ map tree xs) h ∙ ap (λ v. change (tree v) ∷ map tree xs) (sym same)
set_changed tree change (a ∷ xs) (suc n) old new e h = ap (λ v. tree a ∷ v) (set_changed tree change xs n old new e h)

module _ {A B : Type 0} (tree : A → B) (held_name : A → List ℕ) (name_of : B → List ℕ) (named_so : (a : A) → name_of (tree a) ≡ held_name a) (name : List ℕ) (change : B → B) where
  pub names_seen : (xs : List A) → map name_of (map tree xs) ≡ map held_name xs
  names_seen [] = refl
  names_seen (a ∷ xs) = ap (λ v. v ∷ map name_of (map tree xs)) (named_so a) ∙ ap (λ v. held_name a ∷ v) (names_seen xs)

  seen_place : (from : ℕ) (xs : List A) (o : Option ℕ) → o ≡ first_place from name (map held_name xs) → first_place from name (map name_of (map tree xs)) ≡ o
  seen_place from xs o e = ap (first_place from name) (names_seen xs) ∙ sym e

  -- the next one is changed, and those behind it
  pub next_changed : (from p : ℕ) (xs : List A) → Some p ≡ first_place from name (map held_name xs)
      → changed_from name_of name change from (map tree xs) ≡ changed_from name_of name change (p + 1) (changed_at change p (map tree xs))
  next_changed from p xs e =
      let start : from ≡ from - 0 = omega arith in
      let next : suc p - 0 ≡ p + 1 = omega arith in
      let place : p - 0 ≡ p = omega arith in
      ap (λ n. changed_from name_of name change n (map tree xs)) start ∙ told_next name_of name change 0 from p (map tree xs) (seen_place from xs (Some p) e)
      ∙ ap (λ n. changed_from name_of name change n (changed_at change (p - 0) (map tree xs))) next
      ∙ ap (λ n. changed_from name_of name change (p + 1) (changed_at change n (map tree xs))) place

  -- where none is left, all are changed
  pub all_changed : (from : ℕ) (xs : List A) → None ≡ first_place from name (map held_name xs) → changed_from name_of name change from (map tree xs) ≡ map tree xs
  all_changed from xs e =
      let start : from ≡ from - 0 = omega arith in
      ap (λ n. changed_from name_of name change n (map tree xs)) start ∙ told_all name_of name change 0 from (map tree xs) (seen_place from xs None e)

pub length-changed : {B : Type 0} (change : B → B) (n : ℕ) (bs : List B) → length (changed_at change n bs) ≡ length bs
length-changed change n [] = refl
length-changed change zero (b ∷ bs) = refl
length-changed change (suc n) (b ∷ bs) = ap suc (length-changed change n bs)
