-- Tags of one name that are told anew, one after the other.
use Rattle.std.proofs.Common.{◌≡◌, refl, sym, ap, subst, ◌∙◌, ℕ, zero, suc, ◌+◌, ◌-◌, ◌<◌, ◌≤◌, arith, Bool, true, false, cond, List, [], ◌∷◌, ◌++◌, length, take, drop, map, Option, Some, None, ◌⊎◌, inl, inr}
use Rattle.std.specs.Prelude.{if◌then◌else◌, find, IfSome, nat_le, slice_get, slice_set}
use Rattle.std.specs.Str.{bytes_eq}
use Rattle.std.proofs.lemmas.Bool.{le-leb, lt-leb, leb-true, cases_lt, cases_Bool}
use Rattle.c_syntax_written.specs.declared.place.Pos.{Pos}
use Rattle.c_typing.specs.World.{TagBinding, TagMeaning}
use Rattle.c_typing.specs.Names.{tag_become}
use Rattle.c_check_names.specs.Places.{places_from, first_place}
use Rattle.c_check_names.specs.declared.types.TagBinding.{TagBinding as Held}
use Rattle.c_check_names.specs.Trees.{redefined_at, tag_tree}
use Rattle.c_check_names.proofs.Places.{Rise, places_rise, found_low}

-- the tags from a place on, told anew where they have the name
abbrev pub told_from : Option Pos → TagMeaning → List ℕ → ℕ → List TagBinding → List TagBinding
told_from defined meaning tag n bs = take n bs ++ map (tag_become defined meaning tag) (drop n bs)

passes_so : (test : ℕ → Bool) (p : ℕ) (o : Option ℕ) (b : Bool) → test p ≡ b → IfSome o (λ q. test q ≡ true) → IfSome (cond b (Some p) o) (λ q. test q ≡ true)
passes_so test p o true e h = e
passes_so test p o false e h = h

found_passes : (test : ℕ → Bool) (ps : List ℕ) → IfSome (find test ps) (λ p. test p ≡ true)
found_passes test [] = tt
found_passes test (p ∷ ps) = passes_so test p (find test ps) (test p) refl (found_passes test ps)

high_step : (b : Bool) (p high : ℕ) (o : Option ℕ) → p < high → IfSome o (λ q. q < high) → IfSome (cond b (Some p) o) (λ q. q < high)
high_step true p high o l h = l
high_step false p high o l h = h

found_high : (test : ℕ → Bool) (low high : ℕ) (ps : List ℕ) → Rise low high ps → IfSome (find test ps) (λ p. p < high)
found_high test low high [] h = tt
found_high test low high (p ∷ ps) h = high_step (test p) p high (find test ps) h.1 (found_high test (suc p) high ps h.2)

-- a place that is found is not below the one from which is looked, and one of the list
pub place_low : (from p : ℕ) (name : List ℕ) (names : List (List ℕ)) → Some p ≡ first_place from name names → from ≤ p
place_low from p name names e = leb-true from p (subst (λ o. IfSome o (λ q. nat_le from q ≡ true)) (sym e) (found_passes (λ q. nat_le from q) (places_from 0 name names)))

pub places_high : (from : ℕ) (name : List ℕ) (names : List (List ℕ)) → IfSome (first_place from name names) (λ p. p < length names)
places_high from name names = subst (λ n. IfSome (first_place from name names) (λ p. p < n)) (let same : 0 + length names ≡ length names = omega arith in same) (found_high (λ q. nat_le from q) 0 (0 + length names) (places_from 0 name names) (places_rise 0 name names))

pub if_below : (o : Option ℕ) (m n : ℕ) → m ≤ n → IfSome o (λ p. p < m) → IfSome o (λ p. p < n)
if_below None m n l h = tt
if_below (Some p) m n l h = omega arith

pub place_high : (from p : ℕ) (name : List ℕ) (names : List (List ℕ)) → Some p ≡ first_place from name names → p < length names
place_high from p name names e = subst (λ o. IfSome o (λ q. q < length names)) (sym e) (places_high from name names)

skipped : (b : Bool) (from k : ℕ) (ps : List ℕ) → nat_le from k ≡ false → find (λ q. nat_le from q) ps ≡ find (λ q. nat_le from q) (if b then k ∷ ps else ps)
skipped true from k ps t = ap (λ v. cond v (Some k) (find (λ q. nat_le from q) ps)) (sym t)
skipped false from k ps t = refl

found_now : (from k : ℕ) (ps : List ℕ) (b : Bool) → b ≡ true → nat_le from k ≡ true → find (λ q. nat_le from q) (if b then k ∷ ps else ps) ≡ Some k
found_now from k ps b e t = ap (λ v. find (λ q. nat_le from q) (if v then k ∷ ps else ps)) e ∙ ap (λ v. cond v (Some k) (find (λ q. nat_le from q) ps)) t

module _ (defined : Option Pos) (meaning : TagMeaning) (tag : List ℕ) where
  abbrev anew : ℕ → List TagBinding → List TagBinding
  anew n bs = told_from defined meaning tag n bs

  abbrev tags_of : List TagBinding → List (List ℕ)
  tags_of bs = map (λ b. b.tag) bs

  abbrev looked : ℕ → ℕ → List TagBinding → Option ℕ
  looked from k bs = find (λ q. nat_le from q) (places_from k tag (tags_of bs))

  -- one that is not of the name stays
  stays : (b : TagBinding) → bytes_eq b.tag tag ≡ false → tag_become defined meaning tag b ≡ b
  stays b e = ap (λ t. if t then record b { defined = defined; meaning = meaning } else b) e

  changes : (b : TagBinding) → bytes_eq b.tag tag ≡ true → tag_become defined meaning tag b ≡ record b { defined = defined; meaning = meaning }
  changes b e = ap (λ t. if t then record b { defined = defined; meaning = meaning } else b) e

  -- a place behind the first of the list
  later_place : (from k p : ℕ) (bs : List TagBinding) → looked from (suc k) bs ≡ Some p → suc k ≤ p
  later_place from k p bs e = subst (λ o. IfSome o (λ q. suc k ≤ q)) e (found_low (λ q. nat_le from q) (suc k) (suc k + length (tags_of bs)) (places_from (suc k) tag (tags_of bs)) (places_rise (suc k) tag (tags_of bs)))

  -- behind the first, where the rest is told
  behind_first : (k p : ℕ) (b : TagBinding) (bs rest : List TagBinding) → suc k ≤ p → rest ≡ anew (suc p - suc k) (redefined_at defined meaning (p - suc k) bs)
      → b ∷ rest ≡ anew (suc p - k) (redefined_at defined meaning (p - k) (b ∷ bs))
  behind_first k p b bs rest l e =
      let next : suc (suc p - suc k) ≡ suc p - k = omega arith in
      let place : suc (p - suc k) ≡ p - k = omega arith in
      ap (λ v. b ∷ v) e ∙ ap (λ n. anew n (redefined_at defined meaning (suc (p - suc k)) (b ∷ bs))) next ∙ ap (λ n. anew (suc p - k) (redefined_at defined meaning n (b ∷ bs))) place

  at_first : (k p : ℕ) (b : TagBinding) (bs : List TagBinding) → bytes_eq b.tag tag ≡ true → k ≡ p → anew 0 (b ∷ bs) ≡ anew (suc p - k) (redefined_at defined meaning (p - k) (b ∷ bs))
  at_first k p b bs t e =
      let next : 1 ≡ suc p - k = omega (arith, e) in
      let place : 0 ≡ p - k = omega (arith, e) in
      ap (λ v. v ∷ map (tag_become defined meaning tag) bs) (changes b t)
      ∙ ap (λ n. anew n (redefined_at defined meaning 0 (b ∷ bs))) next ∙ ap (λ n. anew (suc p - k) (redefined_at defined meaning n (b ∷ bs))) place

  -- where the first is passed over
  passed_over : (from k : ℕ) (b : TagBinding) (bs : List TagBinding) (o : Option ℕ) → ((bytes_eq b.tag tag ≡ false) ⊎ (nat_le from k ≡ false)) → looked from k (b ∷ bs) ≡ o → looked from (suc k) bs ≡ o
  passed_over from k b bs o (inl t) e = ap (λ v. find (λ q. nat_le from q) (if v then k ∷ places_from (suc k) tag (tags_of bs) else places_from (suc k) tag (tags_of bs))) (sym t) ∙ e
  passed_over from k b bs o (inr t) e = skipped (bytes_eq b.tag tag) from k (places_from (suc k) tag (tags_of bs)) t ∙ e

  head_kept : (from k : ℕ) (b : TagBinding) (bs : List TagBinding) → ((bytes_eq b.tag tag ≡ false) × (from ≤ k)) ⊎ (k < from) → anew (from - k) (b ∷ bs) ≡ b ∷ anew (from - suc k) bs
  head_kept from k b bs (inl h) =
      let now : from - k ≡ 0 = omega (arith, h.1) in
      let later : 0 ≡ from - suc k = omega (arith, h.1) in
      ap (λ n. anew n (b ∷ bs)) now ∙ ap (λ v. v ∷ anew 0 bs) (stays b h.0) ∙ ap (λ n. b ∷ anew n bs) later
  head_kept from k b bs (inr h) =
      let next : from - k ≡ suc (from - suc k) = omega arith in
      ap (λ n. anew n (b ∷ bs)) next

  none_told : (n : ℕ) → anew n [] ≡ []
  none_told zero = refl
  none_told (suc n) = refl

  -- the next one is told, and those behind it
  pub told_next : (k from p : ℕ) (bs : List TagBinding) → looked from k bs ≡ Some p → anew (from - k) bs ≡ anew (suc p - k) (redefined_at defined meaning (p - k) bs)
  told_next k from p [] e = absurd (let h : None ≡ Some p = e in cc)
  told_next k from p (b ∷ bs) e = elim (cases_lt k from) [
    | inl l ↦
        let rest = passed_over from k b bs (Some p) (inr (lt-leb from k l)) e in
        head_kept from k b bs (inr l) ∙ behind_first k p b bs (anew (from - suc k) bs) (later_place from k p bs rest) (told_next (suc k) from p bs rest)
    | inr l ↦ elim (cases_Bool (bytes_eq b.tag tag)) [
      | inl t ↦
          let now : from - k ≡ 0 = omega arith in
          let first : Some k ≡ Some p = sym (found_now from k (places_from (suc k) tag (tags_of bs)) (bytes_eq b.tag tag) t (le-leb from k l)) ∙ e in
          ap (λ n. anew n (b ∷ bs)) now ∙ at_first k p b bs t (let same : k ≡ p = cc in same)
      | inr t ↦
          let rest = passed_over from k b bs (Some p) (inl t) e in
          head_kept from k b bs (inl (t, l)) ∙ behind_first k p b bs (anew (from - suc k) bs) (later_place from k p bs rest) (told_next (suc k) from p bs rest)
    ]
  ]

  -- where none is left, all are told
  pub told_all : (k from : ℕ) (bs : List TagBinding) → looked from k bs ≡ None → anew (from - k) bs ≡ bs
  told_all k from [] e = none_told (from - k)
  told_all k from (b ∷ bs) e = elim (cases_lt k from) [
    | inl l ↦ head_kept from k b bs (inr l) ∙ ap (λ v. b ∷ v) (told_all (suc k) from bs (passed_over from k b bs None (inr (lt-leb from k l)) e))
    | inr l ↦ elim (cases_Bool (bytes_eq b.tag tag)) [
      | inl t ↦ absurd (let h : Some k ≡ None = sym (found_now from k (places_from (suc k) tag (tags_of bs)) (bytes_eq b.tag tag) t (le-leb from k l)) ∙ e in cc)
      | inr t ↦ head_kept from k b bs (inl (t, l)) ∙ ap (λ v. b ∷ v) (told_all (suc k) from bs (passed_over from k b bs None (inl t) e))
    ]
  ]

-- the code's tag at a place, told anew
pub set_told : (defined : Option Pos) (meaning : TagMeaning) (bs : List Held) (n : ℕ) (old new : Held) → slice_get bs n ≡ Some old → tag_tree new ≡ record (tag_tree old) { defined = defined; meaning = meaning }
    → map tag_tree (slice_set bs n new) ≡ redefined_at defined meaning n (map tag_tree bs)
set_told defined meaning [] n old new e h = absurd (let f : None ≡ Some old = e in cc)
set_told defined meaning (b ∷ bs) zero old new e h =
    let same : b ≡ old = let f : Some b ≡ Some old = e in cc in
    ap (λ v. v ∷ map tag_tree bs) h ∙ ap (λ (v : Held). let told : TagBinding = record (tag_tree v) { defined = defined; meaning = meaning } in told ∷ map tag_tree bs) (sym same)
set_told defined meaning (b ∷ bs) (suc n) old new e h = ap (λ v. tag_tree b ∷ v) (set_told defined meaning bs n old new e h)

-- the names of tags
pub names_seen : (bs : List Held) → map (λ (b : TagBinding). b.tag) (map tag_tree bs) ≡ map (λ (b : Held). b.tag) bs
names_seen [] = refl
names_seen (b ∷ bs) = ap (λ v. b.tag ∷ v) (names_seen bs)

pub length-redefined : (defined : Option Pos) (meaning : TagMeaning) (n : ℕ) (bs : List TagBinding) → length (redefined_at defined meaning n bs) ≡ length bs
length-redefined defined meaning n [] = refl
length-redefined defined meaning zero (b ∷ bs) = refl
length-redefined defined meaning (suc n) (b ∷ bs) = ap suc (length-redefined defined meaning n bs)

module _ (defined : Option Pos) (meaning : TagMeaning) (tag : List ℕ) (from : ℕ) (bs : List Held) where
  abbrev trees : List TagBinding
  trees = map tag_tree bs

  seen_place : (o : Option ℕ) → o ≡ first_place from tag (map (λ (b : Held). b.tag) bs) → first_place from tag (map (λ (b : TagBinding). b.tag) trees) ≡ o
  seen_place o e = ap (first_place from tag) (names_seen bs) ∙ sym e

  -- the same from the start of the list
  pub next_told : (p : ℕ) → Some p ≡ first_place from tag (map (λ (b : Held). b.tag) bs)
      → told_from defined meaning tag from trees ≡ told_from defined meaning tag (p + 1) (redefined_at defined meaning p trees)
  next_told p e =
      let start : from ≡ from - 0 = omega arith in
      let next : suc p - 0 ≡ p + 1 = omega arith in
      let place : p - 0 ≡ p = omega arith in
      ap (λ n. told_from defined meaning tag n trees) start ∙ told_next defined meaning tag 0 from p trees (seen_place (Some p) e)
      ∙ ap (λ n. told_from defined meaning tag n (redefined_at defined meaning (p - 0) trees)) next ∙ ap (λ n. told_from defined meaning tag (p + 1) (redefined_at defined meaning n trees)) place

  pub all_told : None ≡ first_place from tag (map (λ (b : Held). b.tag) bs) → told_from defined meaning tag from trees ≡ trees
  all_told e =
      let start : from ≡ from - 0 = omega arith in
      ap (λ n. told_from defined meaning tag n trees) start ∙ told_all defined meaning tag 0 from trees (seen_place None e)
