-- What a loop has put behind a list.
use Rattle.std.proofs.Common.{◌≡◌, ◌∙◌, ◌+◌, ◌∷◌, ◌++◌, ◌⊎◌, ◌≤ℤ◌, ◌<ℤ◌, ◌+ℤ◌, ◌<◌, inl, inr, arith, refl, ℕ, ℤ, pos, List, [], Contains, ap, sym, subst, drop, length, add-one, drop-cons, slice_index_or, flat_map}
use Rattle.std.proofs.lemmas.List.{append_assoc}
use Rattle.std.proofs.lemmas.List.Elements.{Contains-append_left, Contains-push, Contains-push_cases}
use Rattle.std.proofs.lemmas.Int.{ints}
use Rattle.trial_boxes.specs.Boxes.{HasAllBetween}

pub one_more : {X Y : Type 0} (f : X → List Y) (all now : List Y) (xs : List X) (i : ℕ) (d : X) → i < length xs
    → now ≡ all ++ f (slice_index_or xs i d) → now ++ flat_map f (drop (i + 1) xs) ≡ all ++ flat_map f (drop i xs)
one_more {X} {Y} f all now xs i d less is =
    let split : drop i xs ≡ slice_index_or xs i d ∷ drop (i + 1) xs = rw add-one (drop-cons xs i d less) in
    ap (λ (ys : List Y). ys ++ flat_map f (drop (i + 1) xs)) is
    ∙ append_assoc all (f (slice_index_or xs i d)) (flat_map f (drop (i + 1) xs))
    ∙ ap (λ (rest : List X). all ++ flat_map f rest) (sym split)

-- the numbers from lo that are below n
pub record HasBelow (lo n : ℤ) (xs : List ℤ) : Type 0 where
  pub from : lo ≤ℤ n
  pub each : (m : ℤ) → lo ≤ℤ m → m <ℤ n → Contains xs m
  pub only : (m : ℤ) → Contains xs m → (lo ≤ℤ m) × (m <ℤ n)

below_or_same : (m n : ℤ) → m <ℤ (n +ℤ pos 1) → (m <ℤ n) ⊎ (n ≡ m)
below_or_same m n l = search (arith, ints)

with_next : (lo n : ℤ) (xs : List ℤ) → HasBelow lo n xs → HasBelow lo (n +ℤ pos 1) (xs ++ n ∷ [])
with_next lo n xs h = record {
  from = let from = h.from in omega (arith, ints);
  each = λ m l less. elim (below_or_same m n less) [
    | inl below ↦ Contains-append_left xs (n ∷ []) m (h.each m l below)
    | inr e ↦ subst (Contains (xs ++ n ∷ [])) e (Contains-push xs n)
  ];
  only = λ m c. elim (Contains-push_cases xs n m c) [
    | inl before ↦ let o = h.only m before in (o.0, let below = o.1 in omega (arith, ints))
    | inr e ↦ let from = h.from in (omega (arith, ints), omega (arith, ints))
  ];
}

pub next_below : (lo n next : ℤ) (xs ys : List ℤ) → next ≡ n +ℤ pos 1 → ys ≡ xs ++ n ∷ [] → HasBelow lo n xs → HasBelow lo next ys
next_below lo n next xs ys e f h = subst (λ m. HasBelow lo m ys) (sym e) (subst (HasBelow lo (n +ℤ pos 1)) (sym f) (with_next lo n xs h))

-- nothing is put behind where hi is below lo
pub none_between : (lo hi low high n : ℤ) (xs ys : List ℤ) → low ≡ lo → high ≡ hi → ys ≡ xs → HasBelow low n xs → (n ≤ℤ high) ⊎ (n ≡ low) → high <ℤ n
    → HasAllBetween lo hi ys
none_between lo hi low high n xs ys is_low is_high is h (inl l) above = absurd (omega (arith, ints))
none_between lo hi low high n xs ys is_low is_high is h (inr e) above = subst (HasAllBetween lo hi) (sym is) (record {
  each = λ m l g. h.each m (omega (arith, ints)) (omega (arith, ints));
  only = λ m c. let o = h.only m c in let from = o.0 in let below = o.1 in absurd (omega (arith, ints));
})

pub all_between : (lo hi low high n : ℤ) (xs ys : List ℤ) → low ≡ lo → high ≡ hi → ys ≡ xs ++ n ∷ [] → HasBelow low n xs → n ≡ high → HasAllBetween lo hi ys
all_between lo hi low high n xs ys is_low is_high is before last =
    let h = next_below low n (n +ℤ pos 1) xs ys refl is before in record {
      each = λ m l g. h.each m (omega (arith, ints)) (omega (arith, ints));
      only = λ m c. let o = h.only m c in let from = o.0 in let below = o.1 in (omega (arith, ints), omega (arith, ints));
    }
