-- Members of lists, and tests that are true of one.
use Rattle.std.proofs.Common.{◌≡◌, inl, inr, zero, suc, Bool, true, false, cond, List, [], ◌∷◌, ◌++◌, Some, None, refl, sym, subst, ap, ◌∙◌, arith}
use Rattle.std.specs.Prelude.{◌↔◌, All, Contains, slice_get}
use Rattle.std.specs.List.{filter, flat_map, list_any}
use Rattle.std.proofs.lemmas.List.Folds.{Any-from_list_any, list_any-from_Any}
use Rattle.std.proofs.lemmas.List.Elements.{All-cons, All-head, All-nil, All-tail, Contains-append_cases, Contains-append_left, Contains-append_right}
use Rattle.c_rules.specs.Earliest.{IsFirst}

module _ {A B : Type 0} (f : A → List B) where
  pub in_flat_map : (xs : List A) (t : B) → Contains (flat_map f xs) t → (x : A) × Contains xs x × Contains (f x) t
  in_flat_map [] t c = absurd (omega (arith, c.1))
  in_flat_map (x ∷ xs) t c = elim (Contains-append_cases (f x) (flat_map f xs) t c) [
    | inl h ↦ (x, (0, omega arith, refl), h)
    | inr h ↦ let rest = in_flat_map xs t h in (rest.0, Contains-append_right (x ∷ []) xs rest.0 rest.1, rest.2)
  ]

  pub into_flat_map : (xs : List A) (x : A) (t : B) → Contains xs x → Contains (f x) t → Contains (flat_map f xs) t
  into_flat_map [] x t c h = absurd (omega (arith, c.1))
  into_flat_map (y ∷ xs) x t c h = elim (Contains-append_cases (y ∷ []) xs x c) [
    | inl one ↦ Contains-append_left (f y) (flat_map f xs) t (subst (λ (z : A). Contains (f z) t) (sym (only_one y x one)) h)
    | inr rest ↦ Contains-append_right (f y) (flat_map f xs) t (into_flat_map xs x t rest h)
  ] where
    only_one : (y x : A) → Contains (y ∷ []) x → y ≡ x
    only_one y x (zero, less, e) = e
    only_one y x (suc k, less, e) = absurd (omega (arith, less))

module _ {A : Type 0} (p : A → Bool) where
  pub some_true : (xs : List A) → list_any p xs ≡ true → (x : A) × Contains xs x × (p x ≡ true)
  some_true xs e = let one = Any-from_list_any p xs e in (one.1, (one.0, one.2, one.3), one.4)

  pub true_some : (xs : List A) (x : A) → Contains xs x → p x ≡ true → list_any p xs ≡ true
  true_some xs x c e = list_any-from_Any p xs (c.0, x, c.1, c.2, e)

some_same : {A : Type 0} {a b : A} → Some a ≡ Some b → a ≡ b
some_same e = cc

no_some : {A : Type 0} {a : A} → Some a ≡ None → ⊥
no_some e = cc

-- ---- the first of a list of which a test is true

module _ {A : Type 0} (p : A → Bool) (P : A → Type 0) (tells : (a : A) → (p a ≡ true) ↔ P a) where
  not_asked : (a : A) → p a ≡ false → P a → ⊥
  not_asked a e h = differ (sym ((tells a).1 h) ∙ e) where
    differ : true ≡ false → ⊥
    differ e = cc

  one_more : (x : A) (xs : List A) (a : A) → p x ≡ false → IsFirst P xs a → IsFirst P (x ∷ xs) a
  one_more x xs a e f = record {
    front = x ∷ f.front;
    back = f.back;
    is = ap (λ rest. x ∷ rest) f.is;
    asked = f.asked;
    before = All-cons (λ other. P other → ⊥) x f.front (not_asked x e) f.before;
  }

  pub first_true : (xs : List A) (a : A) → slice_get (filter p xs) 0 ≡ Some a → IsFirst P xs a
  first_true [] a e = absurd (no_some (sym e))
  first_true (x ∷ xs) a e = by_head (p x) refl e (first_true xs a) where
    by_head : (b : Bool) → p x ≡ b → slice_get (cond b (x ∷ filter p xs) (filter p xs)) 0 ≡ Some a → (slice_get (filter p xs) 0 ≡ Some a → IsFirst P xs a)
        → IsFirst P (x ∷ xs) a
    by_head true is e rest = record {
      front = [];
      back = xs;
      is = ap (λ y. y ∷ xs) (some_same e);
      asked = subst P (some_same e) ((tells x).0 is);
      before = All-nil (λ other. P other → ⊥);
    }
    by_head false is e rest = one_more x xs a is (rest e)

  pub none_true : (xs : List A) → slice_get (filter p xs) 0 ≡ None → All (λ other. P other → ⊥) xs
  none_true [] e = All-nil (λ other. P other → ⊥)
  none_true (x ∷ xs) e = by_head (p x) refl e (none_true xs) where
    by_head : (b : Bool) → p x ≡ b → slice_get (cond b (x ∷ filter p xs) (filter p xs)) 0 ≡ None
        → (slice_get (filter p xs) 0 ≡ None → All (λ other. P other → ⊥) xs) → All (λ other. P other → ⊥) (x ∷ xs)
    by_head true is e rest = absurd (no_some e)
    by_head false is e rest = All-cons (λ other. P other → ⊥) x xs (not_asked x is) (rest e)

-- ---- a list has one first

module _ {A : Type 0} (P : A → Type 0) where
  pub one_first : (front other : List A) (a b : A) (back rest : List A) → front ++ a ∷ back ≡ other ++ b ∷ rest → P a → P b
      → All (λ x. P x → ⊥) front → All (λ x. P x → ⊥) other → a ≡ b
  one_first [] [] a b back rest e pa pb before after = cc
  one_first [] (y ∷ other) a b back rest e pa pb before after =
      absurd (All-head (λ x. P x → ⊥) y other after (subst P (let same : a ≡ y = cc in same) pa))
  one_first (x ∷ front) [] a b back rest e pa pb before after =
      absurd (All-head (λ x. P x → ⊥) x front before (subst P (let same : b ≡ x = cc in same) pb))
  one_first (x ∷ front) (y ∷ other) a b back rest e pa pb before after =
      one_first front other a b back rest (let same : front ++ a ∷ back ≡ other ++ b ∷ rest = cc in same) pa pb
      (All-tail (λ x. P x → ⊥) x front before) (All-tail (λ x. P x → ⊥) y other after)

  pub first_is_one : (list : List A) (a b : A) → IsFirst P list a → IsFirst P list b → a ≡ b
  first_is_one list a b f g = one_first f.front g.front a b f.back g.back (sym f.is ∙ g.is) f.asked g.asked f.before g.before

  pub none_first : (a : A) → IsFirst P [] a → ⊥
  none_first a f = nothing f.front f.is where
    nothing : (front : List A) → [] ≡ front ++ a ∷ f.back → ⊥
    nothing [] e = cc
    nothing (x ∷ front) e = cc

  pub all_not_first : (list : List A) (a : A) → All (λ x. P x → ⊥) list → IsFirst P list a → ⊥
  all_not_first list a none f = inside f.front (subst (All (λ x. P x → ⊥)) f.is none) where
    inside : (front : List A) → All (λ x. P x → ⊥) (front ++ a ∷ f.back) → ⊥
    inside [] all = All-head (λ x. P x → ⊥) a f.back all f.asked
    inside (x ∷ front) all = inside front (All-tail (λ x. P x → ⊥) x (front ++ a ∷ f.back) all)
