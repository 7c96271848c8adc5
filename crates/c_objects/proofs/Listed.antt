-- Elements of lists of numbers, and how often a number stands in one.
use Rattle.std.proofs.Common.{◌≡◌, ◌<◌, ◌≤◌, ◌+◌, ◌⊎◌, inl, inr, ℕ, zero, suc, cond, List, [], ◌∷◌, ◌++◌, Some, refl, sym, ap, ◌∙◌, subst, arith}
use Rattle.std.specs.Prelude.{◌==◌, Contains, count_by, slice_get, slice_index_or}
use Rattle.std.specs.List.{flat_map}
use Rattle.std.proofs.lemmas.Bool.{cases_eq, eq-eqb, ne_eqb}
use Rattle.std.proofs.lemmas.List.Concat.{flat_map-cons}
use Rattle.std.proofs.lemmas.List.Elements.{Contains-append_cases, Contains-append_right}
use Rattle.std.proofs.lemmas.List.Sums.{sum_by-append, sum_by-cons}
use Rattle.c_objects.specs.Lifetimes.{AreDistinct}

-- ---- elements

pub first_in : (x : ℕ) (xs : List ℕ) → Contains (x ∷ xs) x
first_in x xs = (0, omega arith, refl)

pub rest_in : (x y : ℕ) (xs : List ℕ) → Contains xs y → Contains (x ∷ xs) y
rest_in x y xs h = Contains-append_right (x ∷ []) xs y h

pub none_in : (y : ℕ) → Contains [] y → ⊥
none_in y h = let lt = h.1 in omega (arith, lt)

one_at : (j l k : ℕ) → k < 1 → slice_index_or (l ∷ []) k j ≡ j → l ≡ j
one_at j l zero lt e = e
one_at j l (suc k) lt e = absurd (omega (arith, lt))

pub one_is : (j l : ℕ) → Contains (l ∷ []) j → l ≡ j
one_is j l (k, lt, e) = one_at j l k lt e

head_case : (x y : ℕ) (xs : List ℕ) → Contains (x ∷ []) y ⊎ Contains xs y → (x ≡ y) ⊎ Contains xs y
head_case x y xs (inl c) = inl (one_is y x c)
head_case x y xs (inr c) = inr c

pub by_head : (x y : ℕ) (xs : List ℕ) → Contains (x ∷ xs) y → (x ≡ y) ⊎ Contains xs y
by_head x y xs h = head_case x y xs (Contains-append_cases (x ∷ []) xs y h)

pub by_sum : {A B C : Type 0} → A ⊎ B → (A → C) → (B → C) → C
by_sum (inl a) f g = f a
by_sum (inr b) f g = g b

listed_case : (x y : ℕ) (xs : List ℕ) → (y ≡ x) ⊎ (y ≡ x → ⊥) → Contains xs y ⊎ (Contains xs y → ⊥) → Contains (x ∷ xs) y ⊎ (Contains (x ∷ xs) y → ⊥)
listed_case x y xs (inl e) later = inl (subst (λ z. Contains (x ∷ xs) z) (sym e) (first_in x xs))
listed_case x y xs (inr other) (inl h) = inl (rest_in x y xs h)
listed_case x y xs (inr other) (inr out) = inr (λ c. by_sum (by_head x y xs c) (λ e. other (sym e)) out)

-- an element or none
pub is_listed : (y : ℕ) (xs : List ℕ) → Contains xs y ⊎ (Contains xs y → ⊥)
is_listed y [] = inr (none_in y)
is_listed y (x ∷ xs) = listed_case x y xs (cases_eq y x) (is_listed y xs)

-- ---- how often a number stands in a list

abbrev pub one_if : ℕ → ℕ → ℕ
one_if y x = cond (x == y) 1 0

abbrev pub times : ℕ → List ℕ → ℕ
times y xs = count_by (λ x. x == y) xs

pub times_append : (y : ℕ) (xs ys : List ℕ) → times y (xs ++ ys) ≡ times y xs + times y ys
times_append y xs ys = sum_by-append (one_if y) xs ys

times_cons : (y x : ℕ) (xs : List ℕ) → times y (x ∷ xs) ≡ one_if y x + times y xs
times_cons y x xs = sum_by-cons (one_if y) x xs

one_same : (y : ℕ) → one_if y y ≡ 1
one_same y = rw (eq-eqb y y refl) refl

times_first : (y x : ℕ) (xs : List ℕ) → x ≡ y → 1 ≤ times y (x ∷ xs)
times_first y x xs e =
    let cons = times_cons y x xs in
    let one : one_if y x ≡ 1 = subst (λ z. one_if y z ≡ 1) (sym e) (one_same y) in omega (arith, cons, one)

pub listed_times : (y : ℕ) (xs : List ℕ) → Contains xs y → 1 ≤ times y xs
listed_times y [] c = absurd (none_in y c)
listed_times y (x ∷ xs) c =
    let cons = times_cons y x xs in
    by_sum (by_head x y xs c) (λ e. times_first y x xs e) (λ d. let more = listed_times y xs d in omega (arith, cons, more))

none_if : (y x : ℕ) → (x ≡ y → ⊥) → one_if y x ≡ 0
none_if y x f = rw (ne_eqb x y f) refl

pub times_listed : (y : ℕ) (xs : List ℕ) → 1 ≤ times y xs → Contains xs y
times_listed y [] h = absurd (omega (arith, h))
times_listed y (x ∷ xs) h =
    let cons = times_cons y x xs in
    by_sum (cases_eq x y) (λ e. subst (λ z. Contains (x ∷ xs) z) e (first_in x xs))
    (λ f. let zero_if = none_if y x f in rest_in x y xs (times_listed y xs (omega (arith, h, cons, zero_if))))

-- a list in which each stands once has no two that are one
pub distinct : (xs : List ℕ) → ((y : ℕ) → times y xs ≤ 1) → AreDistinct xs
distinct [] f = tt
distinct (x ∷ xs) f = (
  (λ c. let once = f x in let cons = times_cons x x xs in let one = one_same x in let more = listed_times x xs c in omega (arith, once, cons, one, more)),
  distinct xs (λ y. let once = f y in let cons = times_cons y x xs in omega (arith, once, cons)),
)

-- ---- lists of lists

module _ {A : Type 0} (of : A → List ℕ) (y : ℕ) where
  flat_times : (x : A) (xs : List A) → times y (flat_map of (x ∷ xs)) ≡ times y (of x) + times y (flat_map of xs)
  flat_times x xs = ap (λ l. times y l) (flat_map-cons of x xs) ∙ times_append y (of x) (flat_map of xs)

  pub part_times : (xs : List A) (k : ℕ) (x : A) → slice_get xs k ≡ Some x → times y (of x) ≤ times y (flat_map of xs)
  part_times [] zero x e = absurd (cc)
  part_times [] (suc k) x e = absurd (cc)
  part_times (z ∷ zs) zero x e =
      let all = flat_times z zs in let same : z ≡ x = cc in
      subst (λ w. times y (of w) ≤ times y (flat_map of (z ∷ zs))) same (omega (arith, all))
  part_times (z ∷ zs) (suc k) x e = let all = flat_times z zs in let rest = part_times zs k x e in omega (arith, all, rest)

  pub two_times : (xs : List A) (j k : ℕ) (a b : A) → (j ≡ k → ⊥) → slice_get xs j ≡ Some a → slice_get xs k ≡ Some b
      → times y (of a) + times y (of b) ≤ times y (flat_map of xs)
  two_times [] zero k a b n e f = absurd (cc)
  two_times [] (suc j) k a b n e f = absurd (cc)
  two_times (z ∷ zs) zero zero a b n e f = absurd (n refl)
  two_times (z ∷ zs) zero (suc k) a b n e f =
      let all = flat_times z zs in let rest = part_times zs k b f in let same : z ≡ a = cc in
      subst (λ w. times y (of w) + times y (of b) ≤ times y (flat_map of (z ∷ zs))) same (omega (arith, all, rest))
  two_times (z ∷ zs) (suc j) zero a b n e f =
      let all = flat_times z zs in let rest = part_times zs j a e in let same : z ≡ b = cc in
      subst (λ w. times y (of a) + times y (of w) ≤ times y (flat_map of (z ∷ zs))) same (omega (arith, all, rest))
  two_times (z ∷ zs) (suc j) (suc k) a b n e f =
      let all = flat_times z zs in
      let rest = two_times zs j k a b (λ h. n (ap suc h)) e f in omega (arith, all, rest)

  pub contains_flat : (xs : List A) (k : ℕ) (x : A) → slice_get xs k ≡ Some x → Contains (of x) y → Contains (flat_map of xs) y
  contains_flat xs k x e c = let here = listed_times y (of x) c in let all = part_times xs k x e in times_listed y (flat_map of xs) (omega (arith, here, all))
