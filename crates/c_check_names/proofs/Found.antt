-- What is found in a list that is seen through trees.
use Rattle.std.proofs.Common.{◌≡◌, refl, sym, ap, ◌∙◌, ℕ, zero, suc, Bool, true, false, cond, List, [], ◌∷◌, ◌++◌, drop, map, Bor, Option, Some, None}
use Rattle.std.specs.Prelude.{find, reverse, IfSome, slice_get, slice_set}
use Rattle.std.specs.Option.{option_map, option_copied}
use Rattle.std.proofs.lemmas.List.{map-append, reverse-append}

module _ {A B C : Type 0} (tree : A → B) (told : B → C) (test : B → Bool) where
  found_step : (b : Bool) (x : A) (o : Option B) (p : Option A) → option_map told o ≡ option_map (λ a. told (tree a)) p
      → option_map told (cond b (Some (tree x)) o) ≡ option_map (λ a. told (tree a)) (cond b (Some x) p)
  found_step true x o p e = refl
  found_step false x o p e = e

  pub found_tree : (xs : List A) → option_map told (find test (map tree xs)) ≡ option_map (λ a. told (tree a)) (find (λ a. test (tree a)) xs)
  found_tree [] = refl
  found_tree (x ∷ xs) = found_step (test (tree x)) x (find test (map tree xs)) (find (λ a. test (tree a)) xs) (found_tree xs)

  drop_tree : (n : ℕ) (xs : List A) → drop n (map tree xs) ≡ map tree (drop n xs)
  drop_tree zero xs = refl
  drop_tree (suc n) [] = refl
  drop_tree (suc n) (x ∷ xs) = drop_tree n xs

  reverse_tree : (xs : List A) → reverse (map tree xs) ≡ map tree (reverse xs)
  reverse_tree [] = refl
  reverse_tree (x ∷ xs) = reverse-append (tree x ∷ []) (map tree xs) ∙ ap (λ ys. ys ++ tree x ∷ []) (reverse_tree xs) ∙ sym (map-append tree (reverse xs) (x ∷ [])) ∙ ap (map tree) (sym (reverse-append (x ∷ []) xs))

  -- the first from a place on, and the last
  pub first_tree : (n : ℕ) (xs : List A) → option_map told (find test (drop n (map tree xs))) ≡ option_map (λ a. told (tree a)) (find (λ a. test (tree a)) (drop n xs))
  first_tree n xs = ap (λ ys. option_map told (find test ys)) (drop_tree n xs) ∙ found_tree (drop n xs)

  pub last_tree : (xs : List A) → option_map told (find test (reverse (map tree xs))) ≡ option_map (λ a. told (tree a)) (find (λ a. test (tree a)) (reverse xs))
  last_tree xs = ap (λ ys. option_map told (find test ys)) (reverse_tree xs) ∙ found_tree (reverse xs)

-- what is lent, seen as a tree
pub lent_tree : {A B : Type 0} (tree : A → B) (r : Option (Bor A)) → option_map (λ a. tree a.now) r ≡ option_map tree (option_copied r)
lent_tree tree None = refl
lent_tree tree (Some a) = refl

same_option : {A : Type 0} (o : Option A) → option_map (λ a. a) o ≡ o
same_option None = refl
same_option (Some a) = refl

-- a thing itself is found
pub first_itself : {A B : Type 0} (tree : A → B) (test : B → Bool) (n : ℕ) (xs : List A) → find test (drop n (map tree xs)) ≡ option_map tree (find (λ a. test (tree a)) (drop n xs))
first_itself tree test n xs = sym (same_option (find test (drop n (map tree xs)))) ∙ first_tree tree (λ b. b) test n xs

pub last_itself : {A B : Type 0} (tree : A → B) (test : B → Bool) (xs : List A) → find test (reverse (map tree xs)) ≡ option_map tree (find (λ a. test (tree a)) (reverse xs))
last_itself tree test xs = sym (same_option (find test (reverse (map tree xs)))) ∙ last_tree tree (λ b. b) test xs

-- one put in the place of another of the same name
pub set_named : {A : Type 0} (name_of : A → List ℕ) (xs : List A) (n : ℕ) (x : A) → IfSome (slice_get xs n) (λ old. name_of x ≡ name_of old) → map name_of xs ≡ map name_of (slice_set xs n x)
set_named name_of [] n x h = refl
set_named name_of (y ∷ ys) zero x h = ap (λ v. v ∷ map name_of ys) (sym h)
set_named name_of (y ∷ ys) (suc n) x h = ap (λ v. name_of y ∷ v) (set_named name_of ys n x h)
