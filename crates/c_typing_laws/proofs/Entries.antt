-- Entries that are looked up by their names, and objects by their numbers.
use Rattle.std.proofs.Common.{◌≡◌, ℕ, zero, suc, true, false, List, [], ◌∷◌, ◌++◌, length, refl, ap, sym, subst, ◌∙◌, inl, inr, ⊎_elim, arith}
use Rattle.std.specs.Prelude.{◌⊎◌, Bool, if◌then◌else◌, is_some, Option, None, Some, option_map, unwrap_or, All, find, map, set, slice_get, bytes_eq}
use Rattle.std.proofs.lemmas.Bool.{false≢true}
use Rattle.std.proofs.lemmas.Option.{same_Some, none-some}
use Rattle.std.proofs.lemmas.List.Elements.{All-nil, All-cons, All-head, All-tail}
use Rattle.std.proofs.lemmas.Slice.Eq.{bytes_eq-Decides}
use Rattle.c_syntax.specs.Types.{CTypeTree, ObjectTree}
use Rattle.c_typing.specs.World.{World, Linked}
use Rattle.c_typing.specs.Context.{has_name}
use Rattle.c_typing.specs.Decls.{with_sized, sized_object}

-- ---- names

pub same_bytes : (a b : List ℕ) → bytes_eq a b ≡ true → a ≡ b
same_bytes a b e = (bytes_eq-Decides a b).0 e

pub own_bytes : (a : List ℕ) → bytes_eq a a ≡ true
own_bytes a = (bytes_eq-Decides a a).1 refl

-- what is found stays found
pub found_more : {A : Type 0} (p : A → Bool) (xs ys : List A) (l : A) → find p xs ≡ Some l → find p (xs ++ ys) ≡ Some l
found_more p [] ys l e = absurd (none-some l e)
found_more p (x ∷ xs) ys l e = by (p x) e (found_more p xs ys l)
  where
    by : (b : Bool) → (if b then Some x else find p xs) ≡ Some l → (find p xs ≡ Some l → find p (xs ++ ys) ≡ Some l) → (if b then Some x else find p (xs ++ ys)) ≡ Some l
    by true e more = e
    by false e more = more e

pub found_last : {A : Type 0} (p : A → Bool) (xs : List A) (l : A) → find p xs ≡ None → p l ≡ true → find p (xs ++ l ∷ []) ≡ Some l
found_last p [] l e t = ap (λ b. if b then Some l else None) t
found_last p (x ∷ xs) l e t = by (p x) e (found_last p xs l)
  where
    by : (b : Bool) → (if b then Some x else find p xs) ≡ None → (find p xs ≡ None → p l ≡ true → find p (xs ++ l ∷ []) ≡ Some l) → (if b then Some x else find p (xs ++ l ∷ [])) ≡ Some l
    by true e more = absurd (none-some x (sym e))
    by false e more = more e t

-- entries that change and keep their names
pub found_mapped :
    (change : Linked → Linked) → ((l : Linked) → (change l).name ≡ l.name) → (name : List ℕ) (xs : List Linked)
    → find (λ l. bytes_eq l.name name) (map change xs) ≡ option_map change (find (λ l. bytes_eq l.name name) xs)
found_mapped change same name [] = refl
found_mapped change same name (x ∷ xs) =
    subst (λ n. (if bytes_eq n name then Some (change x) else find (λ l. bytes_eq l.name name) (map change xs)) ≡ option_map change (if bytes_eq x.name name then Some x else find (λ l. bytes_eq l.name name) xs)) (sym (same x))
    (by (bytes_eq x.name name) (found_mapped change same name xs))
  where
    by :
        (b : Bool) → find (λ l. bytes_eq l.name name) (map change xs) ≡ option_map change (find (λ l. bytes_eq l.name name) xs)
        → (if b then Some (change x) else find (λ l. bytes_eq l.name name) (map change xs)) ≡ option_map change (if b then Some x else find (λ l. bytes_eq l.name name) xs)
    by true e = refl
    by false e = e

pub name_if : (b : Bool) (x y : Linked) → x.name ≡ y.name → (if b then x else y).name ≡ y.name
name_if true x y e = e
name_if false x y e = refl

-- what holds of each name holds of one that is among them
pub has_in : (P : List ℕ → Type 0) (names : List (List ℕ)) (name : List ℕ) → All P names → has_name names name ≡ true → P name
has_in P [] name all e = absurd (false≢true e)
has_in P (x ∷ xs) name all e = by (bytes_eq x name) refl e (has_in P xs name (All-tail P x xs all))
  where
    by : (b : Bool) → bytes_eq x name ≡ b → is_some (if b then Some x else find (λ n. bytes_eq n name) xs) ≡ true → (has_name xs name ≡ true → P name) → P name
    by true q h more = subst P (same_bytes x name q) (All-head P x xs all)
    by false q h more = more h

pub split_all : {A : Type 0} (P : A → Type 0) (xs ys : List A) → All P (xs ++ ys) → All P xs × All P ys
split_all P [] ys all = (All-nil P, all)
split_all P (x ∷ xs) ys all =
    let rest = split_all P xs ys (All-tail P x (xs ++ ys) all) in (All-cons P x xs (All-head P x (xs ++ ys) all) rest.0, rest.1)

-- ---- objects

pub each : {A : Type 0} (P : A → Type 0) (xs : List A) (k : ℕ) (x : A) → All P xs → slice_get xs k ≡ Some x → P x
each P [] k x all e = absurd (none-some x e)
each P (y ∷ xs) zero x all e = subst P (same_Some y x e) (All-head P y xs all)
each P (y ∷ xs) (suc k) x all e = each P xs k x (All-tail P y xs all) e

-- one of the list, or of those behind it
pub get_either : {A : Type 0} (P : A → Type 0) (xs ys : List A) (k : ℕ) (x : A) → All P ys → slice_get (xs ++ ys) k ≡ Some x → (slice_get xs k ≡ Some x) ⊎ P x
get_either P [] ys k x all e = inr (each P ys k x all e)
get_either P (z ∷ xs) ys zero x all e = inl e
get_either P (z ∷ xs) ys (suc k) x all e = get_either P xs ys k x all e

-- the one behind it
pub get_last_or : {A : Type 0} (xs : List A) (y : A) (k : ℕ) (x : A) → slice_get (xs ++ y ∷ []) k ≡ Some x → (slice_get xs k ≡ Some x) ⊎ ((k ≡ length xs) × (x ≡ y))
get_last_or [] y zero x e = inr (refl, sym (same_Some y x e))
get_last_or [] y (suc k) x e = absurd (none-some x e)
get_last_or (z ∷ xs) y zero x e = inl e
get_last_or (z ∷ xs) y (suc k) x e = ⊎_elim (λ a. inl a) (λ b. let n = b.0 in inr (omega (arith, n), b.1)) (get_last_or xs y k x e)

-- the one that is set, or another
pub set_or : {A : Type 0} (xs : List A) (n : ℕ) (y : A) (k : ℕ) (x : A) → slice_get (set xs n y) k ≡ Some x → ((k ≡ n) × (x ≡ y)) ⊎ ((slice_get xs k ≡ Some x) × (k ≡ n → ⊥))
set_or [] n y k x e = absurd (none-some x e)
set_or (z ∷ xs) zero y zero x e = inl (refl, sym (same_Some y x e))
set_or (z ∷ xs) zero y (suc k) x e = inr (e, λ h. absurd (omega (arith, h)))
set_or (z ∷ xs) (suc n) y zero x e = inr (e, λ h. absurd (omega (arith, h)))
set_or (z ∷ xs) (suc n) y (suc k) x e =
    ⊎_elim (λ a. let h = a.0 in inl (omega (arith, h), a.1)) (λ b. inr (b.0, λ h. b.1 (omega (arith, h)))) (set_or xs n y k x e)

-- the object that has another type now, or another
pub sized_or :
    (w : World) (n : ℕ) (ty : CTypeTree) (size k : ℕ) (x : ObjectTree) → slice_get (with_sized w n ty size).objects k ≡ Some x
    → ((k ≡ n) × (x.ty ≡ ty)) ⊎ ((slice_get w.objects k ≡ Some x) × (k ≡ n → ⊥))
sized_or w n ty size k x e = by (slice_get w.objects n) refl e
  where
    by :
        (o : Option ObjectTree) → slice_get w.objects n ≡ o → slice_get (unwrap_or (option_map (λ object. set w.objects n (sized_object ty size object)) o) w.objects) k ≡ Some x
        → ((k ≡ n) × (x.ty ≡ ty)) ⊎ ((slice_get w.objects k ≡ Some x) × (k ≡ n → ⊥))
    by None q h = inr (h, λ s. none-some x (sym q ∙ ap (slice_get w.objects) (sym s) ∙ h))
    by (Some z) q h = ⊎_elim (λ a. inl (a.0, ap (λ y. y.ty) a.1)) (λ b. inr b) (set_or w.objects n (sized_object ty size z) k x h)
