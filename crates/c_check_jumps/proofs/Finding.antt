-- Names that are found in a list of them.
use Rattle.std.proofs.Common.{◌≡◌, ◌≤◌, ◌<◌, ◌+◌, ◌∙◌, ap, sym, refl, arith, ℕ, zero, suc, Bool, true, false, cond, List, [], ◌∷◌, ◌++◌, length, map, drop, get_or, append_assoc, Option, Some, None}
use Rattle.std.specs.Prelude.{if◌then◌else◌, find, flat_map, is_some, nat_le, position}
use Rattle.std.specs.List.{position_from}
use Rattle.std.specs.Option.{option_copied}
use Rattle.std.specs.Str.{bytes_eq}
use Rattle.std.proofs.Common.{Bor}
use Rattle.std.proofs.lemmas.Bool.{le-leb}
use Rattle.std.proofs.lemmas.Iterator.Adapters.{position_from-zero}
use Rattle.std.proofs.lemmas.List.{drop_more, append-nil}
use Rattle.c_check_names.specs.Places.{places_from, first_place}

-- what is lent is there
pub is_lent : {A : Type 0} (r : Option (Bor A)) → is_some r ≡ is_some (option_copied r)
is_lent None = refl
is_lent (Some a) = refl

has_step : {A B : Type 0} (b : Bool) (x : A) (y : B) (o : Option A) (p : Option B) → is_some o ≡ is_some p → is_some (cond b (Some x) o) ≡ is_some (cond b (Some y) p)
has_step true x y o p e = refl
has_step false x y o p e = e

-- a thing of the name, and the name
pub has_seen : {A : Type 0} (name_of : A → List ℕ) (name : List ℕ) (xs : List A)
    → is_some (find (λ a. bytes_eq (name_of a) name) xs) ≡ is_some (find (λ n. bytes_eq n name) (map name_of xs))
has_seen name_of name [] = refl
has_seen name_of name (x ∷ xs) =
    has_step (bytes_eq (name_of x) name) x (name_of x) (find (λ a. bytes_eq (name_of a) name) xs) (find (λ n. bytes_eq n name) (map name_of xs)) (has_seen name_of name xs)

next_place : (k : ℕ) → suc k ≡ k + 1
next_place k = omega arith

place_step : (k : ℕ) (b : Bool) (rest : List ℕ) (o : Option ℕ) → find (λ p. nat_le 0 p) rest ≡ o
    → find (λ p. nat_le 0 p) (if b then k ∷ rest else rest) ≡ cond b (Some k) o
place_step k true rest o e = ap (λ t. cond t (Some k) (find (λ p. nat_le 0 p) rest)) (le-leb 0 k (omega arith))
place_step k false rest o e = e

places_are : (k : ℕ) (name : List ℕ) (names : List (List ℕ)) → find (λ p. nat_le 0 p) (places_from k name names) ≡ position_from (λ n. bytes_eq n name) k names
places_are k name [] = refl
places_are k name (n ∷ ns) =
    place_step k (bytes_eq n name) (places_from (suc k) name ns) (position_from (λ n. bytes_eq n name) (k + 1) ns)
    (places_are (suc k) name ns ∙ ap (λ i. position_from (λ n. bytes_eq n name) i ns) (next_place k))

-- the first place of a name
pub place_is : (name : List ℕ) (names : List (List ℕ)) → first_place 0 name names ≡ position (λ n. bytes_eq n name) names
place_is name names = places_are 0 name names ∙ sym (position_from-zero (λ n. bytes_eq n name) names)

-- the items from a place on, by the first of them
pub from_place : {A : Type 0} (xs : List A) (i : ℕ) (x : A) → i < length xs → x ≡ get_or xs i x → x ∷ drop (i + 1) xs ≡ drop i xs
from_place xs i x h e = ap (λ y. y ∷ drop (i + 1) xs) e ∙ sym (drop_more xs i x h)

-- what an item adds is put behind what those before it added
pub adds_item : {A B C : Type 0} (tree : A → B) (adds : B → List C) (done after : List C) (xs : List A) (i : ℕ) (x : A) → i < length xs → x ≡ get_or xs i x
    → after ≡ done ++ adds (tree x) → after ++ flat_map adds (map tree (drop (i + 1) xs)) ≡ done ++ flat_map adds (map tree (drop i xs))
adds_item tree adds done after xs i x h e p =
    ap (λ cs. cs ++ flat_map adds (map tree (drop (i + 1) xs))) p ∙ append_assoc done (adds (tree x)) (flat_map adds (map tree (drop (i + 1) xs)))
    ∙ ap (λ ys. done ++ flat_map adds (map tree ys)) (from_place xs i x h e)

-- behind the last item nothing is left
pub none_left : {A : Type 0} (xs : List A) (i : ℕ) → length xs ≤ i → drop i xs ≡ []
none_left [] zero h = refl
none_left [] (suc i) h = refl
none_left (x ∷ xs) zero h = absurd (omega (arith, h))
none_left (x ∷ xs) (suc i) h = none_left xs i (omega (arith, h))

pub all_added : {A B C : Type 0} (tree : A → B) (adds : B → List C) (done all : List C) (xs : List A) (i : ℕ) → length xs ≤ i
    → done ++ flat_map adds (map tree (drop i xs)) ≡ all → done ≡ all
all_added tree adds done all xs i h e =
    sym (append-nil done) ∙ ap (λ ys. done ++ flat_map adds (map tree ys)) (sym (none_left xs i h)) ∙ e

pub ruleset the_ends = (append-nil)
