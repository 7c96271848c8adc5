-- A list that is copied item by item: what is copied has the tree of what was gone through.
use Rattle.std.proofs.Common.{◌≡◌, ℕ, ◌+◌, ◌<◌, List, [], ◌∷◌, ◌++◌, map, length, take, get_or, refl, sym, ap, ◌∙◌}
use Rattle.std.proofs.lemmas.List.{take_more}

-- the list up to the item behind place i
next_item : {A : Type 0} (items : List A) (i : ℕ) (item : A) → i < length items → item ≡ get_or items i item → take i items ++ item ∷ [] ≡ take (i + 1) items
next_item items i item h e = ap (λ x. take i items ++ x ∷ []) e ∙ sym (take_more items i item h)

map_push : {A B : Type 0} (f : A → B) (items : List A) (last : A) → map f (items ++ last ∷ []) ≡ map f items ++ f last ∷ []
map_push f [] last = refl
map_push f (item ∷ items) last = ap (λ rest. f item ∷ rest) (map_push f items last)

pub one_more : {A B : Type 0} (f : A → B) (copies items : List A) (i : ℕ) (copy item : A) → i < length items → map f copies ≡ map f (take i items) → item ≡ get_or items i item → f copy ≡ f item → map f (copies ++ copy ∷ []) ≡ map f (take (i + 1) items)
one_more f copies items i copy item h e is same =
    map_push f copies copy
    ∙ ap (λ rest. rest ++ f copy ∷ []) e
    ∙ ap (λ x. map f (take i items) ++ x ∷ []) same
    ∙ sym (map_push f (take i items) item)
    ∙ ap (map f) (next_item items i item h is)
