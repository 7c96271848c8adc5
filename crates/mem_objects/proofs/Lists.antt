-- Lists of what may be known, by places.
use Rattle.std.proofs.Common.{◌≡◌, ◌≢◌, ℕ, zero, suc, ◌+◌, ◌<◌, ◌≤◌, arith, refl, sym, subst, ap, ◌∙◌, ⊎_elim, Bool, true, false, List, [], ◌∷◌, length, Option, Some, None}
use Rattle.std.specs.Prelude.{is_some, ◌==◌, if◌then◌else◌, slice_get, slice_set, slice_index_or, replicate}
use Rattle.std.proofs.lemmas.Bool.{both_ways, cases_lt, cond-false, eq-eqb, ne_eqb}
use Rattle.std.proofs.lemmas.List.{get_or-set_same, get_or-set_other, ext_get_or, length-map, length-replicate}
use Rattle.plain_runs.specs.Changes.{unless}
use Rattle.mem_objects.specs.declared.cells.KnownCell.{KnownCell}
use Rattle.mem_objects.specs.Cells.{cell_of, knows_cells, IsJoined}
use Rattle.mem_objects.specs.Copies.{copy_of, knows_copies, without}

module _ {X : Type 0} where
  -- what is known of something is in the list
  pub entry_within : (xs : List (Option X)) (i : ℕ) (x : X) → slice_index_or xs i None ≡ Some x → i < length xs
  entry_within [] i x e = absurd (cc)
  entry_within (y ∷ ys) zero x e = omega arith
  entry_within (y ∷ ys) (suc i) x e = let h = entry_within ys i x e in omega arith

  pub put_here : (xs : List (Option X)) (i : ℕ) (v : Option X) (x : X) → slice_index_or (slice_set xs i v) i None ≡ Some x → v ≡ Some x
  put_here [] i v x e = absurd (cc)
  put_here (y ∷ ys) zero v x e = e
  put_here (y ∷ ys) (suc i) v x e = put_here ys i v x e

  pub put_apart : (xs : List (Option X)) (i k : ℕ) (v : Option X) → k ≢ i → slice_index_or (slice_set xs i v) k None ≡ slice_index_or xs k None
  put_apart xs i k v ne = get_or-set_other xs i k v None ne

  pub put_at : (xs : List (Option X)) (i : ℕ) (v : Option X) → i < length xs → slice_index_or (slice_set xs i v) i None ≡ v
  put_at xs i v h = get_or-set_same xs i v None h

  pub nothing_at : (n i : ℕ) → slice_index_or (replicate {A = Option X} n None) i None ≡ None
  nothing_at zero i = refl
  nothing_at (suc n) zero = refl
  nothing_at (suc n) (suc i) = nothing_at n i

  pub get_apart : (xs : List X) (i k : ℕ) (v : X) → k ≢ i → slice_get (slice_set xs i v) k ≡ slice_get xs k
  get_apart [] i k v ne = refl
  get_apart (x ∷ xs) zero zero v ne = absurd (ne refl)
  get_apart (x ∷ xs) zero (suc k) v ne = refl
  get_apart (x ∷ xs) (suc i) zero v ne = refl
  get_apart (x ∷ xs) (suc i) (suc k) v ne = get_apart xs i k v (λ same. ne (ap suc same))

  pub get_here : (xs : List X) (i : ℕ) (v : X) → i < length xs → slice_get (slice_set xs i v) i ≡ Some v
  get_here [] i v h = absurd (omega arith)
  get_here (x ∷ xs) zero v h = refl
  get_here (x ∷ xs) (suc i) v h = get_here xs i v (omega arith)

-- what is told of each place by a loop, behind one turn more
module _ {X : Type 0} where
  pub told_more : (f : ℕ → Option X) (xs : List (Option X)) (i : ℕ) (v : Option X) → i < length xs → v ≡ f i → ((k : ℕ) → k < i → slice_index_or xs k None ≡ f k)
      → (k : ℕ) → k < i + 1 → slice_index_or (slice_set xs i v) k None ≡ f k
  told_more f xs i v h is all k less = ⊎_elim
      (λ below. put_apart xs i k v (λ e. absurd (omega (arith, below, e))) ∙ all k below)
      (λ above. let same : i ≡ k = omega (arith, above, less) in
      subst (λ (j : ℕ). slice_index_or (slice_set xs i v) j None ≡ f j) same (put_at xs i v h ∙ is)) (cases_lt k i)

  -- and the places that are left
  pub kept_more : (f : ℕ → Option X) (xs : List (Option X)) (i : ℕ) (v : Option X) → ((k : ℕ) → i ≤ k → slice_index_or xs k None ≡ f k)
      → (k : ℕ) → i + 1 ≤ k → slice_index_or (slice_set xs i v) k None ≡ f k
  kept_more f xs i v all k above = put_apart xs i k v (λ e. absurd (omega (arith, above, e))) ∙ all k (omega (arith, above))

  pub nothing_left : (xs : List (Option X)) (n : ℕ) → length xs ≡ n → ((k : ℕ) → k < n → slice_index_or xs k None ≡ None) → xs ≡ replicate n None
  nothing_left xs n size all = ext_get_or None xs (replicate n None) (size ∙ sym (length-replicate {A = Option X} n None))
      (λ k h. all k (omega (arith, size, h)) ∙ sym (nothing_at n k))

-- ---- copies of all objects but one

pub unless_some : (x : ℕ) (o : Option ℕ) (y : ℕ) → unless x o ≡ Some y → (o ≡ Some y) × (y ≢ x)
unless_some x None y e = absurd (cc)
unless_some x (Some z) y e = by (x == z) refl e where
  by : (b : Bool) → (x == z) ≡ b → (if b then None else Some z) ≡ Some y → (Some z ≡ Some y) × (y ≢ x)
  by true is f = absurd (cc)
  by false is f = let same : z ≡ y = cc in (f, λ one. both_ways (x == z) is (eq-eqb x z (sym (same ∙ one))))

pub unless_keeps : (x y : ℕ) → y ≢ x → unless x (Some y) ≡ Some y
unless_keeps x y ne = cond-false (x == y) None (Some y) (ne_eqb x y (λ e. ne (sym e)))

pub without_at : (x : ℕ) (copies : List (Option ℕ)) (d : ℕ) → copy_of (without x copies) d ≡ unless x (copy_of copies d)
without_at x [] d = refl
without_at x (c ∷ copies) zero = refl
without_at x (c ∷ copies) (suc d) = without_at x copies d

pub without_is : (x : ℕ) (copies new : List (Option ℕ)) → length new ≡ length copies → ((d : ℕ) → d < length copies → copy_of new d ≡ unless x (copy_of copies d))
    → new ≡ without x copies
without_is x copies new size all = ext_get_or None new (without x copies) (size ∙ sym (length-map copies (unless x)))
    (λ d h. all d (omega (arith, size, h)) ∙ sym (without_at x copies d))

-- ---- whether anything is known

pub some_is : {X : Type 0} (o : Option X) → is_some o ≡ true → (x : X) × (o ≡ Some x)
some_is None e = absurd (cc)
some_is (Some x) e = (x, refl)

-- of what is nothing on one side there is no join
pub nothing_joined : (a b j : Option KnownCell) → a ≡ None → j ≡ None → IsJoined a b j
nothing_joined a b j e f = record { from = λ x g. absurd (cc); to = λ c d g h t r. absurd (cc) }

pub some_cell : (cells : List (Option KnownCell)) (x : ℕ) (c : KnownCell) → cell_of cells x ≡ Some c → knows_cells cells ≡ true
some_cell [] x c e = absurd (cc)
some_cell (None ∷ cells) zero c e = absurd (cc)
some_cell (Some d ∷ cells) x c e = refl
some_cell (None ∷ cells) (suc x) c e = some_cell cells x c e

pub no_cell : (cells : List (Option KnownCell)) → ((x : ℕ) → x < length cells → cell_of cells x ≡ None) → knows_cells cells ≡ false
no_cell [] all = refl
no_cell (None ∷ cells) all = no_cell cells (λ x h. all (suc x) (omega (arith, h)))
no_cell (Some c ∷ cells) all = let no = all 0 (omega arith) in absurd (cc)

pub some_copy : (copies : List (Option ℕ)) (d x : ℕ) → copy_of copies d ≡ Some x → knows_copies copies ≡ true
some_copy [] d x e = absurd (cc)
some_copy (None ∷ copies) zero x e = absurd (cc)
some_copy (Some y ∷ copies) d x e = refl
some_copy (None ∷ copies) (suc d) x e = some_copy copies d x e

pub no_copy : (copies : List (Option ℕ)) → ((d : ℕ) → d < length copies → copy_of copies d ≡ None) → knows_copies copies ≡ false
no_copy [] all = refl
no_copy (None ∷ copies) all = no_copy copies (λ d h. all (suc d) (omega (arith, h)))
no_copy (Some x ∷ copies) all = let no = all 0 (omega arith) in absurd (cc)
