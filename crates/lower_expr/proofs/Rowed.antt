-- Temporaries that are filled up one by one.
use Rattle.std.proofs.Common.{◌≡◌, ◌<◌, ◌≤◌, ◌-◌, ◌*◌, ◌/◌, ◌%◌, ℕ, zero, suc, Bool, true, false, List, [], ◌∷◌, ◌++◌, length, take, drop, get_or, refl, sym, ap, ◌∙◌, ◌⊎◌, inl, inr, append_assoc, append-nil, length-append, arith}
use Rattle.std.specs.Prelude.{Some, nat_lt, slice_get}
use Rattle.std.proofs.Math.Nat.{mod-eq_of_lt, mod-eq-sub-mod, mod-lt}
use Rattle.std.proofs.lemmas.Bool.{ltb-true, ltb-false}
use Rattle.std.proofs.Math.Seq.{drop-cons}
use Rattle.std.proofs.Math.ListN.{drop_of_length-le, length-take}
use Rattle.std.proofs.lemmas.List.{get_or-append_right, get_or_append_left, take-append-le}
use Rattle.std.proofs.lemmas.Option.{slice_get-get_or}
use Rattle.block_mem.specs.declared.types.Scalar.{Scalar}
use Rattle.lower_trees.specs.Temps.{row, rows}
use Rattle.lower_expr.specs.Rows.{with_rows}

side : (b : Bool) (a c : ℕ) → nat_lt a c ≡ b → (a < c) ⊎ (c ≤ a)
side true a c e = inl (ltb-true a c e)
side false a c e = inr (ltb-false a c e)

lt_or_le : (a c : ℕ) → (a < c) ⊎ (c ≤ a)
lt_or_le a c = side (nat_lt a c) a c refl

length-rows : (n : ℕ) → length (rows n) ≡ 12 * n
length-rows zero = refl
length-rows (suc n) = let e = length-rows n in let f = length-append row (rows n) in omega arith

row_front : (n i : ℕ) (d : Scalar) → i < 12 → get_or (rows (suc n)) i d ≡ get_or row (i % 12) d
row_front n i d h = get_or_append_left row (rows n) d i h ∙ ap (λ k. get_or row k d) (sym (mod-eq_of_lt h))

row_behind : (n i : ℕ) (d : Scalar) → 12 ≤ i → get_or (rows n) (i - 12) d ≡ get_or row ((i - 12) % 12) d
    → get_or (rows (suc n)) i d ≡ get_or row (i % 12) d
row_behind n i d h e = get_or-append_right row (rows n) 12 i d refl h ∙ e ∙ ap (λ k. get_or row k d) (sym (mod-eq-sub-mod h))

row_at : (n i : ℕ) (d : Scalar) → i < 12 * n → get_or (rows n) i d ≡ get_or row (i % 12) d
row_at zero i d h = absurd (omega arith)
row_at (suc n) i d h = elim (lt_or_le i 12) as (λ w. get_or (rows (suc n)) i d ≡ get_or row (i % 12) d) [
  | inl below ↦ row_front n i d below
  | inr above ↦ let inside : i - 12 < 12 * n = omega arith in row_behind n i d above (row_at n (i - 12) d inside)
]

is_at : (xs : List Scalar) (i : ℕ) (item : Scalar) → i < length xs → slice_get xs i ≡ Some item → get_or xs i item ≡ item
is_at xs i item h e = let f = slice_get-get_or xs i item h in cc

-- one temporary more, of the type that stands at its place in a row
pub filled_more : (xs : List Scalar) (count : ℕ) (item : Scalar) → length xs / 12 < count → slice_get row (length xs % 12) ≡ Some item
    → with_rows (xs ++ item ∷ []) count ≡ with_rows xs count
filled_more xs count item h e =
    let n = length xs in
    let below : n < 12 * count = omega arith in
    let many = length-rows count in
    let inside : n < length (rows count) = omega arith in
    let in_row : n % 12 < length row = mod-lt n (omega arith) in
    let next : get_or (rows count) n item ≡ item = row_at count n item below ∙ is_at row (n % 12) item in_row e in
    let cut : drop n (rows count) ≡ item ∷ drop (suc n) (rows count) =
    drop-cons (rows count) n item inside ∙ ap (λ v. v ∷ drop (suc n) (rows count)) next in
    let longer : length (xs ++ item ∷ []) ≡ suc n = let f = length-append xs (item ∷ []) in omega arith in
    append_assoc xs (item ∷ []) (drop (length (xs ++ item ∷ [])) (rows count)) ∙ ap (λ k. xs ++ (item ∷ drop k (rows count))) longer ∙ ap (λ ys. xs ++ ys) (sym cut)

-- where there are so many whole rows, no temporary is appended
pub filled_all : (xs : List Scalar) (count : ℕ) → count ≤ length xs / 12 → xs ≡ with_rows xs count
filled_all xs count h =
    let many = length-rows count in
    let behind : length (rows count) ≤ length xs = omega arith in
    sym (ap (λ ys. xs ++ ys) (drop_of_length-le (rows count) behind) ∙ append-nil xs)

-- what was there at first stays in front
pub front_stays : (before xs : List Scalar) (item : Scalar) → take (length before) xs ≡ before → take (length before) (xs ++ item ∷ []) ≡ before
front_stays before xs item e =
    let f = length-take (length before) xs in
    let g = ap length e in
    let within : length before ≤ length xs = omega arith in
    take-append-le (length before) xs (item ∷ []) within ∙ e
