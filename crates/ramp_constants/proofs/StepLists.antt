-- Rising lists of numbers: the first that is not below a number, lists with the same numbers, and negations.
use Rattle.std.proofs.Common.{ℕ, ℤ, zero, suc, ◌≡◌, ◌⊎◌, ⊎_elim, inl, inr, ◌<◌, ◌≤◌, neg_ℤ, ◌≤ℤ◌, ◌<ℤ◌, List, [], ◌∷◌, ◌++◌, Option, None, Some, length, map, reverse, true, false, refl, sym, ◌∙◌, ap, subst, arith, get_or}
use Rattle.std.specs.Prelude.{Contains, ◌↔◌, MatchOption, slice_get}
use Rattle.std.specs.Option.{option_copied}
use Rattle.std.specs.Ordering.{int_cmp, int_eq}
use Rattle.std.specs.declared.cmp.Ordering.TheVariants.{Less}
use Rattle.std.specs.Int.RustNames.{int_lt}
use Rattle.std.specs.List.{AllByRecursion, HoldsAt}
use Rattle.std.specs.List.Retain.{IsFiltered, DiffersFromLast}
use Rattle.std.proofs.lemmas.List.Filters.{dedup_is}
use Rattle.std.proofs.lemmas.List.Kept.{Contains-dedup, Contains-from_dedup, IsStrictlySortedBy-dedup}
use Rattle.std.proofs.lemmas.List.Sorted.{Contains-permutation, IsPermutation-sym}
use Rattle.std.proofs.lemmas.Cmp.{int_cmp_total, int_eq_equiv}
use Rattle.std.specs.List.Sorted.{IsPartitionedBy, IsPartitionPoint, IsPermutation, IsSorted, IsStrictlySortedBy}
use Rattle.std.proofs.lemmas.Int.{ints}
use Rattle.std.proofs.lemmas.List.{reverse-append}
use Rattle.std.proofs.lemmas.List.Elements.{Contains-append_cases, Contains-append_left, Contains-append_right, Contains-get_or, Contains-push, Contains-push_cases}
use denote.Ref.{Bor}
use Rattle.num_api.specs.Steps.{RisesFrom, IsRising, least}
use Rattle.num_api.proofs.StepLemmas.{least-hit, least-miss}

-- ---- members, one by one

pub first_is_in : (x : ℤ) (xs : List ℤ) → Contains (x ∷ xs) x
first_is_in x xs = Contains-append_left (x ∷ []) xs x (Contains-push [] x)

pub rest_is_in : (x : ℤ) (xs : List ℤ) (n : ℤ) → Contains xs n → Contains (x ∷ xs) n
rest_is_in x xs n c = Contains-append_right (x ∷ []) xs n c

pub nothing_in : (A : Type 0) (n : ℤ) → Contains [] n → A
nothing_in A n c = absurd (omega (arith, c.1))

alone : (x n : ℤ) → Contains (x ∷ []) n → x ≡ n
alone x n c = ⊎_elim (λ none. nothing_in (x ≡ n) n none) (λ e. e) (Contains-push_cases [] x n c)

pub first_or_rest : (x : ℤ) (xs : List ℤ) (n : ℤ) → Contains (x ∷ xs) n → (x ≡ n) ⊎ Contains xs n
first_or_rest x xs n c = ⊎_elim (λ one. inl (alone x n one)) (λ rest. inr rest) (Contains-append_cases (x ∷ []) xs n c)

-- ---- rising lists

below_both : (a b c : ℤ) → a <ℤ b → b <ℤ c → a <ℤ c
below_both a b c h k = grind (arith, ints)

not_below_itself : (A : Type 0) (n : ℤ) → n <ℤ n → A
not_below_itself A n h = grind (arith, ints)

pub all_above : (low : ℤ) (xs : List ℤ) (n : ℤ) → RisesFrom low xs → Contains xs n → low <ℤ n
all_above low [] n r c = nothing_in (low <ℤ n) n c
all_above low (x ∷ xs) n r c =
    ⊎_elim (λ e. subst (λ m. low <ℤ m) e r.0) (λ rest. below_both low x n r.0 (all_above x xs n r.1 rest)) (first_or_rest x xs n c)

rest_rises : (x : ℤ) (xs : List ℤ) → RisesFrom x xs → IsRising xs
rest_rises x [] r = tt
rest_rises x (y ∷ ys) r = r.1

-- two rising lists with the same numbers are the same
same_first : (x y : ℤ) (xs ys : List ℤ) → RisesFrom x xs → RisesFrom y ys → Contains (y ∷ ys) x → Contains (x ∷ xs) y → x ≡ y
same_first x y xs ys r s c d =
    ⊎_elim (λ e. sym e)
    (λ later. ⊎_elim (λ e. e)
    (λ after. not_below_itself (x ≡ y) x (below_both x y x (all_above x xs y r after) (all_above y ys x s later)))
    (first_or_rest x xs y d))
    (first_or_rest y ys x c)

in_rest : (x : ℤ) (xs ys : List ℤ) → RisesFrom x xs → ((n : ℤ) → Contains (x ∷ xs) n → Contains (x ∷ ys) n) → (n : ℤ) → Contains xs n → Contains ys n
in_rest x xs ys r all n c =
    ⊎_elim (λ e. not_below_itself (Contains ys n) x (subst (λ m. x <ℤ m) (sym e) (all_above x xs n r c))) (λ rest. rest)
    (first_or_rest x ys n (all n (rest_is_in x xs n c)))

pub rising_alike : (xs ys : List ℤ) → IsRising xs → IsRising ys → ((n : ℤ) → Contains xs n → Contains ys n) → ((n : ℤ) → Contains ys n → Contains xs n)
    → xs ≡ ys
rising_alike [] [] r s there back = refl
rising_alike [] (y ∷ ys) r s there back = nothing_in ([] ≡ y ∷ ys) y (back y (first_is_in y ys))
rising_alike (x ∷ xs) [] r s there back = nothing_in (x ∷ xs ≡ []) x (there x (first_is_in x xs))
rising_alike (x ∷ xs) (y ∷ ys) r s there back =
    let first = same_first x y xs ys r s (there x (first_is_in x xs)) (back y (first_is_in y ys)) in
    let s' : RisesFrom x ys = subst (λ z. RisesFrom z ys) (sym first) s in
    let there' : (n : ℤ) → Contains (x ∷ xs) n → Contains (x ∷ ys) n = subst (λ z. (n : ℤ) → Contains (x ∷ xs) n → Contains (z ∷ ys) n) (sym first) there in
    let back' : (n : ℤ) → Contains (x ∷ ys) n → Contains (x ∷ xs) n = subst (λ z. (n : ℤ) → Contains (z ∷ ys) n → Contains (x ∷ xs) n) (sym first) back in
    ap (λ z. z ∷ xs) first
    ∙ ap (λ zs. y ∷ zs) (rising_alike xs ys (rest_rises x xs r) (rest_rises x ys s') (in_rest x xs ys r there') (in_rest x ys xs s' back'))

-- ---- negations, the other way round

abbrev pub mirror : List ℤ → List ℤ
mirror xs = reverse (map neg_ℤ xs)

mirror_cons : (x : ℤ) (xs : List ℤ) → mirror (x ∷ xs) ≡ mirror xs ++ neg_ℤ x ∷ []
mirror_cons x xs = reverse-append (neg_ℤ x ∷ []) (map neg_ℤ xs)

twice : (n : ℤ) → neg_ℤ (neg_ℤ n) ≡ n
twice n = grind (arith, ints)

pub in_mirror : (xs : List ℤ) (n : ℤ) → Contains xs n → Contains (mirror xs) (neg_ℤ n)
in_mirror [] n c = nothing_in (Contains (mirror []) (neg_ℤ n)) n c
in_mirror (x ∷ xs) n c =
    subst (λ zs. Contains zs (neg_ℤ n)) (sym (mirror_cons x xs))
    (⊎_elim (λ e. subst (λ m. Contains (mirror xs ++ neg_ℤ x ∷ []) (neg_ℤ m)) e (Contains-push (mirror xs) (neg_ℤ x)))
    (λ rest. Contains-append_left (mirror xs) (neg_ℤ x ∷ []) (neg_ℤ n) (in_mirror xs n rest)) (first_or_rest x xs n c))

pub from_mirror : (xs : List ℤ) (n : ℤ) → Contains (mirror xs) n → Contains xs (neg_ℤ n)
from_mirror [] n c = nothing_in (Contains [] (neg_ℤ n)) n c
from_mirror (x ∷ xs) n c =
    ⊎_elim (λ rest. rest_is_in x xs (neg_ℤ n) (from_mirror xs n rest))
    (λ e. subst (λ m. Contains (x ∷ xs) m) (sym (twice x) ∙ ap neg_ℤ e) (first_is_in x xs))
    (Contains-push_cases (mirror xs) (neg_ℤ x) n (subst (λ zs. Contains zs n) (mirror_cons x xs) c))

rises_then : (low : ℤ) (xs : List ℤ) (z : ℤ) → RisesFrom low xs → ((n : ℤ) → Contains xs n → n <ℤ z) → low <ℤ z → RisesFrom low (xs ++ z ∷ [])
rises_then low [] z r above h = (h, tt)
rises_then low (x ∷ xs) z r above h = (r.0, rises_then x xs z r.1 (λ n c. above n (rest_is_in x xs n c)) (above x (first_is_in x xs)))

rising_then : (xs : List ℤ) (z : ℤ) → IsRising xs → ((n : ℤ) → Contains xs n → n <ℤ z) → IsRising (xs ++ z ∷ [])
rising_then [] z r above = tt
rising_then (x ∷ xs) z r above = rises_then x xs z r (λ n c. above n (rest_is_in x xs n c)) (above x (first_is_in x xs))

negated_below : (x n : ℤ) → x <ℤ neg_ℤ n → n <ℤ neg_ℤ x
negated_below x n h = grind (arith, ints)

mirror_rises : (xs : List ℤ) → IsRising xs → IsRising (mirror xs)
mirror_rises [] r = tt
mirror_rises (x ∷ xs) r =
    subst IsRising (sym (mirror_cons x xs))
    (rising_then (mirror xs) (neg_ℤ x) (mirror_rises xs (rest_rises x xs r))
    (λ n c. negated_below x n (all_above x xs (neg_ℤ n) r (from_mirror xs n c))))

-- a rising list with the negation of each number is its own mirror
pub mirrored : (xs : List ℤ) → IsRising xs → ((n : ℤ) → Contains xs n → Contains xs (neg_ℤ n)) → mirror xs ≡ xs
mirrored xs r closed =
    rising_alike (mirror xs) xs (mirror_rises xs r) r (λ n c. subst (Contains xs) (twice n) (closed (neg_ℤ n) (from_mirror xs n c)))
    (λ n c. subst (Contains (mirror xs)) (twice n) (in_mirror xs (neg_ℤ n) (closed n c)))

-- ---- the first that is not below a number

lt_true : (x n : ℤ) → int_lt x n ≡ true → x <ℤ n
lt_true x n e = grind (arith, ints)

lt_false : (x n : ℤ) → int_lt x n ≡ false → n ≤ℤ x
lt_false x n e = grind (arith, ints)

lt_is : (x n : ℤ) → x <ℤ n → int_lt x n ≡ true
lt_is x n h = grind (arith, ints)

rising_apart : (xs : List ℤ) (i j : ℕ) (d : ℤ) → IsRising xs → i ≤ j → j < length xs → get_or xs i d ≤ℤ get_or xs j d
rising_apart [] i j d r l m = absurd (omega (arith, m))
rising_apart (x ∷ xs) zero zero d r l m = grind (arith, ints)
rising_apart (x ∷ xs) zero (suc j) d r l m =
    let above : x <ℤ get_or xs j d = all_above x xs (get_or xs j d) r (Contains-get_or xs j d (omega (arith, m))) in grind (arith, ints)
rising_apart (x ∷ xs) (suc i) zero d r l m = absurd (omega (arith, l))
rising_apart (x ∷ xs) (suc i) (suc j) d r l m = rising_apart xs i j d (rest_rises x xs r) (omega (arith, l)) (omega (arith, m))

pub rising_parted : (xs : List ℤ) (n : ℤ) → IsRising xs → IsPartitionedBy (λ step. int_lt step n) xs
rising_parted xs n r i j d l m e =
    let apart = rising_apart xs i j d r l m in
    let below = lt_true (get_or xs j d) n e in
    lt_is (get_or xs i d) n (grind (arith, ints))

pub least_there : (xs : List ℤ) (n : ℤ) (i : ℕ) → i ≤ length xs → IsPartitionPoint (λ step. int_lt step n ≡ true) (λ step. int_lt step n ≡ false) xs i
    → slice_get xs i ≡ least xs n
least_there [] n i l p = refl
least_there (x ∷ xs) n zero l p = sym (least-hit x n xs (lt_false x n (p.1 0 x (omega arith) (omega arith))))
least_there (x ∷ xs) n (suc i) l p =
    least_there xs n i (omega (arith, l))
    ((λ k d from below. p.0 (suc k) d (omega arith) (omega (arith, below))), (λ k d from below. p.1 (suc k) d (omega (arith, from)) (omega (arith, below))))
    ∙ sym (least-miss x n xs (lt_true x n (p.0 0 x (omega arith) (omega arith))))

-- ---- what sorting and leaving out repetitions give

less_is : (x y : ℤ) → int_cmp x y ≡ Less → x <ℤ y
less_is x y e = grind (arith, ints)

strictly_from : (x : ℤ) (xs : List ℤ) → AllByRecursion (λ y. int_cmp x y ≡ Less) xs → IsStrictlySortedBy int_cmp xs → RisesFrom x xs
unfolding IsStrictlySortedBy
strictly_from x [] above s = tt
strictly_from x (y ∷ ys) above s = (less_is x y above.0, strictly_from y ys s.0 s.1)

pub strictly_rising : (xs : List ℤ) → IsStrictlySortedBy int_cmp xs → IsRising xs
unfolding IsStrictlySortedBy
strictly_rising [] s = tt
strictly_rising (x ∷ xs) s = strictly_from x xs s.0 s.1

-- ---- numbers in rising order, each once

equal_is : (x y : ℤ) → int_eq x y ≡ true → x ≡ y
equal_is x y e = grind (arith, ints)

pub rising_once : (sorted once : List ℤ) → IsSorted int_cmp sorted → IsFiltered (DiffersFromLast int_eq) [] sorted once → IsRising once
rising_once sorted once s f =
    strictly_rising once (subst (IsStrictlySortedBy int_cmp) (sym (dedup_is int_eq sorted once f)) (IsStrictlySortedBy-dedup int_cmp_total (λ x y. refl) sorted s))

pub same_once : (numbers sorted once : List ℤ) → IsPermutation numbers sorted → IsFiltered (DiffersFromLast int_eq) [] sorted once
    → (n : ℤ) → Contains once n ↔ Contains numbers n
same_once numbers sorted once p f n = (
  (λ c. Contains-permutation sorted numbers n (IsPermutation-sym numbers sorted p)
      (Contains-from_dedup int_eq sorted n (subst (λ xs. Contains xs n) (dedup_is int_eq sorted once f) c))),
  (λ c. subst (λ xs. Contains xs n) (sym (dedup_is int_eq sorted once f))
      (Contains-dedup int_eq_equiv equal_is sorted n (Contains-permutation numbers sorted n p c))),
)

-- ---- what stands at an index

past : (xs : List ℤ) (i : ℕ) → length xs ≤ i → None ≡ slice_get xs i
past [] i h = refl
past (x ∷ xs) zero h = absurd (omega (arith, h))
past (x ∷ xs) (suc i) h = past xs i (omega (arith, h))

there : (xs : List ℤ) (i : ℕ) (n : ℤ) → i < length xs → n ≡ get_or xs i n → Some n ≡ slice_get xs i
there [] i n h e = absurd (omega (arith, h))
there (x ∷ xs) zero n h e = ap Some e
there (x ∷ xs) (suc i) n h e = there xs i n (omega (arith, h)) e

pub looked_up : (xs : List ℤ) (i : ℕ) (r : Option (Bor ℤ)) → MatchOption r (length xs ≤ i) (λ x. (i < length xs) × HoldsAt (λ y. x.now ≡ y) xs i)
    → option_copied r ≡ slice_get xs i
looked_up xs i None h = past xs i h
looked_up xs i (Some x) h = there xs i x.now h.0 (h.1 x.now)
