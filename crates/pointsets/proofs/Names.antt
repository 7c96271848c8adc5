-- Lists of names in rising order: what is put in, and where.
use Rattle.std.proofs.Common.{◌≡◌, ◌≢◌, ℕ, zero, suc, ◌<◌, ◌≤◌, Bool, true, false, List, [], ◌∷◌, length, get_or, refl, sym, ap, subst, arith, rules, Result, Ok, Err, MatchOption, insert, nat_lt, ◌==◌}
use Rattle.std.specs.List.{AllByRecursion}
use Rattle.std.specs.List.Sorted.{IsStrictlyIncreasing, IsStrictlySortedBy, IsBinarySearchResult}
use Rattle.std.specs.Ordering.{nat_cmp, MatchOrdering}
use Rattle.std.specs.Result.{result_err}
use Rattle.std.specs.declared.cmp.Ordering.TheVariants.{Less}
use Rattle.std.specs.Cmp.{ranks, nat_cmp_is}
use Rattle.std.proofs.lemmas.List.Sorted.{searched}
use Rattle.std.proofs.lemmas.Map.Keys.{sorted_from_strictly_increasing, IsStrictlyIncreasing-from_sorted, below_from_sorted}
use Rattle.pointsets.specs.Targets.{put, put_all}

-- each number of the list is above m
abbrev pub AllAbove : ℕ → List ℕ → Type 0
AllAbove m [] = Unit {0}
AllAbove m (x ∷ xs) = (m < x) × AllAbove m xs

-- each number is below all later ones
abbrev pub Rises : List ℕ → Type 0
Rises [] = Unit {0}
Rises (x ∷ xs) = AllAbove x xs × Rises xs

above-from_all : (m : ℕ) (xs : List ℕ) → AllByRecursion (λ y. nat_cmp m y ≡ Less) xs → AllAbove m xs
above-from_all m [] h = tt
above-from_all m (x ∷ xs) h =
    (subst (λ r. MatchOrdering r (m < x) (m ≡ x) (x < m)) h.0 (ranks m x), above-from_all m xs h.1)

all-from_above : (m : ℕ) (xs : List ℕ) → AllAbove m xs → AllByRecursion (λ y. nat_cmp m y ≡ Less) xs
all-from_above m [] h = tt
all-from_above m (x ∷ xs) h = (sym (nat_cmp_is m x Less h.0), all-from_above m xs h.1)

rises-from_sorted : (xs : List ℕ) → IsStrictlySortedBy nat_cmp xs → Rises xs
unfolding IsStrictlySortedBy
rises-from_sorted [] h = tt
rises-from_sorted (x ∷ xs) h = (above-from_all x xs h.0, rises-from_sorted xs h.1)

sorted-from_rises : (xs : List ℕ) → Rises xs → IsStrictlySortedBy nat_cmp xs
unfolding IsStrictlySortedBy
sorted-from_rises [] h = tt
sorted-from_rises (x ∷ xs) h = (all-from_above x xs h.0, sorted-from_rises xs h.1)

pub rises : (xs : List ℕ) → IsStrictlyIncreasing xs → Rises xs
rises xs h = rises-from_sorted xs (sorted_from_strictly_increasing xs h)

pub increases : (xs : List ℕ) → Rises xs → IsStrictlyIncreasing xs
increases xs h = IsStrictlyIncreasing-from_sorted xs (sorted-from_rises xs h)

pub by_bool : {P : Type 0} (b : Bool) → (b ≡ true → P) → (b ≡ false → P) → P
by_bool true f g = f refl
by_bool false f g = g refl

lt-true : (a b : ℕ) → nat_lt a b ≡ true → a < b
lt-true a b h = search rules

lt-false : (a b : ℕ) → nat_lt a b ≡ false → b ≤ a
lt-false a b h = search rules

is-lt : (a b : ℕ) → a < b → nat_lt a b ≡ true
is-lt a b h = search rules

no-lt : (a b : ℕ) → b ≤ a → nat_lt a b ≡ false
no-lt a b h = search rules

pub eq-true : (a b : ℕ) → (a == b) ≡ true → a ≡ b
eq-true a b h = search rules

eq-false : (a b : ℕ) → (a == b) ≡ false → a ≢ b
eq-false a b h = search rules

pub is-eq : (a b : ℕ) → a ≡ b → (a == b) ≡ true
is-eq a b h = search rules

no-eq : (a b : ℕ) → a ≢ b → (a == b) ≡ false
no-eq a b h = search rules

above-less : (m n : ℕ) (xs : List ℕ) → m < n → AllAbove n xs → AllAbove m xs
above-less m n [] h k = tt
above-less m n (x ∷ xs) h k = (omega (arith, k.0), above-less m n xs h k.1)

above-put : (m n : ℕ) (xs : List ℕ) → m < n → AllAbove m xs → AllAbove m (put xs n)
above-put m n [] h k = (h, tt)
above-put m n (x ∷ xs) h k =
    by_bool (nat_lt n x) (λ q. rw q (h, k))
    (λ q. by_bool (x == n) (λ r. rw (q, r) k) (λ r. rw (q, r) (k.0, above-put m n xs h k.1)))

-- a number that is put in keeps the order
pub rises-put : (n : ℕ) (xs : List ℕ) → Rises xs → Rises (put xs n)
rises-put n [] h = (tt, tt)
rises-put n (x ∷ xs) h =
    by_bool (nat_lt n x) (λ q. rw q ((lt-true n x q, above-less n x xs (lt-true n x q) h.0), h))
    (λ q. by_bool (x == n) (λ r. rw (q, r) h) (λ r.
    let differs : x ≢ n = eq-false x n r in
    let low : x ≤ n = lt-false n x q in
    let below : x < n = omega arith in
    rw (q, r) (above-put x n xs below h.0, rises-put n xs h.1)))

above-get : (m : ℕ) (xs : List ℕ) (i : ℕ) → AllAbove m xs → i < length xs → m < get_or xs i 0
above-get m [] i h l = absurd (omega arith)
above-get m (x ∷ xs) zero h l = h.0
above-get m (x ∷ xs) (suc i) h l = above-get m xs i h.1 (omega arith)

-- a number that is there is not put in again
put-there : (xs : List ℕ) (n i : ℕ) → Rises xs → i < length xs → get_or xs i 0 ≡ n → put xs n ≡ xs
put-there [] n i h l e = absurd (omega arith)
put-there (x ∷ xs) n zero h l e =
    rw (no-lt n x (omega (arith, e)), is-eq x n e) refl
put-there (x ∷ xs) n (suc i) h l e =
    let below : x < n = subst (λ (k : ℕ). x < k) e (above-get x xs i h.0 (omega arith)) in
    let differs : x ≢ n = λ s. omega (arith, s) in
    rw (no-lt n x (omega arith), no-eq x n differs, put-there xs n i h.1 (omega arith) e) refl

-- a new number is put between those below and those above it
put-gap : (xs : List ℕ) (n at : ℕ) → at ≤ length xs → ((k : ℕ) → k < at → get_or xs k 0 < n)
    → ((k : ℕ) → at ≤ k → k < length xs → n < get_or xs k 0) → put xs n ≡ insert xs at n
put-gap [] n zero l low high = refl
put-gap [] n (suc at) l low high = absurd (omega arith)
put-gap (x ∷ xs) n zero l low high = rw (is-lt n x (high 0 (omega arith) (omega arith))) refl
put-gap (x ∷ xs) n (suc at) l low high =
    let below : x < n = low 0 (omega arith) in
    let differs : x ≢ n = λ s. omega (arith, s) in
    rw (no-lt n x (omega arith), no-eq x n differs)
    (ap (λ ys. x ∷ ys) (put-gap xs n at (omega arith) (λ k h. low (suc k) (omega arith)) (λ k a b. high (suc k) (omega arith) (omega arith))))

up : (xs : List ℕ) → IsStrictlyIncreasing xs → (i j : ℕ) → i ≤ j → j < length xs → get_or xs i 0 ≤ get_or xs j 0
up xs h i j le l =
    let below = below_from_sorted xs i j 0 (sorted_from_strictly_increasing xs h) in
    by_bool (nat_lt i j) (λ q. omega (arith, below (lt-true i j q) l))
    (λ q. let same : i ≡ j = omega (arith, lt-false i j q) in omega (arith, ap (λ k. get_or xs k 0) same))

-- what a binary search tells of where a number belongs
pub placed : (xs : List ℕ) (n : ℕ) (r : Result ℕ ℕ) → IsStrictlyIncreasing xs → IsBinarySearchResult (λ y. nat_cmp y n) xs r
    → MatchOption (result_err r) (put xs n ≡ xs) (λ at. (at ≤ length xs) × (put xs n ≡ insert xs at n))
placed xs n (Ok i) h found = let s = searched xs n (Ok i) found (up xs h) in put-there xs n i (rises xs h) s.0 s.1
placed xs n (Err at) h found =
    let s = searched xs n (Err at) found (up xs h) in (s.0, put-gap xs n at s.0 s.1 s.2)

pub length-put : (xs : List ℕ) (n : ℕ) → length xs ≤ length (put xs n)
length-put [] n = omega arith
length-put (x ∷ xs) n =
    by_bool (nat_lt n x) (λ q. rw q (omega arith))
    (λ q. by_bool (x == n) (λ r. rw (q, r) (omega arith)) (λ r. rw (q, r) (omega (arith, length-put xs n))))

pub length-put_all : (xs ns : List ℕ) → length xs ≤ length (put_all xs ns)
length-put_all xs [] = omega arith
length-put_all xs (n ∷ ns) = omega (arith, length-put xs n, length-put_all (put xs n) ns)
