-- A table in which the numbers of a list are marked.
use Rattle.std.proofs.Common.{◌≡◌, ◌≢◌, inl, inr, ℕ, ◌+◌, ◌<◌, ◌≤◌, Bool, true, false, ◌||◌, List, map, length, get_or, set, take, refl, sym, subst, ap, ◌∙◌, arith, get_or-set_other, get_or-set_same}
use Rattle.std.specs.Prelude.{◌==◌}
use Rattle.std.specs.List.{range_with_len}
use Rattle.std.proofs.lemmas.List.{take_all}
use Rattle.std.proofs.lemmas.List.FromFn.{fill_by_all}
use Rattle.std.proofs.lemmas.Bool.{cases_eq}
use Rattle.std.proofs.lemmas.List.Folds.{list_any_more}
use Rattle.std.proofs.lemmas.Bool.Decides.{nat_tests}
use Rattle.c_rules_effects.specs.Taken.{is_among}

-- the list with one number more
more : (numbers : List ℕ) (i k : ℕ) → i < length numbers → is_among (take (i + 1) numbers) k ≡ is_among (take i numbers) k || (get_or numbers i 0 == k)
more numbers i k less = list_any_more (λ x. x == k) numbers i 0 less

same : (a b : ℕ) → a ≡ b → (a == b) ≡ true
same a b e = grind (arith, nat_tests)

other : (a b : ℕ) → a ≢ b → (a == b) ≡ false
other a b n = grind (arith, nat_tests)

or_true : (b : Bool) → b || true ≡ true
or_true true = refl
or_true false = refl

or_false : (b : Bool) → b || false ≡ b
or_false true = refl
or_false false = refl

-- a number that is past the table is none of those below its end
pub marked_more : (table : List Bool) (numbers : List ℕ) (i count : ℕ) → i < length numbers → length table ≡ count
    → ((k : ℕ) → k < count → get_or table k false ≡ is_among (take i numbers) k)
    → (k : ℕ) → k < count → get_or (set table (get_or numbers i 0) true) k false ≡ is_among (take (i + 1) numbers) k
marked_more table numbers i count less size before k below = elim (cases_eq k (get_or numbers i 0)) [
  | inl e ↦
      ap (λ at. get_or (set table (get_or numbers i 0) true) at false) e
      ∙ get_or-set_same table (get_or numbers i 0) true false (subst (λ at. at < length table) e (omega (arith, size, below)))
      ∙ sym (more numbers i k less ∙ ap (λ b. is_among (take i numbers) k || b) (same (get_or numbers i 0) k (sym e)) ∙ or_true (is_among (take i numbers) k))
  | inr n ↦
      get_or-set_other table (get_or numbers i 0) k true false n ∙ before k below
      ∙ sym (more numbers i k less ∙ ap (λ b. is_among (take i numbers) k || b) (other (get_or numbers i 0) k (λ e. n (sym e)))
      ∙ or_false (is_among (take i numbers) k))
]

pub all_marked : (table : List Bool) (numbers : List ℕ) (i count : ℕ) → length numbers ≤ i → length table ≡ count
    → ((k : ℕ) → k < count → get_or table k false ≡ is_among (take i numbers) k) → table ≡ map (is_among numbers) (range_with_len 0 count)
all_marked table numbers i count past size marks =
    fill_by_all (is_among numbers) table count false size (λ k below. marks k below ∙ ap (λ xs. is_among xs k) (take_all i numbers past))
