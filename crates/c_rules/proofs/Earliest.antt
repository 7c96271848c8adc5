-- The first in the text among functions, as one more is looked at.
use Rattle.std.proofs.Common.{◌≡◌, ◌⊎◌, inl, inr, ℕ, ◌+◌, ◌<◌, ◌≤◌, Some, None, sym, subst, arith}
use Rattle.std.specs.Prelude.{Option, MatchOption}
use Rattle.std.proofs.lemmas.Bool.{cases_eq, cases_lt}
use Rattle.c_syntax_written.specs.declared.place.Pos.{Pos}
use Rattle.c_layout.specs.Calls.{IsBefore}
use Rattle.c_rules_calls.proofs.Firsts.{before_after, never_before_itself}
use Rattle.c_rules.specs.Earliest.{IsEarlier, IsEarliest, IsEarliestBelow, IsFoundBelow}

module _ {A : Type 0} (place : A → Pos) (IsFirstOf : ℕ → A → Type 0) where
  -- what is the first of one function, and nothing else is
  abbrev pub IsOnly : ℕ → Option A → Type 0
  IsOnly n next = MatchOption next ((a : A) → IsFirstOf n a → ⊥) (λ a. IsFirstOf n a × ((b : A) → IsFirstOf n b → b ≡ a))

  below_or_here : (f n : ℕ) → f < n + 1 → (f < n) ⊎ (f ≡ n)
  below_or_here f n less = elim (cases_eq f n) [ inl e ↦ inr e | inr other ↦ inl (omega (arith, less, other)) ]

  still : (n : ℕ) (found : Option A) → IsFoundBelow place IsFirstOf n found → ((a : A) → IsFirstOf n a → ⊥) → IsFoundBelow place IsFirstOf (n + 1) found
  still n None h none = λ f a less is. elim (below_or_here f n less) [ inl below ↦ h f a below is | inr e ↦ none a (subst (λ x. IsFirstOf x a) e is) ]
  still n (Some first) h none = record {
    function = h.function;
    first_here = h.first_here;
    first = λ f other less is before. elim (below_or_here f n less) [
      | inl below ↦ h.first f other below is before
      | inr e ↦ none other (subst (λ x. IsFirstOf x other) e is)
    ];
  }

  new_one : (n : ℕ) (next : A) → IsFirstOf n next → ((b : A) → IsFirstOf n b → b ≡ next)
      → ((f : ℕ) (other : A) → f < n → IsFirstOf f other → IsBefore (place other) (place next) → ⊥) → IsEarliestBelow place IsFirstOf (n + 1) next
  new_one n next here only earlier = record {
    function = n;
    first_here = here;
    first = λ f other less is before. elim (below_or_here f n less) [
      | inl below ↦ earlier f other below is before
      | inr e ↦
          let same : other ≡ next = only other (subst (λ x. IsFirstOf x other) e is) in
          never_before_itself (place next) (subst (λ x. IsBefore (place x) (place next)) same before)
    ];
  }

  kept_one : (n : ℕ) (first next : A) → IsEarliestBelow place IsFirstOf n first → ((b : A) → IsFirstOf n b → b ≡ next)
      → (IsBefore (place next) (place first) → ⊥) → IsEarliestBelow place IsFirstOf (n + 1) first
  kept_one n first next h only later = record {
    function = h.function;
    first_here = h.first_here;
    first = λ f other less is before. elim (below_or_here f n less) [
      | inl below ↦ h.first f other below is before
      | inr e ↦
          let same : other ≡ next = only other (subst (λ x. IsFirstOf x other) e is) in
          later (subst (λ x. IsBefore (place x) (place first)) same before)
    ];
  }

  -- one function more
  pub found_more : (n : ℕ) (found next result : Option A) → IsFoundBelow place IsFirstOf n found → IsOnly n next → IsEarlier place found next result
      → IsFoundBelow place IsFirstOf (n + 1) result
  found_more n found None result h only e = subst (IsFoundBelow place IsFirstOf (n + 1)) (sym e) (still n found h only)
  found_more n None (Some next) result h only e =
      subst (IsFoundBelow place IsFirstOf (n + 1)) (sym e) (new_one n next only.0 only.1 (λ f other less is before. h f other less is))
  found_more n (Some first) (Some next) result h only (inl e) =
      subst (IsFoundBelow place IsFirstOf (n + 1)) (sym e.0)
      (new_one n next only.0 only.1 (λ f other less is before. h.first f other less is (before_after (place other) (place next) (place first) before e.1)))
  found_more n (Some first) (Some next) result h only (inr e) =
      subst (IsFoundBelow place IsFirstOf (n + 1)) (sym e.0) (kept_one n first next h only.1 e.1)

  pub none_below : IsFoundBelow place IsFirstOf 0 None
  none_below = λ f a less is. omega (arith, less)

  -- and there are no more functions
  pub found_all : (n : ℕ) (found : Option A) → ((f : ℕ) (a : A) → n ≤ f → IsFirstOf f a → ⊥) → IsFoundBelow place IsFirstOf n found
      → MatchOption found ((f : ℕ) (a : A) → IsFirstOf f a → ⊥) (IsEarliest place IsFirstOf)
  found_all n None past h = λ f a is. elim (cases_lt f n) [ inl less ↦ h f a less is | inr more ↦ past f a more is ]
  found_all n (Some first) past h = record {
    function = h.function;
    first_here = h.first_here;
    first = λ f other is before. elim (cases_lt f n) [ inl less ↦ h.first f other less is before | inr more ↦ past f other more is ];
  }
