-- One path that goes on from another, by its first steps.
use Rattle.std.proofs.Common.{◌≡◌, ◌≢◌, ◌⊎◌, inl, inr, ℕ, ◌<◌, ◌≤◌, List, ◌++◌, length, get_or, take, drop, sym, ap, ◌∙◌, arith}
use Rattle.std.specs.Prelude.{min}
use Rattle.std.proofs.lemmas.Bool.{cases_lt}
use Rattle.std.proofs.lemmas.List.{get_or_append_left, take-append-drop, take_all}
use Rattle.c_rules_effects.specs.declared.touch.Part.{Part}
use Rattle.c_rules_effects.specs.Meeting.{Begins}

-- a step that differs keeps each from going on from the other
apart : (path other : List Part) (i : ℕ) (d : Part) → i < length path → get_or path i d ≢ get_or other i d → Begins path other → ⊥
apart path other i d less n b = n (sym (ap (λ xs. get_or xs i d) b.1 ∙ get_or_append_left path b.0 d i less))

pub both_apart : (path other : List Part) (i : ℕ) (d : Part) → i < length path → i < length other → get_or path i d ≢ get_or other i d
    → Begins path other ⊎ Begins other path → ⊥
both_apart path other i d less more n (inl b) = apart path other i d less n b
both_apart path other i d less more n (inr b) = apart other path i d more (λ e. n (sym e)) b

shorter : (path other : List Part) (i : ℕ) → length path ≤ i → take i path ≡ take i other → Begins path other
shorter path other i past e =
    (drop i other, sym (take-append-drop i other) ∙ ap (λ front. front ++ drop i other) (sym e ∙ take_all i path past))

-- as many equal steps as the shorter has
pub one_begins : (path other : List Part) (i : ℕ) → (length path ≤ i) ⊎ (length other ≤ i) → take i path ≡ take i other → Begins path other ⊎ Begins other path
one_begins path other i (inl past) e = inl (shorter path other i past e)
one_begins path other i (inr past) e = inr (shorter other path i past (sym e))

pub past_one : (a b i : ℕ) → min a b ≤ i → (a ≤ i) ⊎ (b ≤ i)
past_one a b i h = elim (cases_lt a b) [ inl l ↦ inl (grind (arith, h, l)) | inr l ↦ inr (grind (arith, h, l)) ]
