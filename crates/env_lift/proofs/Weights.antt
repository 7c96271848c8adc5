-- The weight of a merged list.
use Rattle.std.proofs.Common.{arith, ℕ, ◌≡◌, ◌≤◌, ◌<◌, ◌+◌, ⊎_elim, List, [], ◌∷◌, Option, Some, None, Bool, false, sym, subst, ap, ◌∙◌}
use Rattle.std.proofs.lemmas.Bool.{and_cases}
use Rattle.std.proofs.lemmas.List.Sums.{sum_by-cons, sum_by-append}
use Rattle.env_lift.specs.declared.entries.Entry.{Entry}
use Rattle.env_lift.specs.Entries.{entry, value_in}
use Rattle.env_lift.specs.Passes.{Puts, IsMerged, is_met, all_met}
use Rattle.env_lift.specs.Laws.{total_weight}

module _ {V : Type 0} (W : V → ℕ) (P : V → V → V → Type 0) (no_rise : (a b c : V) → P a b c → W c ≤ W a) where
  one : (e : Entry V) (found : Option V) (put : List (Entry V)) → Puts P e found put → total_weight W put ≤ W e.value + 1
  one e None put h = subst (λ (l : List (Entry V)). total_weight W l ≤ W e.value + 1) (sym h) (omega arith)
  one e (Some b) put h =
      let less = no_rise e.value b h.0 h.1 in
      let weight : total_weight W (entry e.var h.0 ∷ []) ≡ W h.0 + 1 = sum_by-cons (λ (d : Entry V). W d.value + 1) (entry e.var h.0) [] ∙ omega arith in
      subst (λ (l : List (Entry V)). total_weight W l ≤ W e.value + 1) (sym h.2) (omega (arith, weight, less))

  pub merged_weight : (es others merged : List (Entry V)) → IsMerged P es others merged → total_weight W merged ≤ total_weight W es
  merged_weight [] others merged m = subst (λ (l : List (Entry V)). total_weight W l ≤ total_weight W []) (sym m) (omega arith)
  merged_weight (e ∷ es) others merged m =
      let first = one e (value_in others e.var.0) m.0 m.2 in
      let rest = merged_weight es others m.1 m.3 in
      let all : total_weight W merged ≡ total_weight W m.0 + total_weight W m.1 = ap (total_weight W) m.4 ∙ sum_by-append (λ (d : Entry V). W d.value + 1) m.0 m.1 in
      let whole : total_weight W (e ∷ es) ≡ (W e.value + 1) + total_weight W es = sum_by-cons (λ (d : Entry V). W d.value + 1) e es in
      omega (arith, first, rest, all, whole)

  module _ (H : V → V → Bool) (falls : (a b c : V) → P a b c → H a b ≡ false → W c < W a) where
    one_falls : (e : Entry V) (found : Option V) (put : List (Entry V)) → Puts P e found put → is_met H e.value found ≡ false → total_weight W put < W e.value + 1
    one_falls e None put h f = subst (λ (l : List (Entry V)). total_weight W l < W e.value + 1) (sym h) (omega arith)
    one_falls e (Some b) put h f =
        let less = falls e.value b h.0 h.1 f in
        let weight : total_weight W (entry e.var h.0 ∷ []) ≡ W h.0 + 1 = sum_by-cons (λ (d : Entry V). W d.value + 1) (entry e.var h.0) [] ∙ omega arith in
        subst (λ (l : List (Entry V)). total_weight W l < W e.value + 1) (sym h.2) (omega (arith, weight, less))

    pub merged_falls : (es others merged : List (Entry V)) → IsMerged P es others merged → all_met H es others ≡ false → total_weight W merged < total_weight W es
    merged_falls [] others merged m f = cc
    merged_falls (e ∷ es) others merged m f =
        let all : total_weight W merged ≡ total_weight W m.0 + total_weight W m.1 = ap (total_weight W) m.4 ∙ sum_by-append (λ (d : Entry V). W d.value + 1) m.0 m.1 in
        let whole : total_weight W (e ∷ es) ≡ (W e.value + 1) + total_weight W es = sum_by-cons (λ (d : Entry V). W d.value + 1) e es in
        ⊎_elim
        (λ (g : is_met H e.value (value_in others e.var.0) ≡ false).
        let first = one_falls e (value_in others e.var.0) m.0 m.2 g in
        let rest = merged_weight es others m.1 m.3 in
        omega (arith, first, rest, all, whole))
        (λ (g : all_met H es others ≡ false).
        let first = one e (value_in others e.var.0) m.0 m.2 in
        let rest = merged_falls es others m.1 m.3 g in
        omega (arith, first, rest, all, whole))
        (and_cases (is_met H e.value (value_in others e.var.0)) (all_met H es others) f)
