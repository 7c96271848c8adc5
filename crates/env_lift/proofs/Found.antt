-- What a pass over two lists makes of a variable.
use Rattle.std.proofs.Common.{ℕ, ◌≡◌, ◌⊎◌, inl, inr, ⊎_elim, List, [], ◌∷◌, ◌++◌, Option, Some, None, refl, sym, subst, ap, ◌∙◌}
use Rattle.std.proofs.lemmas.Bool.{cases_eq}
use Rattle.std.proofs.lemmas.Option.{none-some}
use Rattle.env_lift.specs.declared.entries.Entry.{Entry}
use Rattle.env_lift.specs.Entries.{entry, value_in}
use Rattle.env_lift.specs.Passes.{Puts, IsMerged, IsMet, AllMet}
use Rattle.env_lift.proofs.Lookups.{at_first, past_first}

-- both have a value, and the relation ties them to c
abbrev pub MetAt : {T : Type 0} → (T → T → T → Type 0) → Option T → Option T → T → Type 0
MetAt {T} P first second c = (a : T) × (b : T) × (first ≡ Some a) × (second ≡ Some b) × P a b c

same_some : {T : Type 0} (a b : T) → Some a ≡ Some b → a ≡ b
same_some a b e = cc

some_step : {T : Type 0} (P : T → T → T → Type 0) (e : Entry T) (es others put rest : List (Entry T)) (x : ℕ) (c : T) (found : Option T) → value_in others e.var.0 ≡ found → Puts P e found put → value_in (put ++ rest) x ≡ Some c → (value_in rest x ≡ Some c → MetAt P (value_in es x) (value_in others x) c) → MetAt P (value_in (e ∷ es) x) (value_in others x) c
some_step {T} P e es others put rest x c None is h has step =
    let met = step (subst (λ (l : List (Entry T)). value_in (l ++ rest) x ≡ Some c) h has) in
    ⊎_elim
    (λ (s : e.var.0 ≡ x). absurd (none-some met.1 (sym is ∙ ap (value_in others) s ∙ met.3)))
    (λ (s : e.var.0 ≡ x → ⊥). (met.0, met.1, past_first e es x s ∙ met.2, met.3, met.4))
    (cases_eq e.var.0 x)
some_step {T} P e es others put rest x c (Some b) is h has step =
    let all : value_in (entry e.var h.0 ∷ rest) x ≡ Some c = subst (λ (l : List (Entry T)). value_in (l ++ rest) x ≡ Some c) h.2 has in
    ⊎_elim
    (λ (s : e.var.0 ≡ x).
    let same : h.0 ≡ c = same_some h.0 c (sym (at_first (entry e.var h.0) rest x s) ∙ all) in
    (e.value, b, at_first e es x s, ap (value_in others) (sym s) ∙ is, subst (P e.value b) same h.1))
    (λ (s : e.var.0 ≡ x → ⊥).
    let met = step (sym (past_first (entry e.var h.0) rest x s) ∙ all) in
    (met.0, met.1, past_first e es x s ∙ met.2, met.3, met.4))
    (cases_eq e.var.0 x)

-- a variable of the merged list is one of both, and its value is made of theirs
pub merged_some : {T : Type 0} (P : T → T → T → Type 0) (es others merged : List (Entry T)) (x : ℕ) (c : T) → IsMerged P es others merged → value_in merged x ≡ Some c → MetAt P (value_in es x) (value_in others x) c
merged_some {T} P [] others merged x c m has = absurd (none-some c (subst (λ (l : List (Entry T)). value_in l x ≡ Some c) m has))
merged_some {T} P (e ∷ es) others merged x c m has =
    some_step P e es others m.0 m.1 x c (value_in others e.var.0) refl m.2 (subst (λ (l : List (Entry T)). value_in l x ≡ Some c) m.4 has) (merged_some P es others m.1 x c m.3)

none_step : {T : Type 0} (P : T → T → T → Type 0) (e : Entry T) (es others put rest : List (Entry T)) (x : ℕ) (found : Option T) → value_in others e.var.0 ≡ found → Puts P e found put → value_in (put ++ rest) x ≡ None → (value_in rest x ≡ None → (value_in es x ≡ None) ⊎ (value_in others x ≡ None)) → (value_in (e ∷ es) x ≡ None) ⊎ (value_in others x ≡ None)
none_step {T} P e es others put rest x None is h has step = ⊎_elim
    (λ (s : e.var.0 ≡ x). inr (ap (value_in others) (sym s) ∙ is))
    (λ (s : e.var.0 ≡ x → ⊥). ⊎_elim
    (λ (p : value_in es x ≡ None). inl (past_first e es x s ∙ p))
    (λ (p : value_in others x ≡ None). inr p)
    (step (subst (λ (l : List (Entry T)). value_in (l ++ rest) x ≡ None) h has)))
    (cases_eq e.var.0 x)
none_step {T} P e es others put rest x (Some b) is h has step =
    let all : value_in (entry e.var h.0 ∷ rest) x ≡ None = subst (λ (l : List (Entry T)). value_in (l ++ rest) x ≡ None) h.2 has in
    ⊎_elim
    (λ (s : e.var.0 ≡ x). absurd (none-some h.0 (sym all ∙ at_first (entry e.var h.0) rest x s)))
    (λ (s : e.var.0 ≡ x → ⊥). ⊎_elim
    (λ (p : value_in es x ≡ None). inl (past_first e es x s ∙ p))
    (λ (p : value_in others x ≡ None). inr p)
    (step (sym (past_first (entry e.var h.0) rest x s) ∙ all)))
    (cases_eq e.var.0 x)

-- a variable that the merged list has not is one that some list has not
pub merged_none : {T : Type 0} (P : T → T → T → Type 0) (es others merged : List (Entry T)) (x : ℕ) → IsMerged P es others merged → value_in merged x ≡ None → (value_in es x ≡ None) ⊎ (value_in others x ≡ None)
merged_none P [] others merged x m has = inl refl
merged_none {T} P (e ∷ es) others merged x m has =
    none_step P e es others m.0 m.1 x (value_in others e.var.0) refl m.2 (subst (λ (l : List (Entry T)). value_in l x ≡ None) m.4 has) (merged_none P es others m.1 x m.3)

met_some : {T : Type 0} (R : T → T → Type 0) (a : T) (found : Option T) → IsMet R a found → (b : T) × (found ≡ Some b) × R a b
met_some R a None h = absurd h
met_some R a (Some b) h = (b, refl, h)

-- each variable has a second value, as the relation says
pub met_at : {T : Type 0} (R : T → T → Type 0) (es others : List (Entry T)) (x : ℕ) (a : T) → AllMet R es others → value_in es x ≡ Some a → (b : T) × (value_in others x ≡ Some b) × R a b
met_at R [] others x a h has = absurd (none-some a has)
met_at R (e ∷ es) others x a h has = ⊎_elim
    (λ (s : e.var.0 ≡ x).
    let met = met_some R e.value (value_in others e.var.0) h.0 in
    let same : e.value ≡ a = same_some e.value a (sym (at_first e es x s) ∙ has) in
    (met.0, ap (value_in others) (sym s) ∙ met.1, subst (λ c. R c met.0) same met.2))
    (λ (s : e.var.0 ≡ x → ⊥). met_at R es others x a h.1 (sym (past_first e es x s) ∙ has))
    (cases_eq e.var.0 x)
