-- Look-ups in lists that are made of others.
use Rattle.std.proofs.Common.{arith, ℕ, ◌≡◌, ◌<◌, ◌≤◌, ⊎_elim, List, [], ◌∷◌, ◌++◌, Some, None, refl, sym, ◌∙◌}
use Rattle.std.specs.Prelude.{nat_eq}
use Rattle.std.proofs.lemmas.Bool.{eq-eqb, ne_eqb, cond-true, cond-false, cases_eq}
use Rattle.std.proofs.lemmas.List.Elements.{All-head, All-tail}
use Rattle.env_lift.specs.declared.entries.Entry.{Entry}
use Rattle.env_lift.specs.Entries.{value_in, AreBelow, AreAbove}

-- ---- the first entry

pub at_first : {T : Type 0} (e : Entry T) (es : List (Entry T)) (x : ℕ) → e.var.0 ≡ x → value_in (e ∷ es) x ≡ Some e.value
at_first e es x h = cond-true (nat_eq e.var.0 x) (Some e.value) (value_in es x) (eq-eqb e.var.0 x h)

pub past_first : {T : Type 0} (e : Entry T) (es : List (Entry T)) (x : ℕ) → (e.var.0 ≡ x → ⊥) → value_in (e ∷ es) x ≡ value_in es x
past_first e es x h = cond-false (nat_eq e.var.0 x) (Some e.value) (value_in es x) (ne_eqb e.var.0 x h)

-- ---- entries that are all on one side of a variable

pub none_above : {T : Type 0} (es : List (Entry T)) (x : ℕ) → AreAbove x es → value_in es x ≡ None
none_above [] x h = refl
none_above (e ∷ es) x h =
    let head : x < e.var.0 = All-head (λ d. x < d.var.0) e es h in
    past_first e es x (λ s. omega arith) ∙ none_above es x (All-tail (λ d. x < d.var.0) e es h)

pub behind : {T : Type 0} (a b : List (Entry T)) (x y : ℕ) → x ≤ y → AreBelow x a → value_in (a ++ b) y ≡ value_in b y
behind [] b x y l h = refl
behind (e ∷ a) b x y l h =
    let head : e.var.0 < x = All-head (λ d. d.var.0 < x) e a h in
    past_first e (a ++ b) y (λ s. omega arith) ∙ behind a b x y l (All-tail (λ d. d.var.0 < x) e a h)

-- what follows decides for what is not in front
pub same_behind : {T : Type 0} (a b c : List (Entry T)) (y : ℕ) → value_in b y ≡ value_in c y → value_in (a ++ b) y ≡ value_in (a ++ c) y
same_behind [] b c y h = h
same_behind (e ∷ a) b c y h = ⊎_elim
    (λ (s : e.var.0 ≡ y). at_first e (a ++ b) y s ∙ sym (at_first e (a ++ c) y s))
    (λ (s : e.var.0 ≡ y → ⊥). past_first e (a ++ b) y s ∙ same_behind a b c y h ∙ sym (past_first e (a ++ c) y s))
    (cases_eq e.var.0 y)
