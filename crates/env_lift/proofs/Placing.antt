-- Entries put in, replaced and taken out.
use Rattle.std.proofs.Common.{arith, ℕ, ◌≡◌, ◌<◌, ⊎_elim, List, ◌∷◌, ◌++◌, Some, None, length, get_or, take, drop, suc, refl, sym, subst, ap, ◌∙◌}
use Rattle.std.specs.Prelude.{nat_eq, if◌then◌else◌}
use Rattle.std.proofs.lemmas.Bool.{eq-eqb, ne_eqb, cond-true, cond-false, cases_eq}
use Rattle.std.proofs.lemmas.List.{take-append-drop, set_split}
use Rattle.std.proofs.Math.ListN.{set}
use Rattle.std.proofs.Math.Seq.{drop-cons}
use Rattle.std.specs.List.{insert, remove}
use Rattle.env_lift.specs.declared.entries.Entry.{Entry}
use Rattle.env_lift.specs.Entries.{value_in, AreBelow, AreAbove, IsRising, IsFoundAt, IsPlaceAt}
use Rattle.env_lift.proofs.Lookups.{at_first, past_first, none_above, behind, same_behind}
use Rattle.env_lift.proofs.Rising.{rising_front, rising_behind, rising_joined, rising_without}

-- ---- around one entry

put_between : {T : Type 0} (a : List (Entry T)) (e : Entry T) (b rest : List (Entry T)) (x y : ℕ) → AreBelow x a → e.var.0 ≡ x → ((y ≡ x → ⊥) → value_in b y ≡ value_in rest y) → value_in (a ++ e ∷ b) y ≡ (if nat_eq y x then Some e.value else value_in (a ++ rest) y)
put_between a e b rest x y l is same = ⊎_elim
    (λ (s : y ≡ x). behind a (e ∷ b) x y (omega arith) l ∙ at_first e b y (is ∙ sym s) ∙ sym (cond-true (nat_eq y x) (Some e.value) (value_in (a ++ rest) y) (eq-eqb y x s)))
    (λ (s : y ≡ x → ⊥). same_behind a (e ∷ b) rest y (past_first e b y (λ t. s (sym t ∙ is)) ∙ same s) ∙ sym (cond-false (nat_eq y x) (Some e.value) (value_in (a ++ rest) y) (ne_eqb y x s)))
    (cases_eq y x)

taken_between : {T : Type 0} (a : List (Entry T)) (e : Entry T) (b : List (Entry T)) (x y : ℕ) → AreBelow x a → e.var.0 ≡ x → AreAbove x b → value_in (a ++ b) y ≡ (if nat_eq y x then None else value_in (a ++ e ∷ b) y)
taken_between a e b x y l is above = ⊎_elim
    (λ (s : y ≡ x). behind a b x y (omega arith) l ∙ subst (λ (z : ℕ). value_in b z ≡ None) (sym s) (none_above b x above) ∙ sym (cond-true (nat_eq y x) None (value_in (a ++ e ∷ b) y) (eq-eqb y x s)))
    (λ (s : y ≡ x → ⊥). same_behind a b (e ∷ b) y (sym (past_first e b y (λ t. s (sym t ∙ is)))) ∙ sym (cond-false (nat_eq y x) None (value_in (a ++ e ∷ b) y) (ne_eqb y x s)))
    (cases_eq y x)

-- ---- at an index

split_at : {T : Type 0} (es : List (Entry T)) (i : ℕ) (d : Entry T) → i < length es → take i es ++ (get_or es i d ∷ drop (suc i) es) ≡ es
split_at {T} es i d l = subst (λ (rest : List (Entry T)). take i es ++ rest ≡ es) (drop-cons es i d l) (take-append-drop i es)

pub found_value : {T : Type 0} (x : ℕ) (es : List (Entry T)) (i : ℕ) (e : Entry T) → IsFoundAt x es i → e ≡ get_or es i e → value_in es x ≡ Some e.value
found_value {T} x es i e f is =
    let here : e.var.0 ≡ x = subst (λ (d : Entry T). d.var.0 ≡ x) (sym is) (f.here e) in
    let whole : take i es ++ (e ∷ drop (suc i) es) ≡ es = subst (λ (d : Entry T). take i es ++ (d ∷ drop (suc i) es) ≡ es) (sym is) (split_at es i e f.within) in
    subst (λ (l : List (Entry T)). value_in l x ≡ Some e.value) whole
    (behind (take i es) (e ∷ drop (suc i) es) x x (omega arith) f.below ∙ at_first e (drop (suc i) es) x here)

pub place_none : {T : Type 0} (x : ℕ) (es : List (Entry T)) (i : ℕ) → IsPlaceAt x es i → value_in es x ≡ None
place_none {T} x es i p = subst (λ (l : List (Entry T)). value_in l x ≡ None) (take-append-drop i es) (behind (take i es) (drop i es) x x (omega arith) p.below ∙ none_above (drop i es) x p.above)

module _ {T : Type 0} (x : ℕ) (es : List (Entry T)) (i : ℕ) (d : Entry T) (rising : IsRising es) (f : IsFoundAt x es i) where
  old : Entry T
  old = get_or es i d

  parted : IsRising (take i es ++ (get_or es i d ∷ drop (suc i) es))
  parted = subst IsRising (sym (split_at es i d f.within)) rising

  behind_rising : IsRising (get_or es i d ∷ drop (suc i) es)
  behind_rising = rising_behind (take i es) (get_or es i d ∷ drop (suc i) es) parted

  behind_above : AreAbove x (drop (suc i) es)
  behind_above = subst (λ (y : ℕ). AreAbove y (drop (suc i) es)) (f.here d) behind_rising.0

  pub set_rising : (e : Entry T) → e.var.0 ≡ x → IsRising (set es i e)
  set_rising e is =
      let above : AreAbove e.var.0 (drop (suc i) es) = subst (λ (y : ℕ). AreAbove y (drop (suc i) es)) (sym is) behind_above in
      let below : AreBelow e.var.0 (take i es) = subst (λ (y : ℕ). AreBelow y (take i es)) (sym is) f.below in
      subst IsRising (sym (set_split es i e f.within)) (rising_joined (take i es) e (drop (suc i) es) (rising_front (take i es) (get_or es i d ∷ drop (suc i) es) parted) below (above, behind_rising.1))

  pub set_value : (e : Entry T) → e.var.0 ≡ x → (y : ℕ) → value_in (set es i e) y ≡ (if nat_eq y x then Some e.value else value_in es y)
  set_value e is y =
      let put = put_between (take i es) e (drop (suc i) es) (get_or es i d ∷ drop (suc i) es) x y f.below is (λ s. sym (past_first (get_or es i d) (drop (suc i) es) y (λ t. s (sym t ∙ f.here d)))) in
      ap (λ (l : List (Entry T)). value_in l y) (set_split es i e f.within) ∙ put ∙ ap (λ (l : List (Entry T)). if nat_eq y x then Some e.value else value_in l y) (split_at es i d f.within)

  pub remove_rising : IsRising (remove es i)
  remove_rising = rising_without (take i es) (get_or es i d) (drop (suc i) es) parted

  pub remove_is : (y : ℕ) → value_in (remove es i) y ≡ (if nat_eq y x then None else value_in es y)
  remove_is y =
      taken_between (take i es) (get_or es i d) (drop (suc i) es) x y f.below (f.here d) behind_above
      ∙ ap (λ (l : List (Entry T)). if nat_eq y x then None else value_in l y) (split_at es i d f.within)

module _ {T : Type 0} (x : ℕ) (es : List (Entry T)) (i : ℕ) (rising : IsRising es) (p : IsPlaceAt x es i) where
  whole : IsRising (take i es ++ drop i es)
  whole = subst IsRising (sym (take-append-drop i es)) rising

  pub insert_rising : (e : Entry T) → e.var.0 ≡ x → IsRising (insert es i e)
  insert_rising e is =
      let above : AreAbove e.var.0 (drop i es) = subst (λ (y : ℕ). AreAbove y (drop i es)) (sym is) p.above in
      let below : AreBelow e.var.0 (take i es) = subst (λ (y : ℕ). AreBelow y (take i es)) (sym is) p.below in
      rising_joined (take i es) e (drop i es) (rising_front (take i es) (drop i es) whole) below (above, rising_behind (take i es) (drop i es) whole)

  pub insert_value : (e : Entry T) → e.var.0 ≡ x → (y : ℕ) → value_in (insert es i e) y ≡ (if nat_eq y x then Some e.value else value_in es y)
  insert_value e is y =
      put_between (take i es) e (drop i es) (drop i es) x y p.below is (λ s. refl)
      ∙ ap (λ (l : List (Entry T)). if nat_eq y x then Some e.value else value_in l y) (take-append-drop i es)

-- a variable that has no value is as taken out
pub absent_is : {T : Type 0} (x : ℕ) (es : List (Entry T)) (i : ℕ) → IsPlaceAt x es i → (y : ℕ) → value_in es y ≡ (if nat_eq y x then None else value_in es y)
absent_is x es i p y = ⊎_elim
    (λ (s : y ≡ x). ap (value_in es) s ∙ place_none x es i p ∙ sym (cond-true (nat_eq y x) None (value_in es y) (eq-eqb y x s)))
    (λ (s : y ≡ x → ⊥). sym (cond-false (nat_eq y x) None (value_in es y) (ne_eqb y x s)))
    (cases_eq y x)
