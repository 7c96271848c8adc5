-- States that differ at one variable, and cuts in turn.
use Rattle.std.proofs.Common.{ℕ, ℤ, List, ◌≡◌, ⊎_elim, Option, Some, None, Bool, refl, sym, subst, ap, ◌∙◌}
use Rattle.std.specs.Prelude.{IsTrue, IfSome, IfNone, IfOk, OnOk, nat_eq}
use Rattle.std.proofs.Common.{Result, Ok, Err}
use Rattle.std.proofs.lemmas.Bool.{eq-eqb, ne_eqb, cond-true, cond-false, cases_eq}
use Rattle.ext_int.specs.Valuation.{value_at}
use Rattle.ext_int.specs.declared.Live.{Live as LiveOrDead}
use Rattle.ext_int.specs.declared.Live.TheVariants.{Live, Dead}
use Rattle.num_api.specs.declared.message.Range.{Range}
use Rattle.num_api.specs.Ranges.{NoWider, IsUnder, with_range}
use Rattle.num_api.specs.Valuation.{SetTo}
use Rattle.env_lift.specs.declared.entries.Entry.{Entry}
use Rattle.env_lift.specs.Entries.{value_in}
use Rattle.env_lift.specs.States.{AllAdmit, known_of, known_in}
use Rattle.num_api.proofs.Parts.{wider, as_wide}
use Rattle.env_lift.specs.Changes.{MayAdmit, IsChanged, IsCut}

-- ---- answers

pub some_map : {T : Type 0} (P Q : T → Type 0) (o : Option T) → IfSome o P → ((t : T) → P t → Q t) → IfSome o Q
some_map P Q None h f = tt
some_map P Q (Some t) h f = f t h

pub none_any : {T : Type 0} (P : Type 0) (o : Option T) → P → IfNone o P
none_any P None p = p
none_any P (Some t) p = tt

pub ok_map : {T E : Type 0} (P Q : T → Type 0) (r : Result T E) → IfOk r P → ((t : T) → P t → Q t) → IfOk r Q
ok_map P Q (Ok t) h f = f t h
ok_map P Q (Err e) h f = tt

pub ok_both : {T E : Type 0} (P Q S : T → Type 0) (r : Result T E) → IfOk r P → IfOk r Q → ((t : T) → P t → Q t → S t) → IfOk r S
ok_both P Q S (Ok t) h k f = f t h k
ok_both P Q S (Err e) h k f = tt

pub ok_on : {T E : Type 0} (P : T → Type 0) (Q : Type 0) (r : Result T E) → IfOk r P → ((t : T) → P t → Q) → OnOk r Q
ok_on P Q (Ok t) h f = f t h
ok_on P Q (Err e) h f = tt

same_some : {T : Type 0} (a b : T) → Some a ≡ Some b → a ≡ b
same_some a b e = cc

-- ---- one variable

pub changed_here : {V : Type 0} (x : ℕ) (o : Option V) (before after : List (Entry V)) → IsChanged x o before after → value_in after x ≡ o
changed_here x o before after h = h x ∙ cond-true (nat_eq x x) o (value_in before x) (eq-eqb x x refl)

pub changed_other : {V : Type 0} (x : ℕ) (o : Option V) (before after : List (Entry V)) (y : ℕ) → IsChanged x o before after → (y ≡ x → ⊥) → value_in after y ≡ value_in before y
changed_other x o before after y h ne = h y ∙ cond-false (nat_eq y x) o (value_in before y) (ne_eqb y x ne)

may_some : {V : Type 0} (A : V → ℤ → Type 0) (o : Option V) (a : V) (n : ℤ) → o ≡ Some a → MayAdmit A o n → A a n
may_some {V} A o a n e h = subst (λ (p : Option V). MayAdmit A p n) e h

pub may_from : {V : Type 0} (A : V → ℤ → Type 0) (o : Option V) (n : ℤ) → ((a : V) → o ≡ Some a → A a n) → MayAdmit A o n
may_from A None n h = tt
may_from A (Some a) n h = h a refl

pub changed_admits : {V : Type 0} (A : V → ℤ → Type 0) (x : ℕ) (o : Option V) (before after : List (Entry V)) (v w : List ℤ) (n : ℤ) → IsChanged x o before after → SetTo x n v w → AllAdmit A before v → MayAdmit A o n → AllAdmit A after w
changed_admits A x o before after v w n h set p q = λ y a has. ⊎_elim
    (λ (s : y ≡ x).
    let found : o ≡ Some a = sym (changed_here x o before after h) ∙ sym (ap (value_in after) s) ∙ has in
    subst (A a) (sym (ap (value_at w) s ∙ set.here)) (may_some A o a n found q))
    (λ (s : y ≡ x → ⊥). subst (A a) (sym (set.others y s)) (p y a (sym (changed_other x o before after y h s) ∙ has)))
    (cases_eq y x)

pub set_same : (x : ℕ) (v : List ℤ) → SetTo x (value_at v x) v v
set_same x v = record { here = refl; others = λ y s. refl }

-- ---- what is known

pub known_here : {V : Type 0} (K : V → Range) (x : ℕ) (o : Option V) (before after : List (Entry V)) → IsChanged x o before after → known_in K after x ≡ known_of K o
known_here K x o before after h = ap (known_of K) (changed_here x o before after h)

pub known_other : {V : Type 0} (K : V → Range) (x : ℕ) (o : Option V) (before after : List (Entry V)) (y : ℕ) → IsChanged x o before after → (y ≡ x → ⊥) → known_in K after y ≡ known_in K before y
known_other K x o before after y h s = ap (known_of K) (changed_other x o before after y h s)

pub changed_under : {V : Type 0} (K : V → Range) (x : ℕ) (o : Option V) (before after : List (Entry V)) (given : ℕ → Range) (r : Range) → IsChanged x o before after → IsUnder (known_in K before) given → NoWider (known_of K o) r → IsUnder (known_in K after) (with_range given x r)
changed_under K x o before after given r h u w = λ y. ⊎_elim
    (λ (s : y ≡ x).
    let there : known_in K after y ≡ known_of K o = ap (known_in K after) s ∙ known_here K x o before after h in
    subst (NoWider (known_in K after y)) (sym (cond-true (nat_eq y x) r (given y) (eq-eqb y x s))) (subst (λ (k : Range). NoWider k r) (sym there) w))
    (λ (s : y ≡ x → ⊥).
    subst (NoWider (known_in K after y)) (sym (cond-false (nat_eq y x) r (given y) (ne_eqb y x s))) (subst (λ (k : Range). NoWider k (given y)) (sym (known_other K x o before after y h s)) (u y)))
    (cases_eq y x)

-- ---- cuts

module _ {V : Type 0} (A : V → ℤ → Type 0) (K : V → Range) (exact : Bool) where
  pub cut_here : (x : ℕ) (before after : List (Entry V)) (told r : V) → IsChanged x (Some r) before after → ((n : ℤ) → MayAdmit A (value_in before x) n → A told n → A r n) → (IsTrue exact → NoWider (K r) (known_in K before x)) → IsCut A K exact before after (λ v. A told (value_at v x)) Live
  cut_here x before after told r h keeps under = record {
    keeps = λ v p q.
        let old = may_from A (value_in before x) (value_at v x) (p x) in
        (refl, changed_admits A x (Some r) before after v v (value_at v x) h (set_same x v) p (keeps (value_at v x) old q));
    narrows = λ e y. ⊎_elim
        (λ (s : y ≡ x).
        let there : known_in K after y ≡ K r = ap (known_in K after) s ∙ known_here K x (Some r) before after h in
        subst (λ (k : Range). NoWider k (known_in K before y)) (sym there) (subst (λ (z : ℕ). NoWider (K r) (known_in K before z)) (sym s) (under e)))
        (λ (s : y ≡ x → ⊥). subst (λ (k : Range). NoWider k (known_in K before y)) (sym (known_other K x (Some r) before after y h s)) (as_wide (known_in K before y)))
        (cases_eq y x);
  }

  pub cut_dead : (state : List (Entry V)) (P : List ℤ → Type 0) → ((v : List ℤ) → AllAdmit A state v → P v → ⊥) → IsCut A K exact state state P Dead
  cut_dead state P h = record { keeps = λ v p q. absurd (h v p q); narrows = λ e y. as_wide (known_in K state y) }

  pub cut_none : (state : List (Entry V)) (P : List ℤ → Type 0) → IsCut A K exact state state P Live
  cut_none state P = record { keeps = λ v p q. (refl, p); narrows = λ e y. as_wide (known_in K state y) }

  pub cut_weaker : (before after : List (Entry V)) (P Q : List ℤ → Type 0) (answer : LiveOrDead) → IsCut A K exact before after P answer → ((v : List ℤ) → AllAdmit A before v → Q v → P v) → IsCut A K exact before after Q answer
  cut_weaker before after P Q answer c h = record { keeps = λ v p q. c.keeps v p (h v p q); narrows = c.narrows }

  -- two cuts in turn, and a first one that is Dead
  pub cut_twice : (before between after : List (Entry V)) (P Q R : List ℤ → Type 0) (first second : LiveOrDead) → IsCut A K exact before between P first → IsCut A K exact between after Q second → ((v : List ℤ) → AllAdmit A before v → R v → P v × Q v) → IsCut A K exact before after R second
  cut_twice before between after P Q R first second c d h = record {
    keeps = λ v p q. let both = h v p q in d.keeps v (c.keeps v p both.0).1 both.1;
    narrows = λ e y. wider (known_in K after y) (known_in K between y) (known_in K before y) (d.narrows e y) (c.narrows e y);
  }
