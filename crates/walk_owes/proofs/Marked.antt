-- The items that are labels or cases, and the others.
use Rattle.std.proofs.Common.{◌≡◌, ◌⊎◌, ⊎_elim, inl, inr, ℕ, suc, ℤ, List, ◌∷◌, Bool, true, false, if◌then◌else◌, refl, sym, subst, arith}
use Rattle.std.specs.Prelude.{◌==◌, Contains}
use Rattle.std.specs.Ordering.{int_eq}
use Rattle.std.proofs.lemmas.Bool.{eqb-true}
use Rattle.std.proofs.lemmas.Bool.Decides.{Decides-int_eq}
use Rattle.c_syntax_written.specs.declared.place.Pos.{Pos}
use Rattle.csharp.specs.Trees.{CsStmtTree, CsStmtTrees, none, more, Nothing, Set, Load, Store, CopyBytes, Undefine, Checked, Input, Assume, Sequence, If, Loop, Block}
use Rattle.csharp.specs.Trees.{Exit, Scope, Switch, Goto, Call, Return, Label, Case, Default}
use Rattle.csharp.specs.Formed.{Differ, cases_among, labels_among}
use Rattle.csharp.specs.Meaning.{AtCase, AtLabel, has, is_mark}
use Rattle.walk_owes.specs.Walkable.{IsAlone}

-- neither a label nor a case
pub record IsPlain (item : CsStmtTree) : Type 0 where
  pub labels : (rest : CsStmtTrees) → labels_among (more item rest) ≡ labels_among rest
  pub cases : (rest : CsStmtTrees) → cases_among (more item rest) ≡ cases_among rest
  pub no_label : (l : ℕ) → is_mark (AtLabel l) item ≡ false
  pub no_case : (n : ℤ) → is_mark (AtCase n) item ≡ false

abbrev pub Seen : CsStmtTree → Type 0
Seen item = ((at : Pos) × (l : ℕ) × (item ≡ Label at l)) ⊎ ((n : ℤ) × (item ≡ Case n)) ⊎ IsPlain item

pub seen : (item : CsStmtTree) → Seen item
seen Nothing = inr (inr (record { labels = λ rest. refl; cases = λ rest. refl; no_label = λ l. refl; no_case = λ k. refl }))
seen (Set d e) = inr (inr (record { labels = λ rest. refl; cases = λ rest. refl; no_label = λ l. refl; no_case = λ k. refl }))
seen (Load d ty e) = inr (inr (record { labels = λ rest. refl; cases = λ rest. refl; no_label = λ l. refl; no_case = λ k. refl }))
seen (Store ty e f) = inr (inr (record { labels = λ rest. refl; cases = λ rest. refl; no_label = λ l. refl; no_case = λ k. refl }))
seen (CopyBytes n e f) = inr (inr (record { labels = λ rest. refl; cases = λ rest. refl; no_label = λ l. refl; no_case = λ k. refl }))
seen (Undefine x) = inr (inr (record { labels = λ rest. refl; cases = λ rest. refl; no_label = λ l. refl; no_case = λ k. refl }))
seen (Checked c) = inr (inr (record { labels = λ rest. refl; cases = λ rest. refl; no_label = λ l. refl; no_case = λ k. refl }))
seen (Input d t) = inr (inr (record { labels = λ rest. refl; cases = λ rest. refl; no_label = λ l. refl; no_case = λ k. refl }))
seen (Assume e) = inr (inr (record { labels = λ rest. refl; cases = λ rest. refl; no_label = λ l. refl; no_case = λ k. refl }))
seen (Sequence a b) = inr (inr (record { labels = λ rest. refl; cases = λ rest. refl; no_label = λ l. refl; no_case = λ k. refl }))
seen (If e a b) = inr (inr (record { labels = λ rest. refl; cases = λ rest. refl; no_label = λ l. refl; no_case = λ k. refl }))
seen (Loop at a) = inr (inr (record { labels = λ rest. refl; cases = λ rest. refl; no_label = λ l. refl; no_case = λ k. refl }))
seen (Block a) = inr (inr (record { labels = λ rest. refl; cases = λ rest. refl; no_label = λ l. refl; no_case = λ k. refl }))
seen (Exit k) = inr (inr (record { labels = λ rest. refl; cases = λ rest. refl; no_label = λ l. refl; no_case = λ k. refl }))
seen (Scope xs items) = inr (inr (record { labels = λ rest. refl; cases = λ rest. refl; no_label = λ l. refl; no_case = λ k. refl }))
seen (Switch e xs items) = inr (inr (record { labels = λ rest. refl; cases = λ rest. refl; no_label = λ l. refl; no_case = λ k. refl }))
seen (Goto l) = inr (inr (record { labels = λ rest. refl; cases = λ rest. refl; no_label = λ l. refl; no_case = λ k. refl }))
seen (Call c) = inr (inr (record { labels = λ rest. refl; cases = λ rest. refl; no_label = λ l. refl; no_case = λ k. refl }))
seen (Return e) = inr (inr (record { labels = λ rest. refl; cases = λ rest. refl; no_label = λ l. refl; no_case = λ k. refl }))
seen (Label at l) = inl (at, l, refl)
seen (Case n) = inr (inl (n, refl))
seen Default = inr (inr (record { labels = λ rest. refl; cases = λ rest. refl; no_label = λ l. refl; no_case = λ k. refl }))

both : {b : Bool} → b ≡ false → b ≡ true → ⊥
both e f = absurd (cc)

not_true : (b : Bool) → (b ≡ true → ⊥) → b ≡ false
not_true true f = absurd (f refl)
not_true false f = refl

-- ---- what stands among items is in their lists

here : {A : Type 0} (x : A) (xs : List A) → Contains (x ∷ xs) x
here x xs = (0, omega arith, refl)

behind : {A : Type 0} (x y : A) (xs : List A) → Contains xs x → Contains (y ∷ xs) x
behind x y xs c = (suc c.0, omega (c.1, arith), c.2)

label_here : (b : Bool) (l k : ℕ) (xs : List ℕ) (c : Bool) → (b ≡ true → l ≡ k) → (c ≡ true → Contains xs l) → (if b then true else c) ≡ true → Contains (k ∷ xs) l
label_here true l k xs c f g e = subst (λ z. Contains (z ∷ xs) l) (f refl) (here l xs)
label_here false l k xs c f g e = behind l k xs (g e)

case_here : (b : Bool) (n k : ℤ) (xs : List ℤ) (c : Bool) → (b ≡ true → n ≡ k) → (c ≡ true → Contains xs n) → (if b then true else c) ≡ true → Contains (k ∷ xs) n
case_here true n k xs c f g e = subst (λ z. Contains (z ∷ xs) n) (f refl) (here n xs)
case_here false n k xs c f g e = behind n k xs (g e)

else_is : (b c : Bool) → b ≡ false → (if b then true else c) ≡ true → c ≡ true
else_is true c e h = absurd (both e refl)
else_is false c e h = h

pub label_listed : (l : ℕ) (items : CsStmtTrees) → has (AtLabel l) items ≡ true → Contains (labels_among items) l
label_listed l none h = absurd (both refl h)
label_listed l (more item rest) h =
    ⊎_elim
    (λ x. let g = rw x.2 at h in
    rw x.2 (label_here (l == x.1) l x.1 (labels_among rest) (has (AtLabel l) rest) (eqb-true l x.1) (label_listed l rest) g))
    (λ y. ⊎_elim
    (λ x. let g = rw x.1 at h in rw x.1 (label_listed l rest g))
    (λ p. subst (λ z. Contains z l) (sym (p.labels rest)) (label_listed l rest (else_is (is_mark (AtLabel l) item) (has (AtLabel l) rest) (p.no_label l) h))) y)
    (seen item)

pub case_listed : (n : ℤ) (items : CsStmtTrees) → has (AtCase n) items ≡ true → Contains (cases_among items) n
case_listed n none h = absurd (both refl h)
case_listed n (more item rest) h =
    ⊎_elim
    (λ x. let g = rw x.2 at h in rw x.2 (case_listed n rest g))
    (λ y. ⊎_elim
    (λ x. let g = rw x.1 at h in
    rw x.1 (case_here (int_eq n x.0) n x.0 (cases_among rest) (has (AtCase n) rest) (λ e. (Decides-int_eq n x.0).0 e) (case_listed n rest) g))
    (λ p. subst (λ z. Contains z n) (sym (p.cases rest)) (case_listed n rest (else_is (is_mark (AtCase n) item) (has (AtCase n) rest) (p.no_case n) h))) y)
    (seen item)

-- ---- labels that stand once

rest_differ : (x : ℕ) (xs : List ℕ) → Differ (x ∷ xs) → Differ xs
rest_differ x xs h i j d l m = h (suc i) (suc j) d (omega (l, arith)) (omega (m, arith))

never_again : (x : ℕ) (xs : List ℕ) → Differ (x ∷ xs) → Contains xs x → ⊥
never_again x xs h c = h 0 (suc c.0) x (omega arith) (omega (c.1, arith)) (sym c.2)

pub labels_behind : (item : CsStmtTree) (rest : CsStmtTrees) → Differ (labels_among (more item rest)) → Differ (labels_among rest)
labels_behind item rest h =
    ⊎_elim (λ x. rest_differ x.1 (labels_among rest) (rw x.2 at h))
    (λ y. ⊎_elim (λ x. rw x.1 at h) (λ p. subst Differ (p.labels rest) h) y) (seen item)

pub alone_of : (item : CsStmtTree) (rest : CsStmtTrees) → Differ (labels_among (more item rest)) → IsAlone item rest
alone_of item rest h l m =
    not_true (has (AtLabel l) rest)
    (λ there. ⊎_elim
    (λ x. let g = rw x.2 at h in let i = eqb-true l x.1 (rw x.2 at m) in
    never_again x.1 (labels_among rest) g (subst (Contains (labels_among rest)) i (label_listed l rest there)))
    (λ y. ⊎_elim (λ x. both refl (rw x.1 at m)) (λ p. both (p.no_label l) m) y)
    (seen item))
