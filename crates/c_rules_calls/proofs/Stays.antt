-- A body without stray gotos is one whose gotos stay.
use Rattle.std.proofs.Common.{◌≡◌, ℕ, Bool, true, false, inl, inr, suc, List, [], ◌∷◌, ◌++◌, refl, arith, rules}
use Rattle.std.specs.Prelude.{if◌then◌else◌, Contains}
use Rattle.std.proofs.lemmas.Bool.{cases_eq}
use Rattle.c_syntax_written.specs.declared.place.Pos.{Pos}
use Rattle.c_syntax.specs.TypedStmt.{TStmtTree, Block, If, While, DoWhile, For, Switch, Goto, TStmtTrees, none, more}
use Rattle.c_layout.specs.Jumps.{labels_among, GotosStay, GotosStayIn}
use Rattle.c_rules_calls.specs.Gotos.{has_label, strays, strays_among}

left_none : {A : Type 0} (xs ys : List A) → xs ++ ys ≡ [] → xs ≡ []
left_none [] ys e = refl
left_none (x ∷ xs) ys e = absurd (cons_none e) where
  cons_none : {A : Type 0} {x : A} {xs : List A} → x ∷ xs ≡ [] → ⊥
  cons_none e = search rules

right_none : {A : Type 0} (xs ys : List A) → xs ++ ys ≡ [] → ys ≡ []
right_none [] ys e = e
right_none (x ∷ xs) ys e = absurd (cons_none e) where
  cons_none : {A : Type 0} {x : A} {xs : List A} → x ∷ xs ≡ [] → ⊥
  cons_none e = search rules

contained : (labels : List ℕ) (label : ℕ) → has_label labels label ≡ true → Contains labels label
contained [] label e = absurd (false_true e) where
  false_true : false ≡ true → ⊥
  false_true e = search rules
contained (x ∷ xs) label e = elim (cases_eq x label) [
  | inl same ↦ (0, omega arith, same)
  | inr other ↦ (
      let rest = contained xs label (grind (arith, e, other)) in (suc rest.0, omega (arith, rest.1), rest.2))
]

there : (around : List ℕ) (at : Pos) (label : ℕ) (b : Bool) → has_label around label ≡ b → (if b then [] else at ∷ []) ≡ [] → Contains around label
there around at label true e h = contained around label e
there around at label false e h = absurd (cons_none h) where
  cons_none : {x : Pos} {xs : List Pos} → x ∷ xs ≡ [] → ⊥
  cons_none e = search rules

mutual
  unfolding strays GotosStay

  pub stays : (around : List ℕ) (s : TStmtTree) → strays around s ≡ [] → GotosStay around s
  stays around (Block at kind objects items) e = stay_in (labels_among items ++ around) items e
  stays around (If at condition first second) e =
      (stays around first (left_none (strays around first) (strays around second) e), stays around second (right_none (strays around first) (strays around second) e))
  stays around (While at condition body) e = stays around body e
  stays around (DoWhile at body condition) e = stays around body e
  stays around (For at objects head condition step body) e = stays around body e
  stays around (Switch at value kind objects items) e = stay_in (labels_among items ++ around) items e
  stays around (Goto at label) e = there around at label (has_label around label) refl e
  stays around _ e = tt

  pub stay_in : (around : List ℕ) (items : TStmtTrees) → strays_among around items ≡ [] → GotosStayIn around items
  stay_in around none e = tt
  stay_in around (more item rest) e =
      (stays around item (left_none (strays around item) (strays_among around rest) e), stay_in around rest (right_none (strays around item) (strays_among around rest) e))
