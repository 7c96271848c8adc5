-- Lists of one, and heads of which one has a set.
use Rattle.std.proofs.Common.{◌≡◌, ⊎_elim, inl, inr, List, [], ◌∷◌, ◌++◌, Option, Some, None, refl, ap, ◌∙◌}
use Rattle.csharp.specs.Trees.{CsProgramTree}
use Rattle.csharp.specs.States.{State}
use Rattle.csharp_typed_laws.specs.TypedStates.{IsTypedState}
use Rattle.walk_owes.specs.declared.marks.Mark.{Mark}
use Rattle.walk_owes.specs.declared.marks.Head.{Head}
use Rattle.walk_owes.specs.declared.way.Kept.{Kept}
use Rattle.walk_owes.specs.declared.way.Way.{Way}
use Rattle.walk_owes.specs.Owes.{HasTyped, InSome}
use Rattle.walk_owes.specs.Exactly.{HeadAlone, IsBare, KeptAlone}

pub never_last : {X : Type 0} (xs ys : List X) (y : X) → ys ≡ xs ++ y ∷ [] → ys ≡ [] → ⊥
never_last [] ys y e f = cc
never_last (a ∷ xs) ys y e f = cc

pub only_last : {X : Type 0} (xs ys : List X) (y x : X) → ys ≡ xs ++ y ∷ [] → ys ≡ x ∷ [] → (xs ≡ []) × (y ≡ x)
only_last [] ys y x e f = (refl, cc)
only_last (a ∷ []) ys y x e f = cc
only_last (a ∷ b ∷ xs) ys y x e f = cc

pub push_alone : {X : Type 0} (xs ys : List X) (x : X) → ys ≡ xs ++ x ∷ [] → xs ≡ [] → ys ≡ x ∷ []
push_alone xs ys x e f = e ∙ ap (λ l. l ++ x ∷ []) f

pub none_one : {X : Type 0} (xs : List X) (x : X) → xs ≡ [] → xs ≡ x ∷ [] → ⊥
none_one xs x e f = cc

pub bare_push : {M : Type 0} (heads : List (Head M)) (h : Head M) (mark : Mark) → IsBare heads mark → h.state ≡ None → IsBare (heads ++ h ∷ []) mark
bare_push [] h mark b e = (λ i. e, tt)
bare_push (x ∷ heads) h mark b e = (b.0, bare_push heads h mark b.1 e)

module _ {M : Type 0} (sharp : M → State → Type 0) where
  pub head_alone_push : (heads : List (Head M)) (h : Head M) (mark : Mark) (s : State) → HeadAlone sharp heads mark s → h.state ≡ None
      → HeadAlone sharp (heads ++ h ∷ []) mark s
  head_alone_push [] h mark s a e = absurd a
  head_alone_push (x ∷ heads) h mark s a e =
      ⊎_elim (λ b. inl (b.0, b.1, bare_push heads h mark b.2 e)) (λ b. inr (b.0, head_alone_push heads h mark s b.1 e)) a

  -- ---- states that are typed

  pub kept_typed : (q : CsProgramTree) (kept : List (Kept M)) (w : Way) (s : State) → KeptAlone sharp kept w s → IsTypedState q s
      → KeptAlone (HasTyped sharp q) kept w s
  kept_typed q kept w s h t = (h.0, h.1, h.2, (h.3, t))

  some_typed : (q : CsProgramTree) (m : Option M) (s : State) → InSome sharp m s → IsTypedState q s → InSome (HasTyped sharp q) m s
  some_typed q None s h t = absurd h
  some_typed q (Some m) s h t = (h, t)

  pub head_typed : (q : CsProgramTree) (heads : List (Head M)) (mark : Mark) (s : State) → HeadAlone sharp heads mark s → IsTypedState q s
      → HeadAlone (HasTyped sharp q) heads mark s
  head_typed q [] mark s h t = absurd h
  head_typed q (x ∷ heads) mark s h t =
      ⊎_elim (λ b. inl (b.0, some_typed q x.state s b.1 t, b.2)) (λ b. inr (b.0, head_typed q heads mark s b.1 t)) h

  some_untyped : (q : CsProgramTree) (m : Option M) (s : State) → InSome (HasTyped sharp q) m s → InSome sharp m s × IsTypedState q s
  some_untyped q None s h = absurd h
  some_untyped q (Some m) s h = h

  pub head_untyped : (q : CsProgramTree) (heads : List (Head M)) (mark : Mark) (s : State) → HeadAlone (HasTyped sharp q) heads mark s
      → HeadAlone sharp heads mark s × IsTypedState q s
  head_untyped q [] mark s h = absurd h
  head_untyped q (x ∷ heads) mark s h =
      ⊎_elim (λ b. let y = some_untyped q x.state s b.1 in (inl (b.0, y.0, b.2), y.1))
      (λ b. let y = head_untyped q heads mark s b.1 in (inr (b.0, y.0), y.1)) h
