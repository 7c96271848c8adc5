-- Sets whose states are typed, and sets alone.
use Rattle.std.proofs.Common.{⊎_elim, inl, inr, zero, suc, List, [], ◌∷◌, Option, Some, None}
use Rattle.csharp.specs.Trees.{CsProgramTree}
use Rattle.csharp.specs.States.{State}
use Rattle.csharp_typed_laws.specs.TypedStates.{IsTypedState}
use Rattle.walk_owes.specs.declared.marks.Head.{Head}
use Rattle.walk_owes.specs.declared.marks.Mark.{Mark}
use Rattle.walk_owes.specs.declared.way.Kept.{Kept}
use Rattle.walk_owes.specs.declared.way.Way.{Way}
use Rattle.walk_owes.specs.declared.way.Way.TheVariants as ways
use Rattle.walk_owes.specs.Owes.{GoesOut, HasTyped, InSome, KeepsState, LeavesBlock}
use Rattle.walk_owes.specs.Items.{HasHead, Stays}

module _ {M : Type 0} (stands : M → State → Type 0) (q : CsProgramTree) where
  pub some_of : (m : Option M) (s : State) → InSome (HasTyped stands q) m s → InSome stands m s × IsTypedState q s
  some_of None s h = absurd h
  some_of (Some m) s h = h

  pub some_with : (m : Option M) (s : State) → InSome stands m s → IsTypedState q s → InSome (HasTyped stands q) m s
  some_with None s h t = absurd h
  some_with (Some m) s h t = (h, t)

  -- what a set takes over it takes over of typed states
  pub some_on : (m n : Option M) → ((s : State) → InSome stands m s → InSome stands n s) → (s : State) → InSome (HasTyped stands q) m s
      → InSome (HasTyped stands q) n s
  some_on m n f s h = let x = some_of m s h in some_with n s (f s x.0) x.1

  pub keeps_of : (kept : List (Kept M)) (w : Way) (s : State) → KeepsState (HasTyped stands q) kept w s → KeepsState stands kept w s × IsTypedState q s
  keeps_of [] w s h = absurd h
  keeps_of (k ∷ kept) w s h = ⊎_elim (λ e. (inl (e.0, e.1.0), e.1.1)) (λ r. let x = keeps_of kept w s r in (inr x.0, x.1)) h

  pub keeps_with : (kept : List (Kept M)) (w : Way) (s : State) → KeepsState stands kept w s → IsTypedState q s → KeepsState (HasTyped stands q) kept w s
  keeps_with [] w s h t = absurd h
  keeps_with (k ∷ kept) w s h t = ⊎_elim (λ e. inl (e.0, (e.1, t))) (λ r. inr (keeps_with kept w s r t)) h

  pub keeps_on : (kept more : List (Kept M)) → ((w : Way) (s : State) → KeepsState stands kept w s → KeepsState stands more w s) → (w : Way) (s : State)
      → KeepsState (HasTyped stands q) kept w s → KeepsState (HasTyped stands q) more w s
  keeps_on kept more f w s h = let x = keeps_of kept w s h in keeps_with more w s (f w s x.0) x.1

  pub head_of : (heads : List (Head M)) (mark : Mark) (s : State) → HasHead (HasTyped stands q) heads mark s → HasHead stands heads mark s × IsTypedState q s
  head_of [] mark s h = absurd h
  head_of (x ∷ heads) mark s h =
      ⊎_elim (λ e. let y = some_of x.state s e.1 in (inl (e.0, y.0), y.1)) (λ r. let y = head_of heads mark s r in (inr y.0, y.1)) h

  pub head_with : (heads : List (Head M)) (mark : Mark) (s : State) → HasHead stands heads mark s → IsTypedState q s → HasHead (HasTyped stands q) heads mark s
  head_with [] mark s h t = absurd h
  head_with (x ∷ heads) mark s h t = ⊎_elim (λ e. inl (e.0, some_with x.state s e.1 t)) (λ r. inr (head_with heads mark s r t)) h

  pub head_on : (heads more : List (Head M)) → ((mark : Mark) (s : State) → HasHead stands heads mark s → HasHead stands more mark s) → (mark : Mark) (s : State)
      → HasHead (HasTyped stands q) heads mark s → HasHead (HasTyped stands q) more mark s
  head_on heads more f mark s h = let x = head_of heads mark s h in head_with more mark s (f mark s x.0) x.1

  pub stays_with : (gone kept : List (Kept M)) (w : Way) (s : State) → Stays stands gone kept w s → IsTypedState q s → Stays (HasTyped stands q) gone kept w s
  stays_with gone kept (ways.Exit k) s h t = keeps_with kept (ways.Exit k) s h t
  stays_with gone kept (ways.Goto l) s h t = ⊎_elim (λ a. inl (keeps_with gone (ways.Goto l) s a t)) (λ b. inr (keeps_with kept (ways.Goto l) s b t)) h
  stays_with gone kept ways.Return s h t = keeps_with kept ways.Return s h t

  goes_with : (kept : List (Kept M)) (after : Option M) (w : Way) (s : State) → GoesOut stands kept after w s → IsTypedState q s
      → GoesOut (HasTyped stands q) kept after w s
  goes_with kept after (ways.Exit zero) s h t = some_with after s h t
  goes_with kept after (ways.Exit (suc k)) s h t = keeps_with kept (ways.Exit k) s h t
  goes_with kept after (ways.Goto l) s h t = keeps_with kept (ways.Goto l) s h t
  goes_with kept after ways.Return s h t = keeps_with kept ways.Return s h t

  pub leaves_with : (inner kept : List (Kept M)) (after : Option M) → LeavesBlock stands inner kept after → LeavesBlock (HasTyped stands q) inner kept after
  leaves_with inner kept after f w s h = let x = keeps_of inner w s h in goes_with kept after w s (f w s x.0) x.1
