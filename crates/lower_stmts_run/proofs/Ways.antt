-- Where the code of a statement leaves to is the machine's own jump over the rest of the work. What is left without a value is left of a void function alone.
use Rattle.std.proofs.Common.{◌≡◌, ℕ, zero, suc, List, ◌∷◌, Option, Some, None, refl, sym, subst, Bool, true, false}
use Rattle.std.specs.Prelude.{if◌then◌else◌}
use Rattle.c_syntax_written.specs.declared.place.Pos.{Pos}
use Rattle.c_syntax.specs.TypedStmt as c
use Rattle.c_syntax.specs.TypedStmt.{TStmtTree, TStmtTrees}
use Rattle.c_syntax.specs.Program.{TProgramTree}
use Rattle.c_values.specs.declared.values.Given.TheVariants as givens
use Rattle.c_objects.specs.Opening.{shut_all}
use Rattle.c_steps.specs.Work.{Item, Loop, Do, Close, Begin, SwitchEnd}
use Rattle.c_steps.specs.States.{Held, Plain, State, state, Next, goes, held}
use Rattle.c_steps.specs.Marks as marks
use Rattle.c_steps.specs.Marks.{does, does_nothing}
use Rattle.c_steps.specs.Jumps.{jumped, left}
use Rattle.c_steps.specs.Steps.{step}
use Rattle.c_steps.specs.Runs.{calls_in}
use Rattle.csharp.specs.States as low
use Rattle.csharp.specs.Actions.{leave}
use Rattle.csharp.specs.Outcomes.{Way, ByExit, ByGoto, ByReturn, Outcome, Normal, Leaves, then_do, at_scope, at_block}
use Rattle.csharp.specs.Meaning as meaning
use Rattle.csharp.specs.Meaning.{Later, caught, has}
use Rattle.csharp.specs.Trees.{CsStmtTrees}
use Rattle.lower_trees.specs.LowerStmt.{Context, InSwitch, Past, break_level, continue_level}
use Rattle.lower_rows.proofs.Steps.{Leads, LeadsTo, ToSome, Follows, one, none, then_leads, leads_on, follows_after}
use Rattle.lower_rows.proofs.Rows.{RestGoal}
use Rattle.lower_rows.proofs.Jumps.{only_continue, exit_kind, exit_to, break_is, continue_is}
use Rattle.lower_rows.proofs.Tests.{Onward, Tested}

abbrev pub way_in : Bool → Context → List Item → List Held → Way → low.State → Option Next
way_in void k w s (ByExit j) t = exit_to (exit_kind k j) w s t
way_in void k w s (ByReturn (Some v)) t = Some (left w (held v) s t.memory t.inputs)
way_in void k w s (ByReturn None) t = if void then Some (left w (Plain givens.Nothing) s t.memory t.inputs) else None
way_in void k w s (ByGoto l) t = Some (jumped l w s t.memory t.inputs)

one_chain : (z : Bool) (item : TStmtTree) (v w : List Item) → calls_in v ≡ calls_in w → calls_in (if z then v else Do item ∷ v) ≡ calls_in w
one_chain true item v w h = h
one_chain false item v w h = h

pub does_chain : (items : TStmtTrees) (w : List Item) → calls_in (does items w) ≡ calls_in w
does_chain c.none w = refl
does_chain (c.more item rest) w = one_chain (does_nothing item) item (does rest w) w (does_chain rest w)

pub then_assoc : (o : Outcome) (f g : low.State → Outcome) → then_do (then_do o f) g ≡ then_do o (λ r. then_do (f r) g)
then_assoc (Normal t) f g = refl
then_assoc o f g = refl

module _ (over : ℕ → Bool) (p : TProgramTree) where
  -- an outcome and what comes after it, told from where it began
  pub follows_on : (n : ℕ) (s : State) (chain : List Pos) (goal goal' : low.State → State → Type 0) (way way' : Way → low.State → Option Next) (o : Outcome) (go : low.State → Outcome)
      → Follows over p n s chain goal way o
      → ((t : low.State) (u : State) → o ≡ Normal t → Leads p s u → goal t u → Follows over p n s chain goal' way' (go t))
      → ((k : Way) (t : low.State) → ToSome p s (way k t) → ToSome p s (way' k t))
      → Follows over p n s chain goal' way' (then_do o go)
  follows_on n s chain goal goal' way way' (Normal r) go (u, l, h) f g = f r u refl l h
  follows_on n s chain goal goal' way way' (Leaves k r) go h f g = g k r h
  follows_on n s chain goal goal' way way' o go h f g = h

module _ (over : ℕ → Bool) (p : TProgramTree) (void : Bool) where
  -- the machine follows a statement's code to where the statement ends, or leaves
  abbrev pub Done : ℕ → Context → State → List Item → List Held → Outcome → Type 0
  Done n k s0 w s o = Follows over p n s0 (calls_in w) (RestGoal w s) (way_in void k w s) o

  -- ---- ways out pass what is still to be done

  past_exit : (z : Option Bool) (a : TStmtTree) (w : List Item) (s : List Held) (s0 : State) (t : low.State) → ToSome p s0 (exit_to z (Do a ∷ w) s t) → ToSome p s0 (exit_to z w s t)
  past_exit None a w s s0 t h = h
  past_exit (Some true) a w s s0 t h = h
  past_exit (Some false) a w s s0 t h = h

  pub past_do : (k : Context) (a : TStmtTree) (w : List Item) (s : List Held) (s0 : State) (x : Way) (t : low.State) → ToSome p s0 (way_in void k (Do a ∷ w) s x t) → ToSome p s0 (way_in void k w s x t)
  past_do k a w s s0 (ByExit j) t h = past_exit (exit_kind k j) a w s s0 t h
  past_do k a w s s0 (ByReturn (Some v)) t h = h
  past_do k a w s s0 (ByReturn None) t h = h
  past_do k a w s s0 (ByGoto l) t h = h

  past_if : (z : Bool) (k : Context) (a : TStmtTree) (w : List Item) (s : List Held) (s0 : State) (x : Way) (t : low.State)
      → ToSome p s0 (way_in void k (if z then w else Do a ∷ w) s x t) → ToSome p s0 (way_in void k w s x t)
  past_if true k a w s s0 x t h = h
  past_if false k a w s s0 x t h = past_do k a w s s0 x t h

  pub past_does : (k : Context) (items : TStmtTrees) (w : List Item) (s : List Held) (s0 : State) (x : Way) (t : low.State)
      → ToSome p s0 (way_in void k (does items w) s x t) → ToSome p s0 (way_in void k w s x t)
  past_does k c.none w s s0 x t h = h
  past_does k (c.more item rest) w s s0 x t h = past_does k rest w s s0 x t (past_if (does_nothing item) k item (does rest w) s s0 x t h)

  -- a loop that is not begun yet
  begin_exit : (z : Option Bool) (j : ℕ) (loop : Loop) (w : List Item) (s : List Held) (s0 : State) (t : low.State) → ToSome p s0 (exit_to z (Begin j loop ∷ w) s t) → ToSome p s0 (exit_to z w s t)
  begin_exit None j loop w s s0 t h = h
  begin_exit (Some true) j loop w s s0 t h = h
  begin_exit (Some false) j loop w s s0 t h = h

  pub past_begin : (k : Context) (i : ℕ) (loop : Loop) (w : List Item) (s : List Held) (s0 : State) (x : Way) (t : low.State)
      → ToSome p s0 (way_in void k (Begin i loop ∷ w) s x t) → ToSome p s0 (way_in void k w s x t)
  past_begin k i loop w s s0 (ByExit j) t h = begin_exit (exit_kind k j) i loop w s s0 t h
  past_begin k i loop w s s0 (ByReturn (Some v)) t h = h
  past_begin k i loop w s s0 (ByReturn None) t h = h
  past_begin k i loop w s s0 (ByGoto l) t h = h

  past_close : (z : Option Bool) (xs : List ℕ) (items : TStmtTrees) (w : List Item) (s : List Held) (s0 : State) (t : low.State)
      → ToSome p s0 (exit_to z (Close xs items ∷ w) s t) → ToSome p s0 (exit_to z w s (leave xs t))
  past_close None xs items w s s0 t h = h
  past_close (Some true) xs items w s s0 t h = h
  past_close (Some false) xs items w s s0 t h = h

  -- ---- blocks

  -- what leaves a block ends its objects
  abbrev pub Inside : ℕ → Context → State → List ℕ → TStmtTrees → List Item → List Held → Outcome → Type 0
  Inside n k s0 xs items w s o = Follows over p n s0 (calls_in w) (RestGoal (Close xs items ∷ w) s) (λ x t. way_in void k w s x (leave xs t)) o

  -- a goto to a label of this block goes on behind it, while its objects live on
  jump_case : (n : ℕ) (k : Context) (xs : List ℕ) (label : ℕ) (items : TStmtTrees) (s0 : State) (w : List Item) (s : List Held) (t : low.State) (o : Outcome) (z : Bool)
      → marks.has (marks.AtLabel label) items ≡ z → LeadsTo p s0 (jumped label (Close xs items ∷ w) s t.memory t.inputs)
      → (marks.has (marks.AtLabel label) items ≡ true → (u : State) → Leads p s0 u → step p u ≡ goes (does (marks.behind (marks.AtLabel label) items) (Close xs items ∷ w)) s t.memory t.inputs
      → Inside n k u xs items w s o)
      → Inside n k s0 xs items w s (if z then o else Leaves (ByGoto label) t)
  jump_case n k xs label items s0 w s t o true e (u, lead, f) ih =
      follows_after over p n s0 u (calls_in w) (RestGoal (Close xs items ∷ w) s) (λ x r. way_in void k w s x (leave xs r)) o lead (ih e u lead (rw e at f))
  jump_case n k xs label items s0 w s t o false e (u, lead, f) ih = (u, lead, rw e at f)

  pub caught_follows : (n : ℕ) (k : Context) (xs : List ℕ) (items : TStmtTrees) (all : CsStmtTrees) (s0 : State) (w : List Item) (s : List Held) (later : Later) (o : Outcome)
      → ((label : ℕ) → has (meaning.AtLabel label) all ≡ marks.has (marks.AtLabel label) items) → Done n k s0 (Close xs items ∷ w) s o
      → ((label : ℕ) (t : low.State) → o ≡ Leaves (ByGoto label) t → marks.has (marks.AtLabel label) items ≡ true → (u : State) → Leads p s0 u
      → step p u ≡ goes (does (marks.behind (marks.AtLabel label) items) (Close xs items ∷ w)) s t.memory t.inputs → Inside n k u xs items w s (later.items (meaning.AtLabel label) all t))
      → Inside n k s0 xs items w s (caught later all o)
  caught_follows n k xs items all s0 w s later (Normal t) same g ih = g
  caught_follows n k xs items all s0 w s later (Leaves (ByExit j) t) same g ih = past_close (exit_kind k j) xs items w s s0 t g
  caught_follows n k xs items all s0 w s later (Leaves (ByReturn (Some v)) t) same g ih = g
  caught_follows n k xs items all s0 w s later (Leaves (ByReturn None) t) same g ih = g
  caught_follows n k xs items all s0 w s later (Leaves (ByGoto label) t) same g ih =
      jump_case n k xs label items s0 w s t (later.items (meaning.AtLabel label) all t) (has (meaning.AtLabel label) all) (sym (same label)) g (ih label t refl)
  caught_follows n k xs items all s0 w s later o same g ih = g

  pub scope_follows : (n : ℕ) (k : Context) (xs : List ℕ) (items : TStmtTrees) (s0 : State) (w : List Item) (s : List Held) (o : Outcome) → Inside n k s0 xs items w s o → Done n k s0 w s (at_scope xs o)
  scope_follows n k xs items s0 w s (Normal t) (u, lead, h) =
      (_, then_leads p s0 u _ lead (subst (λ x. Leads p x (state w s (shut_all t.memory xs) t.inputs)) (sym h) (one p _ _ refl)), refl)
  scope_follows n k xs items s0 w s o h = h

  -- ---- the end of a switch

  past_switch : (z : Option Bool) (w : List Item) (s : List Held) (s0 : State) (t : low.State) → ToSome p s0 (exit_to (only_continue z) (SwitchEnd ∷ w) s t) → ToSome p s0 (exit_to z w s t)
  past_switch None w s s0 t h = h
  past_switch (Some true) w s s0 t h = absurd h
  past_switch (Some false) w s s0 t h = h

  pub switch_block : (n : ℕ) (k : Context) (s0 : State) (w : List Item) (s : List Held) (o : Outcome) → Done n (InSwitch k) s0 (SwitchEnd ∷ w) s o → Done n k s0 w s (at_block o)
  switch_block n k s0 w s (Normal t) (u, lead, h) =
      (_, then_leads p s0 u _ lead (subst (λ x. Leads p x (state w s t.memory t.inputs)) (sym h) (one p _ _ refl)), refl)
  switch_block n k s0 w s (Leaves (ByExit zero) t) h = (_, leads_on p s0 _ h, refl)
  switch_block n k s0 w s (Leaves (ByExit (suc j)) t) h = past_switch (exit_kind k j) w s s0 t h
  switch_block n k s0 w s (Leaves (ByReturn (Some v)) t) h = h
  switch_block n k s0 w s (Leaves (ByReturn None) t) h = h
  switch_block n k s0 w s (Leaves (ByGoto l) t) h = h
  switch_block n k s0 w s o h = h

  -- ---- branches: the first way stands in two blocks, the second in one

  first_done : (n : ℕ) (k : Context) (s0 : State) (w : List Item) (s : List Held) (o : Outcome) (second : low.State → Outcome) → Done n (Past (Past k)) s0 w s o
      → Done n k s0 w s (at_block (then_do (at_block (then_do o (λ r. Leaves (ByExit 1) r))) second))
  first_done n k s0 w s (Normal t) second h = h
  first_done n k s0 w s (Leaves (ByExit zero) t) second h = absurd h
  first_done n k s0 w s (Leaves (ByExit (suc zero)) t) second h = absurd h
  first_done n k s0 w s (Leaves (ByExit (suc (suc j))) t) second h = h
  first_done n k s0 w s (Leaves (ByReturn (Some v)) t) second h = h
  first_done n k s0 w s (Leaves (ByReturn None) t) second h = h
  first_done n k s0 w s (Leaves (ByGoto l) t) second h = h
  first_done n k s0 w s o second h = h

  second_done : (n : ℕ) (k : Context) (s0 : State) (w : List Item) (s : List Held) (o : Outcome) → Done n (Past k) s0 w s o → Done n k s0 w s (at_block o)
  second_done n k s0 w s (Normal t) h = h
  second_done n k s0 w s (Leaves (ByExit zero) t) h = absurd h
  second_done n k s0 w s (Leaves (ByExit (suc j)) t) h = h
  second_done n k s0 w s (Leaves (ByReturn (Some v)) t) h = h
  second_done n k s0 w s (Leaves (ByReturn None) t) h = h
  second_done n k s0 w s (Leaves (ByGoto l) t) h = h
  second_done n k s0 w s o h = h

  pub branch_done : (n : ℕ) (k : Context) (s0 : State) (w : List Item) (s : List Held) (on off : Onward) (o : Outcome) (first second : low.State → Outcome) → Tested over p n s0 (calls_in w) on off 0 o
      → ((t : low.State) (u : State) → o ≡ Normal t → Leads p s0 u → step p u ≡ on t.memory t.inputs → Done n (Past (Past k)) u w s (first t))
      → ((t : low.State) (u : State) → o ≡ Leaves (ByExit zero) t → Leads p s0 u → step p u ≡ off t.memory t.inputs → Done n (Past k) u w s (second t))
      → Done n k s0 w s (at_block (then_do (at_block (then_do o (λ t. then_do (first t) (λ r. Leaves (ByExit 1) r)))) second))
  branch_done n k s0 w s on off (Normal t) first second (u, l, e) f g =
      follows_after over p n s0 u (calls_in w) (RestGoal w s) (way_in void k w s) _ l (first_done n k u w s (first t) second (f t u refl l e))
  branch_done n k s0 w s on off (Leaves (ByExit zero) t) first second (u, l, e) f g =
      follows_after over p n s0 u (calls_in w) (RestGoal w s) (way_in void k w s) _ l (second_done n k u w s (second t) (g t u refl l e))
  branch_done n k s0 w s on off (Leaves (ByExit (suc j)) t) first second h f g = absurd h
  branch_done n k s0 w s on off (Leaves (ByGoto l) t) first second h f g = absurd h
  branch_done n k s0 w s on off (Leaves (ByReturn v) t) first second h f g = absurd h
  branch_done n k s0 w s on off o first second h f g = h

  -- ---- a break and a continue
  pub break_done : (n : ℕ) (k : Context) (at : Pos) (w : List Item) (s : List Held) (t : low.State) → Done n k (state (Do (c.Break at) ∷ w) s t.memory t.inputs) w s (Leaves (ByExit (break_level k)) t)
  break_done n k at w s t = rw (break_is k) (_, none p _, refl)

  pub continue_done : (n : ℕ) (k : Context) (at : Pos) (w : List Item) (s : List Held) (t : low.State) → Done n k (state (Do (c.Continue at) ∷ w) s t.memory t.inputs) w s (Leaves (ByExit (continue_level k)) t)
  continue_done n k at w s t = rw (continue_is k) (_, none p _, refl)
