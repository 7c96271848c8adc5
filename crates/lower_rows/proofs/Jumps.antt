-- The machine follows gotos: out of a statement, and within a block.
use Rattle.std.proofs.Common.{◌≡◌, ℕ, zero, suc, List, ◌∷◌, Option, Some, None, refl, sym, ap, subst, Bool, true, false}
use Rattle.std.specs.Prelude.{if◌then◌else◌}
use Rattle.c_syntax_written.specs.declared.place.Pos.{Pos}
use Rattle.c_syntax.specs.declared.program.Plan.{Plan}
use Rattle.c_syntax.specs.TypedStmt as c
use Rattle.c_syntax.specs.TypedStmt.{TStmtTree, TStmtTrees}
use Rattle.c_syntax.specs.Program.{TProgramTree}
use Rattle.block_mem.specs.declared.types.Value.{Value}
use Rattle.c_objects.specs.Opening.{shut_all}
use Rattle.c_steps.specs.Work.{Item, Do, Close}
use Rattle.c_steps.specs.States.{Held, Plain, State, state, Next, goes, held}
use Rattle.c_values.specs.declared.values.Given.TheVariants as givens
use Rattle.c_steps.specs.Marks as marks
use Rattle.c_steps.specs.Marks.{AtLabel, does, does_nothing}
use Rattle.c_steps.specs.Jumps.{broken, continued, jumped, left}
use Rattle.c_steps.specs.Steps.{step}
use Rattle.c_steps.specs.Runs.{calls_in}
use Rattle.csharp.specs.States as low
use Rattle.csharp.specs.Actions.{leave}
use Rattle.csharp.specs.Outcomes as outs
use Rattle.csharp.specs.Outcomes.{Way, ByExit, ByGoto, ByReturn, Outcome, Normal, Leaves, Fails, Stuck, Clash, NoFuel, Over, at_scope, at_block}
use Rattle.csharp.specs.Meaning as meaning
use Rattle.csharp.specs.Meaning.{Later, caught, has, is_mark}
use Rattle.lower_trees.specs.LowerStmt.{Context, InLoop, InSwitch, Past, break_level, continue_level, lower_stmt, lower_items}
use Rattle.lower_rows.proofs.Steps.{Leads, LeadsTo, ToSome, Follows, one, none, then_leads, follows_after}
use Rattle.lower_rows.proofs.Rows.{RestGoal}

-- ---- where exits lead: to a break, a continue, or nowhere

abbrev pub only_continue : Option Bool → Option Bool
only_continue None = None
only_continue (Some true) = None
only_continue (Some false) = Some false

abbrev pub exit_kind : Context → ℕ → Option Bool
exit_kind InLoop zero = Some false
exit_kind InLoop (suc zero) = Some true
exit_kind InLoop (suc (suc j)) = None
exit_kind (InSwitch k) zero = Some true
exit_kind (InSwitch k) (suc j) = only_continue (exit_kind k j)
exit_kind (Past k) zero = None
exit_kind (Past k) (suc j) = exit_kind k j

abbrev pub exit_to : Option Bool → List Item → List Held → low.State → Option Next
exit_to None w s t = None
exit_to (Some true) w s t = Some (broken w s t.memory t.inputs)
exit_to (Some false) w s t = Some (continued w s t.memory t.inputs)

abbrev pub returned : Option Value → Held
returned None = Plain givens.Nothing
returned (Some v) = held v

-- what a way out comes to is the machine's own jump over the rest of the work
abbrev pub way_to : Context → List Item → List Held → Way → low.State → Option Next
way_to k w s (ByExit j) t = exit_to (exit_kind k j) w s t
way_to k w s (ByReturn v) t = Some (left w (returned v) s t.memory t.inputs)
way_to k w s (ByGoto l) t = Some (jumped l w s t.memory t.inputs)

pub break_is : (k : Context) → exit_kind k (break_level k) ≡ Some true
break_is InLoop = refl
break_is (InSwitch k) = refl
break_is (Past k) = break_is k

pub continue_is : (k : Context) → exit_kind k (continue_level k) ≡ Some false
continue_is InLoop = refl
continue_is (InSwitch k) = ap only_continue (continue_is k)
continue_is (Past k) = continue_is k

abbrev pub RestFollows : (ℕ → Bool) → TProgramTree → ℕ → Context → State → List Item → List Held → Outcome → Type 0
RestFollows over p n k s0 w s o = Follows over p n s0 (calls_in w) (RestGoal w s) (way_to k w s) o

-- ---- labels among lowered items

-- an expression's code is no label (by cases on the expression, a line for each form)
abbrev pub IsPlain : TProgramTree → ℕ → TStmtTree → Type 0
IsPlain p d (c.Expr at e) = (label : ℕ) → is_mark (meaning.AtLabel label) (lower_stmt p d InLoop (c.Expr at e)).code ≡ false
IsPlain p d item = Unit {0}

abbrev pub ArePlain : TProgramTree → ℕ → TStmtTrees → Type 0
ArePlain p d c.none = Unit {0}
ArePlain p d (c.more item rest) = IsPlain p d item × ArePlain p d rest

-- a statement that is a mark is lowered to that mark, and no other one is
pub mark_kept : (p : TProgramTree) (d : ℕ) (k : Context) (label : ℕ) (item : TStmtTree) → IsPlain p d item
    → is_mark (meaning.AtLabel label) (lower_stmt p d k item).code ≡ marks.is_mark (AtLabel label) item
mark_kept p d k label (c.Empty at) h = refl
mark_kept p d k label (c.Expr at e) h = h label
mark_kept p d k label (c.Block at kind xs items) h = refl
mark_kept p d k label (c.Declare at x inits z) h = refl
mark_kept p d k label (c.Static at x) h = refl
mark_kept p d k label (c.If at e a b) h = refl
mark_kept p d k label (c.While at e b) h = refl
mark_kept p d k label (c.DoWhile at b e) h = refl
mark_kept p d k label (c.For at xs head e step b) h = refl
mark_kept p d k label (c.Switch at e kind xs items) h = refl
mark_kept p d k label (c.Break at) h = refl
mark_kept p d k label (c.Continue at) h = refl
mark_kept p d k label (c.Goto at l) h = refl
mark_kept p d k label (c.Return at None) h = refl
mark_kept p d k label (c.Return at (Some e)) h = refl
mark_kept p d k label (c.Label at l) h = refl
mark_kept p d k label (c.Case at z) h = refl
mark_kept p d k label (c.Default at) h = refl

pub has_kept : (p : TProgramTree) (d : ℕ) (k : Context) (label : ℕ) (items : TStmtTrees) → ArePlain p d items
    → has (meaning.AtLabel label) (lower_items p d k items).items ≡ marks.has (AtLabel label) items
has_kept p d k label c.none h = refl
has_kept p d k label (c.more item rest) h = rw (mark_kept p d k label item h.0) (ap (λ z. if marks.is_mark (AtLabel label) item then true else z) (has_kept p d k label rest h.1))

module _ (over : ℕ → Bool) (p : TProgramTree) (plan : Plan) where
  -- ---- ways out pass what is still to be done

  past_exit : (z : Option Bool) (b : TStmtTree) (w : List Item) (s : List Held) (s0 : State) (t : low.State) → ToSome p s0 (exit_to z (Do b ∷ w) s t) → ToSome p s0 (exit_to z w s t)
  past_exit None b w s s0 t h = h
  past_exit (Some true) b w s s0 t h = h
  past_exit (Some false) b w s s0 t h = h

  pub past_do : (k : Context) (b : TStmtTree) (w : List Item) (s : List Held) (s0 : State) (x : Way) (t : low.State) → ToSome p s0 (way_to k (Do b ∷ w) s x t) → ToSome p s0 (way_to k w s x t)
  past_do k b w s s0 (ByExit j) t h = past_exit (exit_kind k j) b w s s0 t h
  past_do k b w s s0 (ByReturn v) t h = h
  past_do k b w s s0 (ByGoto l) t h = h

  past_if : (z : Bool) (k : Context) (b : TStmtTree) (w : List Item) (s : List Held) (s0 : State) (x : Way) (t : low.State)
      → ToSome p s0 (way_to k (if z then w else Do b ∷ w) s x t) → ToSome p s0 (way_to k w s x t)
  past_if true k b w s s0 x t h = h
  past_if false k b w s s0 x t h = past_do k b w s s0 x t h

  pub past_does : (k : Context) (items : TStmtTrees) (w : List Item) (s : List Held) (s0 : State) (x : Way) (t : low.State)
      → ToSome p s0 (way_to k (does items w) s x t) → ToSome p s0 (way_to k w s x t)
  past_does k c.none w s s0 x t h = h
  past_does k (c.more item rest) w s s0 x t h = past_does k rest w s s0 x t (past_if (does_nothing item) k item (does rest w) s s0 x t h)

  past_close : (z : Option Bool) (xs : List ℕ) (items : TStmtTrees) (w : List Item) (s : List Held) (s0 : State) (t : low.State)
      → ToSome p s0 (exit_to z (Close xs items ∷ w) s t) → ToSome p s0 (exit_to z w s (leave xs t))
  past_close None xs items w s s0 t h = h
  past_close (Some true) xs items w s s0 t h = h
  past_close (Some false) xs items w s s0 t h = h

  -- what leaves a block ends its objects
  abbrev pub Inside : ℕ → Context → State → List ℕ → TStmtTrees → List Item → List Held → Outcome → Type 0
  Inside n k s0 xs items w s o = Follows over p n s0 (calls_in w) (RestGoal (Close xs items ∷ w) s) (λ x t. way_to k w s x (leave xs t)) o

  -- a goto to a label of this block goes on behind it, while its objects live on
  jump_case : (n : ℕ) (k : Context) (xs : List ℕ) (label : ℕ) (items : TStmtTrees) (s0 : State) (w : List Item) (s : List Held) (t : low.State) (o : Outcome) (z : Bool)
      → marks.has (AtLabel label) items ≡ z → LeadsTo p s0 (jumped label (Close xs items ∷ w) s t.memory t.inputs)
      → ((u : State) → step p u ≡ goes (does (marks.behind (AtLabel label) items) (Close xs items ∷ w)) s t.memory t.inputs → Inside n k u xs items w s o)
      → Inside n k s0 xs items w s (if z then o else Leaves (ByGoto label) t)
  jump_case n k xs label items s0 w s t o true e (u, lead, f) ih =
      follows_after over p n s0 u (calls_in w) (RestGoal (Close xs items ∷ w) s) (λ x r. way_to k w s x (leave xs r)) o lead (ih u (rw e at f))
  jump_case n k xs label items s0 w s t o false e (u, lead, f) ih = (u, lead, rw e at f)

  pub caught_follows : (n : ℕ) (k : Context) (d : ℕ) (xs : List ℕ) (items : TStmtTrees) (s0 : State) (w : List Item) (s : List Held) (later : Later) (o : Outcome)
      → ArePlain p d items → RestFollows over p n k s0 (Close xs items ∷ w) s o
      → ((label : ℕ) (t : low.State) (u : State) → o ≡ Leaves (ByGoto label) t → step p u ≡ goes (does (marks.behind (AtLabel label) items) (Close xs items ∷ w)) s t.memory t.inputs
      → Inside n k u xs items w s (later.items (meaning.AtLabel label) (lower_items p d k items).items t))
      → Inside n k s0 xs items w s (caught later (lower_items p d k items).items o)
  caught_follows n k d xs items s0 w s later (Normal t) h g ih = g
  caught_follows n k d xs items s0 w s later (Leaves (ByExit j) t) h g ih = past_close (exit_kind k j) xs items w s s0 t g
  caught_follows n k d xs items s0 w s later (Leaves (ByReturn v) t) h g ih = g
  caught_follows n k d xs items s0 w s later (Leaves (ByGoto label) t) h g ih =
      jump_case n k xs label items s0 w s t _ (has (meaning.AtLabel label) (lower_items p d k items).items) (sym (has_kept p d k label items h)) g (λ u. ih label t u refl)
  caught_follows n k d xs items s0 w s later (Fails ch a kd o m) h g ih = g
  caught_follows n k d xs items s0 w s later outs.Waiting h g ih = g
  caught_follows n k d xs items s0 w s later outs.Stopped h g ih = g
  caught_follows n k d xs items s0 w s later Stuck h g ih = g
  caught_follows n k d xs items s0 w s later Clash h g ih = g
  caught_follows n k d xs items s0 w s later NoFuel h g ih = g
  caught_follows n k d xs items s0 w s later Over h g ih = g

  pub scope_follows : (n : ℕ) (k : Context) (xs : List ℕ) (items : TStmtTrees) (s0 : State) (w : List Item) (s : List Held) (o : Outcome)
      → Inside n k s0 xs items w s o → RestFollows over p n k s0 w s (at_scope xs o)
  scope_follows n k xs items s0 w s (Normal t) (u, lead, h) =
      (_, then_leads p s0 u _ lead (subst (λ x. Leads p x (state w s (shut_all t.memory xs) t.inputs)) (sym h) (one p _ _ refl)), refl)
  scope_follows n k xs items s0 w s (Leaves x t) h = h
  scope_follows n k xs items s0 w s (Fails ch a kd o m) h = h
  scope_follows n k xs items s0 w s outs.Waiting h = h
  scope_follows n k xs items s0 w s outs.Stopped h = h
  scope_follows n k xs items s0 w s Stuck h = h
  scope_follows n k xs items s0 w s Clash h = h
  scope_follows n k xs items s0 w s NoFuel h = h
  scope_follows n k xs items s0 w s Over h = h

  -- a goto itself, and a break and a continue
  pub goto_follows : (n : ℕ) (k : Context) (d : ℕ) (at : Pos) (label : ℕ) (w : List Item) (s : List Held) (t : low.State)
      → RestFollows over p n k (state (Do (c.Goto at label) ∷ w) s t.memory t.inputs) w s (Leaves (ByGoto label) t)
  goto_follows n k d at label w s t = (_, none p _, refl)

  pub break_follows : (n : ℕ) (k : Context) (at : Pos) (w : List Item) (s : List Held) (t : low.State)
      → RestFollows over p n k (state (Do (c.Break at) ∷ w) s t.memory t.inputs) w s (Leaves (ByExit (break_level k)) t)
  break_follows n k at w s t = rw (break_is k) (_, none p _, refl)

  pub continue_follows : (n : ℕ) (k : Context) (at : Pos) (w : List Item) (s : List Held) (t : low.State)
      → RestFollows over p n k (state (Do (c.Continue at) ∷ w) s t.memory t.inputs) w s (Leaves (ByExit (continue_level k)) t)
  continue_follows n k at w s t = rw (continue_is k) (_, none p _, refl)
