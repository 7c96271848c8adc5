-- What the code of an expression leaves on the machine's stack, and tests and branches of it.
use Rattle.std.specs.Prelude.{Bool, true, false, if◌then◌else◌}
use Rattle.std.proofs.Common.{◌≡◌, ℕ, zero, suc, ◌<◌, List, ◌∷◌, length, Option, Some, None, refl, sym, ◌∙◌, subst, ap}
use Rattle.c_syntax_written.specs.declared.place.Pos.{Pos}
use Rattle.c_syntax.specs.declared.program.Plan.{Plan}
use Rattle.c_syntax.specs.Program.{TProgramTree}
use Rattle.c_layout.specs.Plans.{IsPlanFor}
use Rattle.c_layout.specs.WellTyped.{IsWellTyped}
use Rattle.c_layout.specs.Checks.{test_checks}
use Rattle.block_mem.specs.declared.types.Scalar.{Scalar}
use Rattle.block_mem.specs.declared.types.Scalar.TheVariants as scalars
use Rattle.block_mem.specs.declared.types.Value.{Value}
use Rattle.block_mem.specs.declared.types.Value.TheVariants as values
use Rattle.c_values.specs.Accesses.{test_looks}
use Rattle.c_values.specs.Looks.{Passes, judge}
use Rattle.c_values.specs.Values.{plain_type, truth}
use Rattle.c_steps.specs.Work.{Item}
use Rattle.c_steps.specs.States.{Held, Struct, State, state, held}
use Rattle.c_steps.specs.Steps.{step}
use Rattle.c_steps.specs.Runs.{calls_in, chain_of}
use Rattle.c_steps_laws.specs.Fits.{Fits}
use Rattle.c_steps_laws.specs.Wants.{Want, Of, OfStruct, Anything}
use Rattle.csharp.specs.Trees as code
use Rattle.csharp.specs.Trees.{CsExprTree, Temp, CsStmtTree}
use Rattle.csharp.specs.States as low
use Rattle.csharp.specs.States.{value_of}
use Rattle.csharp.specs.Actions.{put}
use Rattle.csharp.specs.Outcomes as outs
use Rattle.csharp.specs.Outcomes.{Way, ByExit, ByGoto, ByReturn, Outcome, Normal, Leaves, Fails, Stuck, Clash, NoFuel, Over, then_do, at_block}
use Rattle.lower_trees.specs.Checking.{checks, test_list, test_value, plain_one}
use Rattle.lower_trees.specs.LowerExpr.{Lowered, when_value, branch}
use Rattle.lower_rows.proofs.Steps.{Leads, Follows, none, follows_after, follows_then, follows_map, fits_leads}
use Rattle.lower_rows.proofs.Rows.{ValueGoal, ValueFollows, no_way, run, set_here, checks_follow, all_mapped}
use Rattle.lower_rows.proofs.Sim.{kept}
use Rattle.lower_rows.proofs.Tests.{Onward, StepGoal, exit_at, Tested, IsTest, looks_test}

-- what is held is what the expression's value is: a value; the address of a struct's bytes; or anything
abbrev pub Holds : Want → Option Value → Held → Type 0
Holds (Of ty) o h = (v : Value) × (o ≡ Some v) × (h ≡ held v)
Holds OfStruct o h = (from : Pos) × (v : Value) × (o ≡ Some v) × (h ≡ Struct from v)
Holds Anything o h = Unit {0}

abbrev pub HeldGoal : Want → CsExprTree → List Item → List Held → low.State → State → Type 0
HeldGoal want a w s t u = (h : Held) × Holds want (value_of a t) h × (u ≡ state w (h ∷ s) t.memory t.inputs)

abbrev pub HeldFollows : (ℕ → Bool) → TProgramTree → ℕ → State → List Item → List Held → Want → CsExprTree → Outcome → Type 0
HeldFollows over p n s0 w s want a o = Follows over p n s0 (calls_in w) (HeldGoal want a w s) no_way o

module _ (over : ℕ → Bool) (p : TProgramTree) (plan : Plan) (n : ℕ) where
  -- another goal that is as near
  pub follows_goal : (s0 : State) (chain : List Pos) (goal goal' : low.State → State → Type 0) (o : Outcome) → ((t : low.State) (u : State) → goal t u → goal' t u)
      → Follows over p n s0 chain goal no_way o → Follows over p n s0 chain goal' no_way o
  follows_goal s0 chain goal goal' o f h = follows_map over p n s0 chain goal goal' no_way no_way o h (λ t u l g. (u, none p u, f t u g)) (λ k t x. x)

  pub from_value : (s0 : State) (w : List Item) (s : List Held) (ty : Scalar) (want : Want) (a : CsExprTree) (o : Outcome) → want ≡ Of ty → ValueFollows over p n s0 w s a o → HeldFollows over p n s0 w s want a o
  from_value s0 w s ty want a o e h =
      subst (λ z. HeldFollows over p n s0 w s z a o) (sym e)
      (follows_goal s0 (calls_in w) (ValueGoal a w s) (HeldGoal (Of ty) a w s) o (λ t u g. (held g.0, (g.0, g.1, refl), g.2)) h)

  pub as_value : (s0 : State) (w : List Item) (s : List Held) (ty : Scalar) (want : Want) (a : CsExprTree) (o : Outcome) → want ≡ Of ty → HeldFollows over p n s0 w s want a o → ValueFollows over p n s0 w s a o
  as_value s0 w s ty want a o e h =
      follows_goal s0 (calls_in w) (HeldGoal (Of ty) a w s) (ValueGoal a w s) o
      (λ t u g. let k = g.1 in (k.0, k.1, g.2 ∙ ap (λ z. state w (z ∷ s) t.memory t.inputs) k.2))
      (subst (λ z. HeldFollows over p n s0 w s z a o) e h)

  -- what is held, whatever it is
  pub any_held : (s0 : State) (w : List Item) (s : List Held) (want : Want) (a c : CsExprTree) (o : Outcome) → HeldFollows over p n s0 w s want a o → HeldFollows over p n s0 w s Anything c o
  any_held s0 w s want a c o h = follows_goal s0 (calls_in w) (HeldGoal want a w s) (HeldGoal Anything c w s) o (λ t u g. (g.0, tt, g.2)) h

  -- an item that takes what is held off the stack, and what comes behind
  pub held_then : (ok : IsWellTyped p) (planned : IsPlanFor p plan) (s0 : State) (w : List Item) (s : List Held) (want : Want) (a : CsExprTree) (o : Outcome) (go : low.State → Outcome) (chain : List Pos)
      (goal : low.State → State → Type 0) → Fits p s0 → calls_in w ≡ chain → HeldFollows over p n s0 w s want a o
      → ((t : low.State) (h : Held) → o ≡ Normal t → Holds want (value_of a t) h → Fits p (state w (h ∷ s) t.memory t.inputs)
      → Follows over p n (state w (h ∷ s) t.memory t.inputs) chain goal no_way (go t))
      → Follows over p n s0 chain goal no_way (then_do o go)
  held_then ok planned s0 w s want a o go chain goal fits e h f =
      follows_then over p n s0 chain (HeldGoal want a w s) goal no_way no_way o go (subst (λ k. Follows over p n s0 k (HeldGoal want a w s) no_way o) e h)
      (λ t u is leads g. subst (λ x. Follows over p n x chain goal no_way (go t)) (sym g.2)
      (f t g.0 is g.1 (subst (λ x. Fits p x) g.2 (fits_leads p (kept over p plan n ok planned) s0 u leads fits)))) (λ k t x. absurd x)

  -- what is held goes into a temporary
  holds_temp : (want : Want) (a : CsExprTree) (d : ℕ) (t : low.State) (v : Value) (h : Held) → d < length t.temps → value_of a t ≡ Some v → Holds want (value_of a t) h → Holds want (value_of (Temp d) (put t d v)) h
  holds_temp (Of ty) a d t v h lt e (u, f, g) = (u, set_here t.temps d v lt ∙ sym e ∙ f, g)
  holds_temp OfStruct a d t v h lt e (from, u, f, g) = (from, u, set_here t.temps d v lt ∙ sym e ∙ f, g)
  holds_temp Anything a d t v h lt e g = tt

  abbrev pub HasValue : Want → Type 0
  HasValue (Of ty) = Unit {0}
  HasValue OfStruct = Unit {0}
  HasValue Anything = ⊥

  value_there : (want : Want) (o : Option Value) (h : Held) → HasValue want → Holds want o h → (v : Value) × (o ≡ Some v)
  value_there (Of ty) o h k (v, e, g) = (v, e)
  value_there OfStruct o h k (from, v, e, g) = (v, e)
  value_there Anything o h k g = absurd k

  pub held_spill : (s0 : State) (w : List Item) (s : List Held) (want : Want) (a : CsExprTree) (d : ℕ) (o : Outcome) → HasValue want
      → ((t : low.State) → o ≡ Normal t → d < length t.temps) → HeldFollows over p n s0 w s want a o
      → HeldFollows over p n s0 w s want (Temp d) (then_do o (λ t. run over p plan n (code.Set d a) t))
  held_spill s0 w s want a d o k room h =
      follows_then over p n s0 (calls_in w) (HeldGoal want a w s) (HeldGoal want (Temp d) w s) no_way no_way o _ h
      (λ t u is leads g. let x = value_there want (value_of a t) g.0 k g.1 in
      rw (x.1) (u, none p u, (g.0, holds_temp want a d t x.0 g.0 (room t is) x.1 g.1, g.2))) (λ k t x. absurd x)

  -- ---- a test that leaves where it is so

  if_so : (s0 : State) (chain : List Pos) (so not_so : Onward) (k : ℕ) (t : low.State) (z : Bool) → step p s0 ≡ (if z then so t.memory t.inputs else not_so t.memory t.inputs)
      → exit_at k so (ByExit k) t ≡ Some (so t.memory t.inputs) → Tested over p n s0 chain not_so so k (if z then Leaves (ByExit k) t else Normal t)
  if_so s0 chain so not_so k t true e x = rw x (s0, none p s0, e)
  if_so s0 chain so not_so k t false e x = (s0, none p s0, e)

  own_exit : (k : ℕ) (off : Onward) (t : low.State) → exit_at k off (ByExit k) t ≡ Some (off t.memory t.inputs)
  own_exit zero off t = refl
  own_exit (suc k) off t = own_exit k off t

  when_tested : (item : Item) (w : List Item) (s : List Held) (ty : Option Scalar) (a : CsExprTree) (chain : List Pos) (so not_so : Onward) (k : ℕ) (t : low.State) (v : Value)
      → value_of a t ≡ Some v → judge p.objects (test_looks t.memory ty v) ≡ Passes
      → step p (state (item ∷ w) (held v ∷ s) t.memory t.inputs) ≡ (if truth v then so t.memory t.inputs else not_so t.memory t.inputs)
      → Tested over p n (state (item ∷ w) (held v ∷ s) t.memory t.inputs) chain not_so so k (run over p plan n (code.If (test_value ty a) (code.Exit k) code.Nothing) t)
  when_tested item w s None a chain so not_so k t v e h f = rw e (if_so _ chain so not_so k t (truth v) f (own_exit k so t))
  when_tested item w s (Some (scalars.Int ty)) a chain so not_so k t v e h f = rw e (if_so _ chain so not_so k t (truth v) f (own_exit k so t))
  when_tested item w s (Some scalars.Pointer) a chain so not_so k t (values.Int u z) e h f = absurd (cc)
  when_tested item w s (Some scalars.Pointer) a chain so not_so k t (values.Ptr q) e h f = rw e (rw (own_exit k so t) (_, none p _, f))
  when_tested item w s (Some scalars.Pointer) a chain so not_so k t values.Null e h f = rw e (_, none p _, f)

  pub when_follows : (ok : IsWellTyped p) (planned : IsPlanFor p plan) (s0 : State) (item : Item) (w : List Item) (s : List Held) (at : Pos) (ty : Option Scalar) (a : Lowered) (l : low.State) (so not_so : Onward) (k : ℕ)
      → IsTest p at ty item w s so not_so → chain_of (item ∷ w) ≡ calls_in (item ∷ w)
      → ValueFollows over p n s0 (item ∷ w) s a.value (run over p plan n a.before l)
      → Tested over p n s0 (calls_in (item ∷ w)) not_so so k (run over p plan n (when_value ty a at k) l)
  when_follows ok planned s0 item w s at ty a l so not_so k test c h =
      follows_then over p n s0 (calls_in (item ∷ w)) (ValueGoal a.value (item ∷ w) s) (StepGoal p not_so) no_way (exit_at k so) _ _ h
      (λ t u is leads g. subst (λ x. Tested over p n x (calls_in (item ∷ w)) not_so so k
      (then_do (run over p plan n (checks (test_list at ty a.value)) t) (λ r. run over p plan n (code.If (test_value ty a.value) (code.Exit k) code.Nothing) r))) (sym g.2)
      (checks_follow over p plan n item w (held g.0 ∷ s) t at (test_list at ty a.value) (test_looks t.memory ty g.0) _ _ (calls_in (item ∷ w)) (StepGoal p not_so) (exit_at k so)
      (all_mapped over p plan n at (plain_one at a.value) (λ c. refl) (test_checks (plain_type ty))) (looks_test at ty a.value t g.0 g.1) c (test g.0 t.memory t.inputs)
      (λ passes f. when_tested item w s ty a.value (calls_in (item ∷ w)) so not_so k t g.0 g.1 passes f)))
      (λ k t x. absurd x)

  -- ---- two ways behind a test

  -- behind the first way both blocks are left
  first_done : (s0 : State) (chain : List Pos) (goal : low.State → State → Type 0) (o : Outcome) (second : low.State → Outcome) → Follows over p n s0 chain goal no_way o
      → Follows over p n s0 chain goal no_way (at_block (then_do (at_block (then_do o (λ r. Leaves (ByExit 1) r))) second))
  first_done s0 chain goal (Normal t) second h = h
  first_done s0 chain goal (Leaves x t) second h = absurd h
  first_done s0 chain goal (Fails c at k x m) second h = h
  first_done s0 chain goal outs.Waiting second h = h
  first_done s0 chain goal outs.Stopped second h = h
  first_done s0 chain goal Stuck second h = h
  first_done s0 chain goal Clash second h = h
  first_done s0 chain goal NoFuel second h = h
  first_done s0 chain goal Over second h = h

  second_done : (s0 : State) (chain : List Pos) (goal : low.State → State → Type 0) (o : Outcome) → Follows over p n s0 chain goal no_way o → Follows over p n s0 chain goal no_way (at_block o)
  second_done s0 chain goal (Normal t) h = h
  second_done s0 chain goal (Leaves x t) h = absurd h
  second_done s0 chain goal (Fails c at k x m) h = h
  second_done s0 chain goal outs.Waiting h = h
  second_done s0 chain goal outs.Stopped h = h
  second_done s0 chain goal Stuck h = h
  second_done s0 chain goal Clash h = h
  second_done s0 chain goal NoFuel h = h
  second_done s0 chain goal Over h = h

  branch_case : (s0 : State) (chain : List Pos) (on off : Onward) (goal : low.State → State → Type 0) (o : Outcome) (first second : low.State → Outcome) → Tested over p n s0 chain on off 0 o
      → ((t : low.State) (u : State) → o ≡ Normal t → Leads p s0 u → step p u ≡ on t.memory t.inputs → Follows over p n u chain goal no_way (first t))
      → ((t : low.State) (u : State) → o ≡ Leaves (ByExit zero) t → Leads p s0 u → step p u ≡ off t.memory t.inputs → Follows over p n u chain goal no_way (second t))
      → Follows over p n s0 chain goal no_way (at_block (then_do (at_block (then_do o (λ t. then_do (first t) (λ r. Leaves (ByExit 1) r)))) second))
  branch_case s0 chain on off goal (Normal t) first second (u, l, e) f g = first_done s0 chain goal (first t) second (follows_after over p n s0 u chain goal no_way (first t) l (f t u refl l e))
  branch_case s0 chain on off goal (Leaves (ByExit zero) t) first second (u, l, e) f g = second_done s0 chain goal (second t) (follows_after over p n s0 u chain goal no_way (second t) l (g t u refl l e))
  branch_case s0 chain on off goal (Leaves (ByExit (suc j)) t) first second h f g = absurd h
  branch_case s0 chain on off goal (Leaves (ByGoto l) t) first second h f g = absurd h
  branch_case s0 chain on off goal (Leaves (ByReturn v) t) first second h f g = absurd h
  branch_case s0 chain on off goal (Fails c at k x m) first second h f g = h
  branch_case s0 chain on off goal outs.Waiting first second h f g = h
  branch_case s0 chain on off goal outs.Stopped first second h f g = h
  branch_case s0 chain on off goal Stuck first second h f g = h
  branch_case s0 chain on off goal Clash first second h f g = h
  branch_case s0 chain on off goal NoFuel first second h f g = h
  branch_case s0 chain on off goal Over first second h f g = h

  pub branch_follows : (s0 : State) (chain : List Pos) (on off : Onward) (goal : low.State → State → Type 0) (test first second : CsStmtTree) (l : low.State)
      → Tested over p n s0 chain on off 0 (run over p plan n test l)
      → ((t : low.State) (u : State) → run over p plan n test l ≡ Normal t → Leads p s0 u → step p u ≡ on t.memory t.inputs → Follows over p n u chain goal no_way (run over p plan n first t))
      → ((t : low.State) (u : State) → run over p plan n test l ≡ Leaves (ByExit zero) t → Leads p s0 u → step p u ≡ off t.memory t.inputs → Follows over p n u chain goal no_way (run over p plan n second t))
      → Follows over p n s0 chain goal no_way (run over p plan n (branch test first second) l)
  branch_follows s0 chain on off goal test first second l h f g =
      branch_case s0 chain on off goal (run over p plan n test l) (λ t. run over p plan n first t) (λ t. run over p plan n second t) h f g
