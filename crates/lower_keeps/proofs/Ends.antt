-- Where a run of the machine is at its end after so many steps, the outcome of the lowered program with as much fuel says the same of that state.
use Rattle.std.proofs.Common.{◌≡◌, ℕ, zero, suc, ◌<◌, List, [], ◌∷◌, Some, None, refl, sym, ap, ◌∙◌, ℤ, arith}
use Rattle.c_syntax_written.specs.declared.int_type.IntType.TheVariants as ints
use Rattle.c_syntax.specs.declared.program.Plan.{Plan}
use Rattle.c_syntax.specs.Program.{TProgramTree}
use Rattle.block_mem.specs.declared.types.Value.{Value}
use Rattle.block_mem.specs.declared.types.Value.TheVariants as values
use Rattle.c_values.specs.Places.{ObjectMemory}
use Rattle.c_steps.specs.Laws.{IsLast}
use Rattle.c_steps.specs.Work.{Item, Begin, Turn, Again}
use Rattle.c_steps.specs.States.{State, state, Next, Goes, Ended, Wrong, Stands, held}
use Rattle.c_steps.specs.States as machine
use Rattle.c_steps.specs.Steps.{step}
use Rattle.c_steps.specs.Runs.{moved_to, steps, start, after, chain_of}
use Rattle.c_steps.proofs.Last.{ends_once}
use Rattle.c_steps_laws.specs.Fits.{Fits, Runs}
use Rattle.c_steps_laws.proofs.NeededRows.{needs}
use Rattle.c_steps_laws.proofs.NeededRuns.{starts_fit, steps_keep_fitting, fitting_states_step}
use Rattle.csharp.specs.Outcomes as outs
use Rattle.csharp.specs.Outcomes.{ByExit, ByGoto, ByReturn, Outcome, Normal, Leaves, Fails, Stuck, Clash, NoFuel, Over}
use Rattle.csharp.specs.Meaning.{never, run}
use Rattle.csharp_laws.proofs.Separated.{formed_runs_never_clash}
use Rattle.lower_rows.proofs.Steps.{Moves, Leads, Alive, IsOver, leads_on, fits_leads}
use Rattle.lower_formed.proofs.Whole.{lowered_is_formed}
use Rattle.lower_keeps.proofs.Main.{Comes, comes, end_work, q}

-- no step goes on from here
abbrev pub IsEnd : Next → Type 0
IsEnd (Goes t) = ⊥
IsEnd next = Unit {0}

pub never_over : (w : List Item) → IsOver never w → ⊥
never_over (Begin k loop ∷ w) e = cc
never_over (Turn k loop ∷ w) e = cc
never_over (Again k loop ∷ w) e = cc
never_over w e = e

module _ (p : TProgramTree) (plan : Plan) (runs : Runs p plan) where
  pub is_last : (s : State) (next : Next) → IsEnd next → step p s ≡ next → IsLast p s
  is_last s (Goes u) h e t g = absurd h
  is_last s next h e t g = cc

  pub moves_steps : (j : ℕ) (s t : State) → Moves p j s t → steps p j s ≡ t
  moves_steps zero s t m = m
  moves_steps (suc j) s t (u, e, m) = ap (λ x. steps p j (moved_to s x)) e ∙ moves_steps j u t m

  -- the end that is reached is the one that is seen
  one_end : (n : ℕ) (i : List ℤ) (u : State) (x y : Next) → IsEnd x → IsEnd y → step p (after p plan.main i n) ≡ x → Leads p (start p plan.main i) u → step p u ≡ y → after p plan.main i n ≡ u
  one_end n i u x y hx hy e (j, m) g =
      let r = moves_steps j (start p plan.main i) u m in
      ends_once p plan.main i n j (is_last (after p plan.main i n) x hx e) (is_last (after p plan.main i j) y hy (ap (λ z. step p z) r ∙ g)) ∙ r

  -- a state from which so many steps are made has a step before each of them
  pub goes_below : (k n : ℕ) (s : State) → k < n → Alive p n s → (t : State) × (step p (steps p k s) ≡ Goes t)
  goes_below k zero s lt a = absurd (omega (arith, lt))
  goes_below zero (suc n) s lt (u, e, a) = (u, e)
  goes_below (suc k) (suc n) s lt (u, e, a) =
      let r = goes_below k n u (omega (arith, lt)) a in (r.0, ap (λ x. step p (steps p k (moved_to s x))) e ∙ r.1)

  pub fits_at : (i : List ℤ) (u : State) → Leads p (start p plan.main i) u → Fits p u
  fits_at i u leads = fits_leads p (λ x y h e. steps_keep_fitting p plan runs.typed runs.planned x y h e) (start p plan.main i) u leads (starts_fit p plan runs.typed runs.planned runs.bits i)

  pub no_stand : (i : List ℤ) (u : State) → Leads p (start p plan.main i) u → step p u ≡ Stands → ⊥
  no_stand i u leads e = fitting_states_step p plan runs.typed runs.planned u (fits_at i u leads) e

  -- what main returns is the number with which the run ends
  returned : (v : Value) (m : ObjectMemory) (i : List ℤ) → Fits p (state (end_work p plan runs) (held v ∷ []) m i)
      → (z : ℤ) × (v ≡ values.Int ints.Int z) × (step p (state (end_work p plan runs) (held v ∷ []) m i) ≡ Ended z)
  returned (values.Int t z) m i fits = let k = needs runs.typed fits in (z, ap (λ y. values.Int y z) k.0, refl)
  returned (values.Ptr x) m i fits = absurd (needs runs.typed fits)
  returned values.Null m i fits = absurd (needs runs.typed fits)

  pub returned_at : (i j : List ℤ) (v : Value) (m : ObjectMemory) → Leads p (start p plan.main i) (state (end_work p plan runs) (held v ∷ []) m j)
      → (z : ℤ) × (v ≡ values.Int ints.Int z) × (step p (state (end_work p plan runs) (held v ∷ []) m j) ≡ Ended z)
  returned_at i j v m leads = returned v m j (fits_at i (state (end_work p plan runs) (held v ∷ []) m j) leads)

  -- what an outcome says of the last state and of its step
  abbrev pub Says : State → Next → Outcome → Type 0
  Says s next (Leaves (ByReturn (Some v)) t) = (z : ℤ) × (v ≡ values.Int ints.Int z) × (next ≡ Ended z)
  Says s next (Fails c a k o m) = (next ≡ Wrong a k o) × (s.memory ≡ m) × (chain_of s.work ≡ c)
  Says s next outs.Waiting = next ≡ machine.Waiting
  Says s next outs.Stopped = next ≡ machine.Stopped
  Says s next o = ⊥

  same_next : (s u : State) (x y : Next) → s ≡ u → step p s ≡ x → step p u ≡ y → x ≡ y
  same_next s u x y e g h = sym g ∙ ap (λ z. step p z) e ∙ h

  no_end : (next : Next) (t : State) → IsEnd next → next ≡ Goes t → ⊥
  no_end (Goes u) t h e = h
  no_end next t h e = cc

  says : (n : ℕ) (i : List ℤ) (next : Next) (o : Outcome) → (o ≡ Clash → ⊥) → IsEnd next → step p (after p plan.main i n) ≡ next → Comes p plan runs never n i o → Says (after p plan.main i n) next o
  says n i next (Normal t) nc h e (u, l, x) = absurd x
  says n i next (Leaves (ByExit k) t) nc h e x = absurd x
  says n i next (Leaves (ByGoto k) t) nc h e x = absurd x
  says n i next (Leaves (ByReturn None) t) nc h e x = absurd x
  says n i next (Leaves (ByReturn (Some v)) t) nc h e x =
      let u = state (end_work p plan runs) (held v ∷ []) t.memory t.inputs in
      let leads = leads_on p (start p plan.main i) u x in
      let k = returned_at i t.inputs v t.memory leads in
      (k.0, k.1, same_next (after p plan.main i n) u next (Ended k.0) (one_end n i u next (Ended k.0) h tt e leads k.2) e k.2)
  says n i next (Fails c a k o m) nc h e (u, l, g, mem, chain) =
      let r = one_end n i u next (Wrong a k o) h tt e l g in
      (same_next (after p plan.main i n) u next (Wrong a k o) r e g, ap (λ (z : State). z.memory) r ∙ mem, ap (λ (z : State). chain_of z.work) r ∙ chain)
  says n i next outs.Waiting nc h e (u, l, g) = same_next (after p plan.main i n) u next machine.Waiting (one_end n i u next machine.Waiting h tt e l g) e g
  says n i next outs.Stopped nc h e (u, l, g) = same_next (after p plan.main i n) u next machine.Stopped (one_end n i u next machine.Stopped h tt e l g) e g
  says n i next Stuck nc h e (u, l, g) = absurd (no_stand i u l g)
  says n i next Clash nc h e x = nc refl
  says n i next NoFuel nc h e x = let r = goes_below n (suc n) (start p plan.main i) (omega arith) x in no_end next r.0 h (sym e ∙ r.1)
  says n i next Over nc h e (u, l, x) = never_over u.work x

  pub said : (n : ℕ) (i : List ℤ) (next : Next) → IsEnd next → step p (after p plan.main i n) ≡ next → Says (after p plan.main i n) next (run (q p plan runs) n i)
  said n i next h e = says n i next (run (q p plan runs) n i) (formed_runs_never_clash (q p plan runs) n i (lowered_is_formed p plan runs)) h e (comes p plan runs never refl n i)
