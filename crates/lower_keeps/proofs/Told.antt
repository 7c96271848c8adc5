-- Each outcome of a lowered program's runs tells of the machine's run.
use Rattle.std.proofs.Common.{◌≡◌, ℕ, suc, List, [], ◌∷◌, Some, None, refl, ap, ◌∙◌, ℤ, arith}
use Rattle.c_syntax.specs.declared.program.Plan.{Plan}
use Rattle.c_syntax.specs.Program.{TProgramTree}
use Rattle.c_steps.specs.States.{State, state, Next, held}
use Rattle.c_steps.specs.Steps.{step}
use Rattle.c_steps.specs.Runs.{start, after}
use Rattle.c_steps_laws.specs.Fits.{Runs}
use Rattle.csharp.specs.Meaning.{never, run}
use Rattle.csharp.specs.Outcomes as outs
use Rattle.csharp.specs.Outcomes.{ByExit, ByGoto, ByReturn, Outcome, Normal, Leaves, Fails, Stuck, Clash, NoFuel, Over}
use Rattle.csharp_laws.proofs.Separated.{formed_runs_never_clash}
use Rattle.lower_rows.proofs.Steps.{Leads, leads_on}
use Rattle.lower_formed.proofs.Whole.{lowered_is_formed}
use Rattle.lower_keeps.specs.Laws.{LoweredRunsTell, Tells}
use Rattle.lower_keeps.proofs.Main.{Comes, comes, end_work, q}
use Rattle.lower_keeps.proofs.Ends.{goes_below, moves_steps, never_over, no_stand, returned_at}

module _ (p : TProgramTree) (plan : Plan) (runs : Runs p plan) where
  -- the step of a state that is reached is that of the run after so many steps
  step_at : (i : List ℤ) (u : State) (next : Next) → Leads p (start p plan.main i) u → step p u ≡ next → (n : ℕ) × (step p (after p plan.main i n) ≡ next)
  step_at i u next (j, m) e = (j, ap (λ z. step p z) (moves_steps p plan runs j (start p plan.main i) u m) ∙ e)

  tells : (n : ℕ) (i : List ℤ) (o : Outcome) → (o ≡ Clash → ⊥) → Comes p plan runs never n i o → Tells p plan.main i n o
  tells n i (Normal t) nc (u, l, x) = x
  tells n i (Leaves (ByExit k) t) nc x = x
  tells n i (Leaves (ByGoto k) t) nc x = x
  tells n i (Leaves (ByReturn None) t) nc x = x
  tells n i (Leaves (ByReturn (Some v)) t) nc x =
      let u = state (end_work p plan runs) (held v ∷ []) t.memory t.inputs in
      let leads = leads_on p (start p plan.main i) u x in
      let k = returned_at p plan runs i t.inputs v t.memory leads in
      let at = step_at i u _ leads k.2 in
      (at.0, k.0, k.1, at.1)
  tells n i (Fails c a k o m) nc (u, (j, l), g, mem, chain) = (u, mem, record { reached = (j, moves_steps p plan runs j (start p plan.main i) u l); wrong = g; called = chain })
  tells n i outs.Waiting nc (u, l, g) = step_at i u _ l g
  tells n i outs.Stopped nc (u, l, g) = step_at i u _ l g
  tells n i Stuck nc (u, l, g) = no_stand p plan runs i u l g
  tells n i Clash nc x = nc refl
  tells n i NoFuel nc x = λ k le. goes_below p plan runs k (suc n) (start p plan.main i) (omega (arith, le)) x
  tells n i Over nc (u, l, x) = never_over u.work x

pub lowered_runs_tell : LoweredRunsTell
lowered_runs_tell p plan runs i n =
    tells p plan runs n i (run (q p plan runs) n i) (formed_runs_never_clash (q p plan runs) n i (lowered_is_formed p plan runs)) (comes p plan runs never refl n i)
