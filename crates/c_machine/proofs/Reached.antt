-- The states of a run, one after the other.
use Rattle.std.proofs.Common.{◌≡◌, ℕ, zero, suc, ℤ, List, refl, ap, ◌∙◌, subst}
use Rattle.c_syntax.specs.declared.program.Plan.{Plan}
use Rattle.c_syntax.specs.Program.{TProgramTree}
use Rattle.c_layout.specs.Plans.{IsPlanFor}
use Rattle.c_layout.specs.WellTyped.{IsWellTyped}
use Rattle.c_objects.specs.Statics.{AreEightBits}
use Rattle.c_steps.specs.States.{State, Next, Goes}
use Rattle.c_steps.specs.Steps.{step}
use Rattle.c_steps.specs.Runs.{IsReached, goes_on, moved_to, start, steps}
use Rattle.c_steps_laws.specs.Fits.{Fits}
use Rattle.c_steps_laws.proofs.NeededRuns.{starts_fit, steps_keep_fitting}

last_step : (p : TProgramTree) (n : ℕ) (s : State) → steps p (suc n) s ≡ goes_on p (steps p n s)
last_step p zero s = refl
last_step p (suc n) s = last_step p n (goes_on p s)

-- a step more
pub reached_next : (p : TProgramTree) (main : ℕ) (inputs : List ℤ) (s t : State) → IsReached p main inputs s → step p s ≡ Goes t → IsReached p main inputs t
reached_next p main inputs s t (n, at) e = (suc n, last_step p n (start p main inputs) ∙ ap (goes_on p) at ∙ ap (moved_to s) e)

module _ (p : TProgramTree) (plan : Plan) (typed : IsWellTyped p) (planned : IsPlanFor p plan) where
  moved_fits : (s : State) (next : Next) → step p s ≡ next → Fits p s → Fits p (moved_to s next)
  moved_fits s (Goes t) e h = steps_keep_fitting p plan typed planned s t h e
  moved_fits s next e h = h

  steps_fit : (n : ℕ) (s : State) → Fits p s → Fits p (steps p n s)
  steps_fit zero s h = h
  steps_fit (suc n) s h = steps_fit n (goes_on p s) (moved_fits s (step p s) refl h)

  -- a state that is reached fits
  pub reached_fits : (inputs : List ℤ) (s : State) → AreEightBits p.initial → IsReached p plan.main inputs s → Fits p s
  reached_fits inputs s bits (n, at) = subst (Fits p) at (steps_fit n (start p plan.main inputs) (starts_fit p plan typed planned bits inputs))
