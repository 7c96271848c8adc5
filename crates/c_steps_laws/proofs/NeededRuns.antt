-- The states of a run, from the first one on.
use Rattle.std.proofs.Common.{subst}
use Rattle.c_steps.specs.States.{Next}
use Rattle.c_steps_laws.proofs.Rules.{On}
use Rattle.c_steps_laws.proofs.Runs.{is_runnable}
use Rattle.c_steps_laws.proofs.Start as start
use Rattle.c_steps_laws.proofs.Steps.{step_keeps, fits_goes}
use Rattle.c_steps_laws.specs.Laws.{StartsFit, StepsKeepFitting, FittingStatesStep}

pub starts_fit : StartsFit
starts_fit p plan w ok bits inputs = start.fits_start p plan (record { typed = w; planned = ok; bits = bits }) inputs

pub steps_keep_fitting : StepsKeepFitting
steps_keep_fitting p plan w ok s t h e = subst (λ (n : Next). On p n) e (step_keeps p (is_runnable p plan w ok) s h)

pub fitting_states_step : FittingStatesStep
fitting_states_step p plan w ok s h e = fits_goes p (is_runnable p plan w ok) s h e
