-- From the exact list of a lowered program to the typed program.
use Rattle.std.proofs.Common.{◌≡◌, ℕ, Some, sym, subst, ◌∙◌}
use Rattle.c_syntax.specs.Program.{TProgramTree}
use Rattle.c_layout.specs.MainFunction.{main_of}
use Rattle.c_steps.specs.Bounds.{Turns}
use Rattle.alarm_carried_laws.specs.Exact.{BoundedRunsAreTold}
use Rattle.lower_exact_laws.specs.Laws.{ExactAnalysesCarryOver, LoweredHasOneDefault, LoweredHasOwnSizes}

one_main : (p : TProgramTree) (m n : ℕ) → main_of p ≡ Some m → main_of p ≡ Some n → m ≡ n
one_main p m n is also = let e : Some m ≡ Some n = sym is ∙ also in cc

pub exact_analyses_carry_over : LoweredHasOneDefault → LoweredHasOwnSizes → BoundedRunsAreTold → ExactAnalysesCarryOver
exact_analyses_carry_over once sizes told p plan bound alarms runs lowers exact = λ free forwards main is turns.
    told p plan bound runs lowers free forwards (subst (λ m. Turns p m bound) (one_main p main plan.main is runs.planned.main) turns) alarms
    (exact (sizes p plan runs) (lowers.forward forwards) (once p plan runs))
