-- Runs of main with a bound, by the laws of statements.
use Rattle.std.proofs.Common.{◌≡◌, ◌⊎◌, inl, inr, ℕ, ℤ, List, Option, Some, None, Bool, refl, sym, ap, ◌∙◌}
use Rattle.std.specs.Prelude.{slice_get}
use Rattle.csharp.specs.Trees.{CsFunctionTree, CsProgramTree}
use Rattle.csharp.specs.States.{first}
use Rattle.csharp.specs.Outcomes.{NoFuel, Over, or_stuck}
use Rattle.csharp.specs.Meaning.{beyond, bounded_exec, exec}
use Rattle.csharp.proofs.Kept.{bound_is_same}
use Rattle.csharp_laws.specs.Runs.{BoundedRunIsSame, RunsHaveEnough}
use Rattle.csharp_laws.proofs.Enough.{fuel_is_enough}

bounded_main : (over : ℕ → Bool) (q : CsProgramTree) (fuel : ℕ) (inputs : List ℤ) (o : Option CsFunctionTree)
    → (or_stuck o (λ f. bounded_exec over q fuel f.body (first q inputs)) ≡ Over)
    ⊎ (or_stuck o (λ f. exec q fuel f.body (first q inputs)) ≡ or_stuck o (λ f. bounded_exec over q fuel f.body (first q inputs)))
bounded_main over q fuel inputs None = inr refl
bounded_main over q fuel inputs (Some f) = bound_is_same over q fuel f.body (first q inputs)

pub bounded_run_is_same : BoundedRunIsSame
bounded_run_is_same over q fuel inputs = bounded_main over q fuel inputs (slice_get q.functions q.main)

pub runs_have_enough : RunsHaveEnough
runs_have_enough bound q founded forward function is fuel inputs le e =
    fuel_is_enough bound q founded forward q.main function is fuel (first q inputs) le
    (sym (ap (λ o. or_stuck o (λ f. bounded_exec (beyond bound) q fuel f.body (first q inputs))) is) ∙ e)
