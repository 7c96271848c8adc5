-- What holds of each run of a program that is lowered from a typed one with its plan.
use Rattle.std.specs.Prelude.{◌≡◌, ◌≤◌, ℕ, ℤ, List, Some}
use Rattle.c_syntax_written.specs.declared.int_type.IntType.TheVariants as ints
use Rattle.c_syntax.specs.declared.program.Plan.{Plan}
use Rattle.c_syntax.specs.Program.{TProgramTree}
use Rattle.block_mem.specs.declared.types.Value.TheVariants as values
use Rattle.c_steps.specs.Runs.{after, GoesWrong}
use Rattle.c_steps.specs.States as machine
use Rattle.c_steps.specs.Steps.{step}
use Rattle.c_steps_laws.specs.Fits.{Runs}
use Rattle.csharp.specs.Meaning.{run}
use Rattle.csharp.specs.Outcomes as outs
use Rattle.csharp.specs.Outcomes.{Outcome, ByReturn}
use Rattle.lower_trees.specs.Correct.{Finishes, Keeps}
use Rattle.lower_trees.specs.LowerProgram.{lower}

-- it fails exactly the checks at which the machine goes wrong, and comes to the like ends
abbrev pub LoweringKeepsRuns : Type 0
LoweringKeepsRuns = (p : TProgramTree) (plan : Plan) → Runs p plan → (inputs : List ℤ) → Keeps p plan.main (lower p plan) inputs

-- where gotos lead forwards and loops turn within a bound, the machine's run comes to a last state
abbrev pub BoundedRunsFinish : Type 0
BoundedRunsFinish = (p : TProgramTree) (plan : Plan) → Runs p plan → Finishes p plan.main

-- What an outcome with so much fuel tells of the machine's run: a number with which it ends, something wrong, that it waits or is stopped, or that it makes
-- more steps than that. No other outcome tells anything
abbrev pub Tells : TProgramTree → ℕ → List ℤ → ℕ → Outcome → Type 0
Tells p main inputs fuel (outs.Leaves (ByReturn (Some v)) t) = (n : ℕ) × (z : ℤ) × (v ≡ values.Int ints.Int z) × (step p (after p main inputs n) ≡ machine.Ended z)
Tells p main inputs fuel (outs.Fails chain at kind operand m) = (s : machine.State) × (s.memory ≡ m) × GoesWrong p main inputs s chain at kind operand
Tells p main inputs fuel outs.Waiting = (n : ℕ) × (step p (after p main inputs n) ≡ machine.Waiting)
Tells p main inputs fuel outs.Stopped = (n : ℕ) × (step p (after p main inputs n) ≡ machine.Stopped)
Tells p main inputs fuel outs.NoFuel = (n : ℕ) → n ≤ fuel → (s : machine.State) × (step p (after p main inputs n) ≡ machine.Goes s)
Tells p main inputs fuel o = ⊥

-- each outcome of the lowered program's runs tells of the machine's: none is stuck, enters a scope that is open, or leaves main otherwise
abbrev pub LoweredRunsTell : Type 0
LoweredRunsTell = (p : TProgramTree) (plan : Plan) → Runs p plan → (inputs : List ℤ) (fuel : ℕ) → Tells p plan.main inputs fuel (run (lower p plan) fuel inputs)
