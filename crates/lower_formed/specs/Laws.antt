-- What holds of each program that is lowered from a typed one with its plan.
use Rattle.c_syntax.specs.declared.program.Plan.{Plan}
use Rattle.c_syntax.specs.Program.{TProgramTree}
use Rattle.c_steps.specs.Bounds.{IsForwardOnly}
use Rattle.c_steps_laws.specs.Fits.{Runs}
use Rattle.csharp.specs.Formed.{IsFormed, Throughout}
use Rattle.csharp_laws.specs.Enough as forward
use Rattle.lower_trees.specs.Correct.{IsOf}
use Rattle.lower_trees.specs.LowerProgram.{lower}

-- it is formed
abbrev pub LoweredIsFormed : Type 0
LoweredIsFormed = (p : TProgramTree) (plan : Plan) → Runs p plan → IsFormed (lower p plan)

-- each check, call, loop and label in it is made by a node of its function, at its place, and an input stands only where the source has one
abbrev pub LoweredIsMade : Type 0
LoweredIsMade = (p : TProgramTree) (plan : Plan) → Runs p plan → Throughout (λ f around a. IsOf p f a) (lower p plan)

-- where gotos of the source lead forwards, so do its own
abbrev pub LoweredLeadsForward : Type 0
LoweredLeadsForward = (p : TProgramTree) (plan : Plan) → Runs p plan → IsForwardOnly p → forward.IsForwardOnly (lower p plan)
