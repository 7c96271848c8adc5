-- What a call of a function may set.
use Rattle.std.specs.Prelude.{◌≡◌, ℕ, ◌*◌, ◌<◌, [], Some, slice_get}
use Rattle.c_syntax.specs.declared.program.Plan.{Plan}
use Rattle.c_syntax.specs.Program.{TProgramTree}
use Rattle.c_steps_laws.specs.Fits.{Runs}
use Rattle.csharp.specs.Trees.{CsFunctionTree}
use Rattle.csharp.specs.Formed.{gathered}
use Rattle.csharp_laws.specs.LeftAlone.{May, calls_of, temps_within}
use Rattle.lower_trees.specs.LowerProgram.{lower, lower_order, top_in}

-- itself or by what it calls in turn, it sets temporaries below its last row alone
abbrev pub CallsSetBelow : Type 0
CallsSetBelow = (p : TProgramTree) (plan : Plan) → Runs p plan
    → (f : ℕ) (function : CsFunctionTree) → slice_get (lower p plan).functions f ≡ Some function
    → (d : ℕ) → May (lower p plan) temps_within d (temps_within function) (gathered calls_of function.body) → d < 12 * top_in (lower_order p plan.order []) f
