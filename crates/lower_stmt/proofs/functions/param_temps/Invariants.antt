use Rattle.std.proofs.Common.{◌≡◌, ◌++◌}
use Rattle.std.specs.Prelude.{drop}
use Rattle.c_syntax.specs.Program.{tprogram_tree}
use Rattle.lower_trees.specs.LowerProgram as programs
use Rattle.lower_stmt.proofs.functions.param_temps.Given as goal

abbrev pub invariant-loop-object : goal.invariant-loop-object
invariant-loop-object l =
    l.temps.items ++ programs.param_temps (tprogram_tree l.program) l.row (drop l.object-index l.params)
    ≡ programs.param_temps (tprogram_tree l.program) l.d l.params
