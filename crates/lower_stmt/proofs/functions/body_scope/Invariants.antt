use Rattle.std.proofs.Common.{◌≡◌}
use Rattle.std.specs.Prelude.{drop}
use Rattle.c_syntax.specs.Program.{tprogram_tree}
use Rattle.lower_trees.specs.LowerProgram as programs
use Rattle.lower_trees.specs.LowerStmt.{Items}
use Rattle.lower_stmt.specs.Views.{listed_before}
use Rattle.lower_stmt.proofs.functions.body_scope.Given as goal

abbrev pub invariant-loop-object : goal.invariant-loop-object
invariant-loop-object l = (rest : Items)
    → listed_before l.listed (record rest { items = programs.param_stores (tprogram_tree l.program) l.row (drop l.object-index l.object-items) rest.items })
    ≡ record rest { items = programs.param_stores (tprogram_tree l.program) l.d l.object-items rest.items }
