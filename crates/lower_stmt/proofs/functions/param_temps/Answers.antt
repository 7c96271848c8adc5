use Rattle.std.proofs.Common.{◌+◌, ◌++◌, drop, ap, ◌∙◌}
use Rattle.c_syntax.specs.Program.{tprogram_tree}
use Rattle.lower_trees.specs.LowerProgram.{param_temps}
use Rattle.lower_trees.specs.Temps.{temp_at}
use Rattle.lower_stmt.proofs.Items.{temp_more}
use Rattle.lower_stmt.proofs.functions.param_temps.Goals as goal

pub loop-object-preserved : goal.loop-object-preserved
loop-object-preserved c =
    ap (λ xs. xs ++ param_temps (tprogram_tree c.args.program.now) c.in_ok-row.row (drop (c.loop-object.object-index + 1) c.args.params.now))
    c.in_ok-push.ensures.items
    ∙ temp_more (tprogram_tree c.args.program.now) c.loop-object.row c.in_ok-row.row c.in_ok-temp.temp c.loop-object.temps.items c.args.params.now
    c.loop-object.object-index _ c.loop-object-test.true c.in_ok-row.ensures
    (c.in_ok-temp.ensures.value ∙ ap (temp_at c.loop-object.row) c.param_scalar-ty.ensures) c.loop-object.invariant
