use Rattle.std.proofs.Common.{ap, ◌∙◌}
use Rattle.std.proofs.Math.ListN.{drop_of_length-le}
use Rattle.c_syntax.specs.Program.{tprogram_tree}
use Rattle.csharp.specs.Trees.{Undefine}
use Rattle.csharp.proofs.CodeTrees.{csstmt_undefine}
use Rattle.lower_nodes.specs.Parts.{coded_tree}
use Rattle.lower_trees.specs.LowerStmt.{coded}
use Rattle.lower_stmt.specs.Views.{items_more, listed_before}
use Rattle.lower_stmt.proofs.Items.{init_more, inits_before, inits_end, no_rows_more}
use Rattle.lower_stmt.proofs.inits.lower_inits.Goals as goal

pub loop-init-init : goal.loop-init-init
loop-init-init c = λ rest.
    let all = inits_before (tprogram_tree c.args.program.now) c.args.d c.args.object c.as_slice-init-items.result.now rest in
    c.in_ok-push.ensures all
    ∙ ap (λ x. listed_before c.new-listed.result (items_more x all)) (c.only.ensures ∙ ap (λ s. coded s 0) (csstmt_undefine c.args.object))
    ∙ c.new-listed.ensures (items_more (coded (Undefine c.args.object) 0) all)
    ∙ no_rows_more (Undefine c.args.object) all

pub loop-init-preserved : goal.loop-init-preserved
loop-init-preserved c = λ rest.
    init_more (tprogram_tree c.args.program.now) c.args.d c.args.object c.loop-init.listed c.push-in-loop-init.new.self c.as_slice-init-items.result.now
    c.loop-init.init-index c.init-item.result (coded_tree c.in_ok-coded.coded) rest _ c.loop-init-test.true c.init-item.is c.in_ok-coded.ensures
    c.in_ok-push-2.ensures (c.loop-init.invariant rest)
