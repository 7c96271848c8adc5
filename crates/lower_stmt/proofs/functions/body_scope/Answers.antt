use Rattle.std.proofs.Common.{◌≡◌, ap, subst, ◌∙◌, arith}
use Rattle.std.specs.Prelude.{IfOk}
use Rattle.std.proofs.Math.ListN.{drop_of_length-le}
use Rattle.c_syntax.specs.Program.{tprogram_tree}
use Rattle.csharp.specs.Trees.{csstmt_tree, more, none}
use Rattle.lower_nodes.specs.Parts.{coded_tree}
use Rattle.lower_trees.specs.LowerProgram.{param_stores}
use Rattle.lower_trees.specs.LowerStmt.{scope_code}
use Rattle.lower_stmt.specs.Views.{items_more, listed_before, no_items}
use Rattle.lower_stmt.proofs.Items.{param_more, params_end, params_before, same_items}
use Rattle.lower_stmt.proofs.functions.body_scope.Goals as goal

pub loop-object-init : goal.loop-object-init
loop-object-init c = λ rest. c.new-listed.ensures (params_before (tprogram_tree c.args.program.now) c.args.d c.as_slice-object-items.result.now rest)

pub loop-object-preserved : goal.loop-object-preserved
loop-object-preserved c = λ rest.
    param_more (tprogram_tree c.args.program.now) c.loop-object.row c.in_ok-row.row c.loop-object.listed c.push.new.self
    c.as_slice-object-items.result.now c.loop-object.object-index (csstmt_tree c.in_ok-store.store) rest _ c.loop-object-test.true
    c.in_ok-row.ensures c.in_ok-store.ensures
    (λ behind. c.in_ok-push.ensures behind ∙ ap (λ x. listed_before c.loop-object.listed (items_more x behind)) c.only.ensures)
    (c.loop-object.invariant rest)

pub returns : goal.returns
returns c =
    let p = tprogram_tree c.args.program.now in
    let last = items_more (coded_tree c.args.body) (no_items 0) in
    subst (λ all. IfOk c.scope.result (λ x. coded_tree x ≡ scope_code c.args.params.now all))
    (c.finish.ensures ∙ c.in_ok-push-2.ensures (no_items 0)
    ∙ params_end p c.loop-object.row c.loop-object.listed _ last _ (drop_of_length-le c.as_slice-object-items.result.now c.loop-object-test.false)
    (c.loop-object.invariant last)
    ∙ same_items _ _ _ _ (ap (λ xs. param_stores p c.args.d xs (more (csstmt_tree c.args.body.code) none)) c.as_slice-object-items.ensures) (omega arith))
    c.scope.ensures
