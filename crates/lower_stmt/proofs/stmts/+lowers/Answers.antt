use Rattle.std.proofs.Common.{◌≡◌, sym, ap, subst, ◌∙◌, arith}
use Rattle.std.specs.Prelude.{max, IfOk, option_map}
use Rattle.c_syntax.specs.TypedExpr.{texpr_tree}
use Rattle.c_syntax.specs.TypedStmt.{For, tstmt_tree, tstmts_tree}
use Rattle.c_syntax.proofs.TypedStmtTrees.{tstmt_for, tstmt_return}
use Rattle.c_syntax.specs.Sizes.{tstmt_size}
use Rattle.csharp.specs.Trees.{Scope}
use Rattle.std.proofs.Math.ListN.{drop_of_length-le}
use Rattle.c_syntax.specs.Program.{tprogram_tree}
use Rattle.lower_nodes.specs.Parts.{coded_tree}
use Rattle.lower_trees.specs.LowerStmt.{InLoop, coded, lower_items, lower_stmt, with_last}
use Rattle.lower_stmt.specs.Views.{context_tree}
use Rattle.lower_stmt.proofs.Items.{item_more, items_end, return_same}
use Rattle.lower_stmt.proofs.stmts.+lowers.Goals as goal

pub lower_items-loop-item-preserved : goal.lower_items-loop-item-preserved
lower_items-loop-item-preserved t c =
    item_more (tprogram_tree c.args.program.now) c.args.d (context_tree c.args.context.now) c.loop-item.listed c.push.new.self
    c.as_slice-item-items.result.now c.loop-item.item-index c.item-item.result (coded_tree c.in_ok-coded.coded) _ c.loop-item-test.true
    c.item-item.is c.in_ok-coded.ensures c.in_ok-push.ensures c.loop-item.invariant

pub lower_items-returns : goal.lower_items-returns
lower_items-returns t c =
    c.finish.ensures
    ∙ items_end (tprogram_tree c.args.program.now) c.args.d (context_tree c.args.context.now) c.loop-item.listed _ _
    (drop_of_length-le c.as_slice-item-items.result.now c.loop-item-test.false) c.loop-item.invariant
    ∙ ap (lower_items (tprogram_tree c.args.program.now) c.args.d (context_tree c.args.context.now)) c.as_slice-item-items.ensures

pub for_stmt-returns : goal.for_stmt-returns
for_stmt-returns t c =
    let head = lower_items (tprogram_tree c.args.program.now) c.args.d (context_tree c.args.context.now) (tstmts_tree c.args.head.now) in
    subst (λ x. IfOk c.for_loop.result (λ r. coded_tree r ≡ coded (Scope c.args.objects.now (with_last head.items x.code)) (max head.top x.top)))
    c.in_ok-coded.ensures c.for_loop.ensures

pub lower_stmt-returns-in-Return : goal.lower_stmt-returns-in-Return
lower_stmt-returns-in-Return t c =
    let p = tprogram_tree c.args.program.now in
    let k = context_tree c.args.context.now in
    subst (λ x. IfOk c.give.result (λ r. coded_tree r ≡ x))
    (return_same p c.args.d InLoop k c.in-Return.pos (option_map texpr_tree c.in-Return.value)
    ∙ ap (lower_stmt p c.args.d k) (sym (ap tstmt_tree c.in-Return.is ∙ tstmt_return c.in-Return.pos c.in-Return.value)))
    (c.give.ensures c.in-Return.pos)

pub lower_stmt-for_stmt-requires : goal.lower_stmt-for_stmt-requires
lower_stmt-for_stmt-requires t c =
    let is = ap tstmt_tree c.in-For.is ∙ tstmt_for c.in-For.pos c.in-For.objects c.in-For.head c.in-For.condition c.in-For.step c.in-For.body in
    let size = ap tstmt_size is in
    let body : c.deref-in-For.result.now ≡ c.in-For.body.value = c.deref-in-For.ensures in
    let same = ap (λ b. tstmt_size (tstmt_tree b)) body in
    (omega (arith, size, same, c.decreases), tt)

pub lower_stmt-returns-in-For : goal.lower_stmt-returns-in-For
lower_stmt-returns-in-For t c =
    let is = ap tstmt_tree c.in-For.is ∙ tstmt_for c.in-For.pos c.in-For.objects c.in-For.head c.in-For.condition c.in-For.step c.in-For.body in
    subst (λ x. IfOk c.for_stmt.result (λ r. coded_tree r ≡ lower_stmt (tprogram_tree c.args.program.now) c.args.d (context_tree c.args.context.now) x))
    (sym is)
    (subst
    (λ b. IfOk c.for_stmt.result (λ r. coded_tree r
    ≡ lower_stmt (tprogram_tree c.args.program.now) c.args.d (context_tree c.args.context.now)
    (For c.in-For.pos c.in-For.objects (tstmts_tree c.in-For.head) (option_map texpr_tree c.in-For.condition) (option_map texpr_tree c.in-For.step)
    (tstmt_tree b))))
    c.deref-in-For.ensures c.for_stmt.ensures)
