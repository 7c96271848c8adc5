use Rattle.std.proofs.Common.{rules, ◌≡◌, ◌<◌, ◌∙◌, sym, ap, arith, map, length}
use Rattle.std.proofs.lemmas.Grind.{common_steps}
use Rattle.c_syntax.specs.declared.statement.TStmt.TheViews.{the_lemmas}
use Rattle.c_syntax.specs.Types.{object_tree}
use Rattle.c_syntax.specs.TypedStmt.{tstmt_tree, tstmts_from, tstmts_tree}
use Rattle.c_syntax.specs.Sizes.{tstmt_size, tstmts_size}
use Rattle.c_syntax.proofs.Sizes.{tstmts_item}
use Rattle.c_typing.specs.Settled.{settled_stmt, settled_stmts}
use Rattle.c_check_functions.proofs.SettledLists.{all_settled, in_front, left_as_given, none_settled, one_settled, stmts_settled}
use Rattle.c_check_functions.proofs.Items.{block_falls, block_settled, for_falls, for_settled, switch_falls, switch_settled}
use Rattle.c_check_functions.proofs.stmts.+settles.Goals as goal

pub settle_stmt-settle_stmts-requires : goal.settle_stmt-settle_stmts-requires
settle_stmt-settle_stmts-requires t c =
    let falls = block_falls c.args.stmt.now c.in-Block.pos c.in-Block.kind c.in-Block.objects c.in-Block.items c.in-Block.is in
    rw c.in-Block.items-is (omega (arith, falls, c.decreases), tt)

pub settle_stmt-settle_stmts-requires-in-Switch : goal.settle_stmt-settle_stmts-requires-in-Switch
settle_stmt-settle_stmts-requires-in-Switch t c =
    let falls = switch_falls c.args.stmt.now c.in-Switch.pos c.in-Switch.value c.in-Switch.kind c.in-Switch.objects c.in-Switch.items c.in-Switch.is in
    rw c.in-Switch.items-is (omega (arith, falls, c.decreases), tt)

pub settle_stmt-settle_stmts-requires-in-For : goal.settle_stmt-settle_stmts-requires-in-For
settle_stmt-settle_stmts-requires-in-For t c =
    let falls = for_falls c.args.stmt.now c.in-For.pos c.in-For.objects c.in-For.head c.in-For.condition c.in-For.step c.in-For.body c.in-For.is in
    rw c.in-For.head-is (omega (arith, falls, c.decreases), tt)

pub settle_stmt-returns-in-Block : goal.settle_stmt-returns-in-Block
settle_stmt-returns-in-Block t c =
    block_settled _ c.args.stmt.now c.settle_stmts.result (map object_tree c.args.objects.now) c.in-Block.pos c.in-Block.kind c.in-Block.objects
    c.in-Block.items c.settle_stmts.new.list (rw c.in-Block.is (search (rules, the_lemmas))) c.in-Block.is (rw c.in-Block.items-is at c.settle_stmts.ensures)

pub settle_stmt-returns-in_ok-settle_expr-in-Switch : goal.settle_stmt-returns-in_ok-settle_expr-in-Switch
settle_stmt-returns-in_ok-settle_expr-in-Switch t c =
    switch_settled _ c.args.stmt.now c.settle_stmts-in-Switch.result (map object_tree c.args.objects.now) c.in-Switch.pos c.in-Switch.value
    c.settle_expr-in-Switch.new.e c.in-Switch.kind c.in-Switch.objects c.in-Switch.items c.settle_stmts-in-Switch.new.list
    (rw c.in-Switch.is (search (rules, the_lemmas))) c.in-Switch.is
    (rw c.in-Switch.value-is at c.in_ok-settle_expr-in-Switch.ensures) (rw c.in-Switch.items-is at c.settle_stmts-in-Switch.ensures)

pub settle_stmt-returns-in_ok-settle_stmts-in-For : goal.settle_stmt-returns-in_ok-settle_stmts-in-For
settle_stmt-returns-in_ok-settle_stmts-in-For t c =
    for_settled _ c.args.stmt.now c.settle_stmt-in-For.result (map object_tree c.args.objects.now) c.in-For.pos c.in-For.objects
    c.in-For.head c.settle_stmts-in-For.new.list c.in-For.condition c.settle_option-in-For.new.value c.in-For.step c.settle_option-in-For-2.new.value
    c.in-For.body (record c.in-For.body { value = c.settle_stmt-in-For.new.stmt })
    (rw c.in-For.is (search (rules, the_lemmas))) c.in-For.is
    (rw c.in-For.condition-is at c.in_ok-settle_option-in-For.ensures) (rw c.in-For.step-is at c.in_ok-settle_option-in-For-2.ensures)
    (rw c.in-For.head-is at c.in_ok-settle_stmts-in-For.ensures)
    (rw c.in-For.body-is at (rw c.deref_mut-in-For.ensures.value at c.settle_stmt-in-For.ensures))

pub settle_stmts-loop-item-init : goal.settle_stmts-loop-item-init
settle_stmts-loop-item-init t c = sym (none_settled (settled_stmt (map object_tree c.args.objects.now)) (map tstmt_tree c.deref_mut-item-items.result.now))

pub settle_stmts-settle_stmt-requires : goal.settle_stmts-settle_stmt-requires
settle_stmts-settle_stmt-requires t c =
    let given = c.deref_mut-item-items.result.now in
    let here : c.loop-item.item-index < length given = omega arith in
    let same = left_as_given tstmt_tree (settled_stmt (map object_tree c.args.objects.now)) c.loop-item.item-items given
    c.loop-item.item-index c.item-item.result (omega arith) c.loop-item.invariant in
    let falls = tstmts_item given c.loop-item.item-index c.item-item.result here in
    let whole : tstmts_from given ≡ tstmts_tree c.args.list.now =
    ap tstmts_from c.deref_mut-item-items.ensures.value ∙ c.into_vec-items.ensures ∙ ap tstmts_tree c.replace.ensures.value in
    (let size = ap tstmt_size same in let all = ap tstmts_size whole in omega (arith, size, all, falls, c.decreases), tt)

pub settle_stmts-loop-item-preserved : goal.settle_stmts-loop-item-preserved
settle_stmts-loop-item-preserved t c =
    one_settled tstmt_tree (settled_stmt (map object_tree c.args.objects.now)) c.loop-item.item-items (map tstmt_tree c.deref_mut-item-items.result.now)
    c.loop-item.item-index c.item-item.result c.settle_stmt.new.stmt (omega arith) c.loop-item.invariant c.item-item.is
    (c.in_ok-settle_stmt.ensures ∙ ap (λ e. settled_stmt (map object_tree c.args.objects.now) (tstmt_tree e)) (sym c.item-item.is))

pub settle_stmts-returns : goal.settle_stmts-returns
settle_stmts-returns t c =
    let objects = map object_tree c.args.objects.now in
    let given = c.deref_mut-item-items.result.now in
    let items = c.loop-item.item-items in
    let done : map tstmt_tree items ≡ map (settled_stmt objects) (map tstmt_tree given) =
    c.loop-item.invariant ∙ all_settled (settled_stmt objects) c.loop-item.item-index (map tstmt_tree given) (grind (arith, common_steps)) in
    c.from_vec.ensures ∙ ap tstmts_from (in_front _ items _ (omega arith)) ∙ stmts_settled objects items given done
    ∙ ap (settled_stmts objects) (ap tstmts_from c.deref_mut-item-items.ensures.value ∙ c.into_vec-items.ensures ∙ ap tstmts_tree c.replace.ensures.value)
