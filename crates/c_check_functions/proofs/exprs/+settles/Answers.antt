use Rattle.std.proofs.Common.{◌≡◌, ◌<◌, ◌∙◌, sym, ap, arith, map, length}
use Rattle.std.proofs.lemmas.Grind.{common_steps}
use Rattle.std.proofs.Common.{rules}
use Rattle.c_syntax.specs.declared.typed.TExpr.TheViews.{the_lemmas}
use Rattle.c_syntax.specs.Types.{object_tree}
use Rattle.c_syntax.specs.TypedExpr.{texpr_tree, texprs_from, texprs_tree}
use Rattle.c_syntax.specs.Sizes.{texpr_size, texprs_size}
use Rattle.c_syntax.proofs.Sizes.{texprs_item}
use Rattle.c_typing.specs.Settled.{settled_expr, settled_exprs}
use Rattle.c_check_functions.proofs.SettledLists.{all_settled, exprs_settled, in_front, left_as_given, none_settled, one_settled}
use Rattle.c_check_functions.proofs.Calls.{args_fall, call_settled}
use Rattle.c_check_functions.proofs.exprs.+settles.Goals as goal

pub settle_expr-settle_exprs-requires : goal.settle_expr-settle_exprs-requires
settle_expr-settle_exprs-requires t c =
    let falls = args_fall c.args.e.now c.in-Call.pos c.in-Call.function c.in-Call.ty c.in-Call.used c.in-Call.args c.in-Call.is in
    rw c.in-Call.args-is (omega (arith, falls, c.decreases), tt)

pub settle_expr-returns-in-Call : goal.settle_expr-returns-in-Call
settle_expr-returns-in-Call t c =
    call_settled _ c.settle_exprs.result (map object_tree c.args.objects.now) c.args.e.now c.in-Call.pos c.in-Call.function c.in-Call.ty c.in-Call.used c.in-Call.args c.settle_exprs.new.list
    (rw c.in-Call.is (search (rules, the_lemmas))) c.in-Call.is (rw c.in-Call.args-is at c.settle_exprs.ensures)

pub settle_exprs-loop-item-init : goal.settle_exprs-loop-item-init
settle_exprs-loop-item-init t c = sym (none_settled (settled_expr (map object_tree c.args.objects.now)) (map texpr_tree c.deref_mut-item-items.result.now))

pub settle_exprs-settle_expr-requires : goal.settle_exprs-settle_expr-requires
settle_exprs-settle_expr-requires t c =
    let given = c.deref_mut-item-items.result.now in
    let here : c.loop-item.item-index < length given = omega arith in
    let same = left_as_given texpr_tree (settled_expr (map object_tree c.args.objects.now)) c.loop-item.item-items given
    c.loop-item.item-index c.item-item.result (omega arith) c.loop-item.invariant in
    let falls = texprs_item given c.loop-item.item-index c.item-item.result here in
    let whole : texprs_from given ≡ texprs_tree c.args.list.now =
    ap texprs_from c.deref_mut-item-items.ensures.value ∙ c.into_vec-items.ensures ∙ ap texprs_tree c.replace.ensures.value in
    (let size = ap texpr_size same in let all = ap texprs_size whole in omega (arith, size, all, falls, c.decreases), tt)

pub settle_exprs-loop-item-preserved : goal.settle_exprs-loop-item-preserved
settle_exprs-loop-item-preserved t c =
    one_settled texpr_tree (settled_expr (map object_tree c.args.objects.now)) c.loop-item.item-items (map texpr_tree c.deref_mut-item-items.result.now)
    c.loop-item.item-index c.item-item.result c.settle_expr.new.e (omega arith) c.loop-item.invariant c.item-item.is
    (c.in_ok-settle_expr.ensures ∙ ap (λ e. settled_expr (map object_tree c.args.objects.now) (texpr_tree e)) (sym c.item-item.is))

pub settle_exprs-returns : goal.settle_exprs-returns
settle_exprs-returns t c =
    let objects = map object_tree c.args.objects.now in
    let given = c.deref_mut-item-items.result.now in
    let items = c.loop-item.item-items in
    let done : map texpr_tree items ≡ map (settled_expr objects) (map texpr_tree given) =
    c.loop-item.invariant ∙ all_settled (settled_expr objects) c.loop-item.item-index (map texpr_tree given) (grind (arith, common_steps)) in
    c.from_vec.ensures ∙ ap texprs_from (in_front _ items _ (omega arith)) ∙ exprs_settled objects items given done
    ∙ ap (settled_exprs objects) (ap texprs_from c.deref_mut-item-items.ensures.value ∙ c.into_vec-items.ensures ∙ ap texprs_tree c.replace.ensures.value)
