use Rattle.std.proofs.Common.{◌≡◌, ◌∙◌, sym, ap, arith, map}
use Rattle.std.proofs.lemmas.Grind.{common_steps}
use Rattle.c_syntax.specs.Types.{object_tree}
use Rattle.c_syntax.specs.TypedStmt.{tinit_tree}
use Rattle.c_typing.specs.Settled.{settled_init}
use Rattle.c_check_functions.proofs.SettledLists.{all_settled, in_front, none_settled, one_settled}
use Rattle.c_check_functions.proofs.stmts.settle_inits.Goals as goal

pub loop-item-init : goal.loop-item-init
loop-item-init c = sym (none_settled (settled_init (map object_tree c.args.objects.now)) (map tinit_tree c.deref_mut-item-items.result.now))

pub loop-item-preserved : goal.loop-item-preserved
loop-item-preserved c =
    one_settled tinit_tree (settled_init (map object_tree c.args.objects.now)) c.loop-item.item-items (map tinit_tree c.deref_mut-item-items.result.now)
    c.loop-item.item-index c.item-item.result c.settle_init.new.item (omega arith) c.loop-item.invariant c.item-item.is
    (c.in_ok-settle_init.ensures ∙ ap (λ e. settled_init (map object_tree c.args.objects.now) (tinit_tree e)) (sym c.item-item.is))

pub returns : goal.returns
returns c =
    let objects = map object_tree c.args.objects.now in
    let given = c.deref_mut-item-items.result.now in
    let items = c.loop-item.item-items in
    let done : map tinit_tree items ≡ map (settled_init objects) (map tinit_tree given) =
    c.loop-item.invariant ∙ all_settled (settled_init objects) c.loop-item.item-index (map tinit_tree given) (grind (arith, common_steps)) in
    ap (map tinit_tree) (c.from_vec.ensures ∙ in_front _ items _ (omega arith)) ∙ done
    ∙ ap (λ xs. map (settled_init objects) (map tinit_tree xs)) (c.deref_mut-item-items.ensures.value ∙ c.into_vec-items.ensures ∙ c.replace.ensures.value)
