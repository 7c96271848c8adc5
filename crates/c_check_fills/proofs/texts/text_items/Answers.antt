use Rattle.std.proofs.Common.{◌+◌, ◌++◌, [], ◌∷◌, ap, sym, ◌∙◌, arith, drop, get_or, map}
use Rattle.std.proofs.lemmas.List.{append-nil, map-append, drop_more}
use Rattle.c_syntax.specs.TypedStmt.{tinit_tree}
use Rattle.c_typing.specs.Inits.{text_item, text_items}
use Rattle.c_check_fills.proofs.TextItems.{none_left, no_items, one_more}
use Rattle.c_check_fills.proofs.texts.text_items.Goals as goal

pub each-preserved : goal.each-preserved
each-preserved c =
    let at = c.args.at in
    let t = c.args.t in
    let text = c.args.text.now in
    let i = c.each.byte-index in
    let byte = get_or text i 0 in
    let rest = drop (i + 1) text in
    let done = map tinit_tree c.each.items.items in
    let left = text_items at t c.in_ok-next.next rest in
    ap (λ items. map tinit_tree items ++ left) c.in_ok-push.ensures.items
    ∙ ap (λ items. items ++ left) (map-append tinit_tree c.each.items.items (c.text_item.result ∷ []))
    ∙ ap (λ item. (done ++ item ∷ []) ++ left) c.text_item.ensures
    ∙ ap (λ n. (done ++ text_item at t c.each.next byte ∷ []) ++ text_items at t n rest) c.in_ok-next.ensures
    ∙ one_more at t done c.each.next byte rest
    ∙ ap (λ bytes. done ++ text_items at t c.each.next bytes) (sym (drop_more text i 0 (omega (arith, c.each-test.true))))
    ∙ c.each.invariant

pub returns : goal.returns
returns c =
    let at = c.args.at in
    let t = c.args.t in
    let done = map tinit_tree c.each.items.items in
    sym (append-nil done) ∙ ap (λ items. done ++ items) (sym (no_items at t c.each.next))
    ∙ ap (λ bytes. done ++ text_items at t c.each.next bytes) (sym (none_left c.args.text.now c.each.byte-index (omega (arith, c.each-test.false))))
    ∙ c.each.invariant
