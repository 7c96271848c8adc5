use Rattle.std.proofs.Common.{◌++◌, [], ◌∷◌, ap, sym, ◌∙◌, map}
use Rattle.std.proofs.lemmas.List.{map-append}
use Rattle.c_syntax.specs.TypedStmt.{tinit_tree}
use Rattle.c_typing.specs.Inits.{text_item, text_items}
use Rattle.c_check_fills.proofs.TextItems.{last_item}
use Rattle.c_check_fills.proofs.texts.with_zero.Goals as goal

pub returns : goal.returns
returns c h =
    let at = c.args.at in
    let t = c.args.t in
    let text = c.args.text.now in
    let all = text_items at t c.args.offset text in
    ap (map tinit_tree) c.in_ok-push.ensures.items ∙ map-append tinit_tree c.args.items.items (c.text_item.result ∷ [])
    ∙ ap (λ items. items ++ tinit_tree c.text_item.result ∷ []) h ∙ ap (λ item. all ++ item ∷ []) c.text_item.ensures
    ∙ ap (λ n. all ++ text_item at t n 0 ∷ []) c.in_ok-end.ensures ∙ sym (last_item at t c.args.offset text 0)
