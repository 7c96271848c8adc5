use Rattle.std.proofs.Common.{ap, ◌∙◌, map}
use Rattle.std.proofs.lemmas.Option.{IfSome_then}
use Rattle.c_syntax.specs.Types.{ctype_tree}
use Rattle.c_syntax.specs.TypedStmt.{tinit_tree}
use Rattle.c_typing.specs.CurrentObject.{Frame}
use Rattle.c_typing.specs.Inits as inits
use Rattle.c_typing.specs.World.{Typed, goes_on, stops}
use Rattle.c_check_names.specs.Views.{refusal_of}
use Rattle.c_check_names.specs.Worlds.{world_of}
use Rattle.c_check_inits.proofs.texts.text_in_braces.Goals as goal

pub returns-in-Err : goal.returns-in-Err
returns-in-Err c =
    let w = world_of c.args.world.now in
    let whole = ctype_tree c.args.whole.now in
    let text = c.args.text.now in
    IfSome_then (refusal_of c.in-Err.error) c.in-Err.ensures (λ r p. stops (p ∙ ap (λ ty. inits.fill_text w (record { ty = ty; offset = c.inner-inner.result.now.offset }) c.in_ok-n.n c.args.at text) c.in_ok-ty.ensures
    ∙ ap (λ n. inits.fill_text w (record { ty = whole; offset = c.inner-inner.result.now.offset }) n c.args.at text) c.in_ok-n.ensures
    ∙ ap (λ (f : Frame). inits.fill_text w (record { ty = whole; offset = f.offset }) (inits.room f.count text) c.args.at text) c.inner-inner.ensures))

pub returns : goal.returns
returns c =
    let w = world_of c.args.world.now in
    let whole = ctype_tree c.args.whole.now in
    let text = c.args.text.now in
    goes_on (c.in-Ok.ensures ∙ ap (λ ty. inits.fill_text w (record { ty = ty; offset = c.inner-inner.result.now.offset }) c.in_ok-n.n c.args.at text) c.in_ok-ty.ensures
    ∙ ap (λ n. inits.fill_text w (record { ty = whole; offset = c.inner-inner.result.now.offset }) n c.args.at text) c.in_ok-n.ensures
    ∙ ap (λ (f : Frame). inits.fill_text w (record { ty = whole; offset = f.offset }) (inits.room f.count text) c.args.at text) c.inner-inner.ensures)
    (ap (λ a. Typed (inits.filled_so (map tinit_tree c.in-Ok.got.items) a) w)
    (c.fill_with_text.ensures text (c.in_ok-n.ensures ∙ ap (λ (f : Frame). inits.room f.count text) c.inner-inner.ensures)))
