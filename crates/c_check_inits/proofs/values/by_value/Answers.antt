use Rattle.std.proofs.Common.{ap, ◌∙◌, false, [], ◌∷◌, ◌++◌, map}
use Rattle.std.proofs.lemmas.Option.{IfSome_then}
use Rattle.c_syntax.specs.Types.{ctype_tree}
use Rattle.c_syntax.specs.TypedExpr.{texpr_tree}
use Rattle.c_syntax.specs.TypedStmt.{tinit_tree}
use Rattle.c_typing.specs.Inits as inits
use Rattle.c_typing.specs.World.{Typed, goes_on, stops}
use Rattle.c_check_names.specs.Views.{refusal_of}
use Rattle.c_check_names.specs.Worlds.{world_of}
use Rattle.c_check_inits.proofs.values.by_value.Goals as goal

pub returns-in-Err : goal.returns-in-Err
returns-in-Err c = IfSome_then (refusal_of c.in-Err.error) c.in-Err.ensures (λ r p. stops p)

pub returns-in-Err-fill : goal.returns-in-Err-fill
returns-in-Err-fill c =
    let w = world_of c.value.new.world in
    let x = texpr_tree c.in-Ok.got in
    IfSome_then (refusal_of c.in-Err-fill.error) c.in-Err-fill.ensures (λ r p. goes_on c.in-Ok.ensures (stops (p ∙ ap (λ ty. inits.fill w c.args.is_static (record { ty = ty; offset = 0 }) c.pos.result x) c.in_ok-ty.ensures
    ∙ ap (λ at. inits.fill w c.args.is_static (inits.whole_part (ctype_tree c.args.ty.now)) at x) c.pos.ensures)))

pub returns : goal.returns
returns c =
    let w = world_of c.value.new.world in
    let x = texpr_tree c.in-Ok.got in
    goes_on c.in-Ok.ensures (goes_on (c.in-Ok-fill.ensures ∙ ap (λ ty. inits.fill w c.args.is_static (record { ty = ty; offset = 0 }) c.pos.result x) c.in_ok-ty.ensures
    ∙ ap (λ at. inits.fill w c.args.is_static (inits.whole_part (ctype_tree c.args.ty.now)) at x) c.pos.ensures)
    (ap (λ items. Typed (record { items = map tinit_tree items; zeroes_rest = false; count = 0 }) w)
    (c.in_ok-push.ensures.items ∙ ap (λ items. items ++ c.in-Ok-fill.got ∷ []) c.new-items.ensures.items)))
