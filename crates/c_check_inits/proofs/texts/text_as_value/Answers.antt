use Rattle.std.proofs.Common.{ap, ◌∙◌, [], ◌∷◌, ◌++◌, map}
use Rattle.std.proofs.lemmas.Option.{IfSome_then}
use Rattle.c_syntax.specs.TypedStmt.{tinit_tree}
use Rattle.c_typing.specs.World.{Typed, goes_on, stops}
use Rattle.c_check_names.specs.Views.{refusal_of}
use Rattle.c_check_names.specs.Worlds.{world_of}
use Rattle.c_check_inits.proofs.texts.text_as_value.Goals as goal

pub returns-in-Err : goal.returns-in-Err
returns-in-Err c = IfSome_then (refusal_of c.in-Err.error) c.in-Err.ensures (λ r p. stops p)

pub returns-in-Err-fill : goal.returns-in-Err-fill
returns-in-Err-fill c = IfSome_then (refusal_of c.in-Err-fill.error) c.in-Err-fill.ensures (λ r p. goes_on c.in-Ok.ensures (stops p))

pub returns : goal.returns
returns c =
    goes_on c.in-Ok.ensures (goes_on c.in-Ok-fill.ensures (ap (λ items. Typed (map tinit_tree items) (world_of c.text_value.new.world))
    (c.in_ok-push.ensures.items ∙ ap (λ items. items ++ c.in-Ok-fill.got ∷ []) c.new-items.ensures.items)))
