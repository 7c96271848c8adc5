use Rattle.std.proofs.Common.{ap, ◌∙◌, subst}
use Rattle.std.proofs.lemmas.Option.{IfSome_then}
use Rattle.c_syntax.specs.TypedExpr.{texpr_tree}
use Rattle.c_typing.specs.CurrentObject as objects
use Rattle.c_typing.specs.CurrentObject.{Fills}
use Rattle.c_typing.specs.Inits as inits
use Rattle.c_typing.specs.World.{Typed, goes_on, stops}
use Rattle.c_check_names.specs.Views.{refusal_of}
use Rattle.c_check_fills.specs.RoomViews.{aggregates_tree, part_tree}
use Rattle.c_check_names.specs.Worlds.{world_of}
use Rattle.c_check_inits.proofs.values.value_in_part.Goals as goal

pub returns-in-Err : goal.returns-in-Err
returns-in-Err c = IfSome_then (refusal_of c.in-Err.error) c.in-Err.ensures (λ r p. stops p)

pub returns-in-Err-fill : goal.returns-in-Err-fill
returns-in-Err-fill c =
    let w = world_of c.value.new.world in
    let x = texpr_tree c.in-Ok.got in
    IfSome_then (refusal_of c.in-Err-fill.error) c.in-Err-fill.ensures (λ r p. goes_on c.in-Ok.ensures (record {
      part2 = part_tree c.in_ok-inner.inner;
      after = aggregates_tree c.filled_in.new.self;
      fills = subst (λ t. Fills w.structs (objects.takes_value t) (part_tree c.args.part) (aggregates_tree c.args.aggregates) (part_tree c.in_ok-inner.inner)
          (aggregates_tree c.filled_in.new.self)) c.in_ok-ty.ensures c.in_ok-inner.ensures;
      goes = stops (p ∙ ap (λ at. inits.fill w c.args.is_static (part_tree c.in_ok-inner.inner) at x) c.pos.ensures);
    }))

pub returns : goal.returns
returns c =
    let w = world_of c.value.new.world in
    let x = texpr_tree c.in-Ok.got in
    goes_on c.in-Ok.ensures (record {
      part2 = part_tree c.in_ok-inner.inner;
      after = aggregates_tree c.filled_in.new.self;
      fills = subst (λ t. Fills w.structs (objects.takes_value t) (part_tree c.args.part) (aggregates_tree c.args.aggregates) (part_tree c.in_ok-inner.inner)
          (aggregates_tree c.filled_in.new.self)) c.in_ok-ty.ensures c.in_ok-inner.ensures;
      goes = goes_on (c.in-Ok-fill.ensures ∙ ap (λ at. inits.fill w c.args.is_static (part_tree c.in_ok-inner.inner) at x) c.pos.ensures)
          (ap (λ f. Typed f w) c.in_ok-filled.ensures);
    })
