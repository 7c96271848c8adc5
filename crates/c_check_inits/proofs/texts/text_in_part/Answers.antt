use Rattle.std.proofs.Common.{ap}
use Rattle.std.proofs.lemmas.Option.{IfSome_then}
use Rattle.c_typing.specs.World.{Typed, goes_on, stops}
use Rattle.c_check_names.specs.Views.{refusal_of}
use Rattle.c_check_fills.specs.RoomViews.{aggregates_tree, part_tree}
use Rattle.c_check_names.specs.Worlds.{world_of}
use Rattle.c_check_inits.proofs.texts.text_in_part.Goals as goal

pub returns-in-Err : goal.returns-in-Err
returns-in-Err c =
    IfSome_then (refusal_of c.in-Err.error) c.in-Err.ensures (λ r p. record {
      part2 = part_tree c.in_ok-inner.inner;
      after = aggregates_tree c.filled_in.new.self;
      fills = c.in_ok-inner.ensures;
      goes = stops p;
    })

pub returns : goal.returns
returns c = record {
  part2 = part_tree c.in_ok-inner.inner;
  after = aggregates_tree c.filled_in.new.self;
  fills = c.in_ok-inner.ensures;
  goes = goes_on c.in-Ok.ensures (ap (λ f. Typed f (world_of c.with_text.new.world)) c.in_ok-filled.ensures);
}
