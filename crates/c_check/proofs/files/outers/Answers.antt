use Rattle.std.proofs.Common.{◌≡◌, [], refl, arith}
use Rattle.std.proofs.lemmas.Grind.{common_steps}
use Rattle.std.proofs.lemmas.Option.{IfSome_then}
use Rattle.c_typing.specs.World.{Typed, Refused, goes_on, stops}
use Rattle.c_check_jumps.specs.ContextViews.{context_tree}
use Rattle.c_check_names.specs.Views.{refusal_of}
use Rattle.c_check_names.specs.Worlds.{world_of}
use Rattle.c_check.proofs.Lines.{all_left, next_outer, last_outer}
use Rattle.c_check.proofs.files.outers.Goals as goal

pub each-init : goal.each-init
each-init c = λ o p. all_left (world_of c.args.world.now) (context_tree c.args.around) c.args.items.items c.reverse.new.self.items o c.reverse.ensures.items p

pub each-preserved : goal.each-preserved
each-preserved c = λ o p.
    c.each.invariant o (next_outer (world_of c.each.world) (context_tree c.args.around) c.each.left.items c.pop.new.self.items c.in-Some.item o c.in-Some.ensures.items
    (goes_on c.in-Ok.ensures p))

pub returns-in-Err : goal.returns-in-Err
returns-in-Err c =
    IfSome_then (refusal_of c.in-Err.error) c.in-Err.ensures (λ r p.
    c.each.invariant (Refused r) (next_outer (world_of c.each.world) (context_tree c.args.around) c.each.left.items c.pop.new.self.items c.in-Some.item (Refused r)
    c.in-Some.ensures.items (stops p)))

pub returns : goal.returns
returns c =
    let none : c.each.left.items ≡ [] = grind (arith, common_steps, c.in_default.ensures) in
    c.each.invariant (Typed tt (world_of c.each.world))
    (last_outer (world_of c.each.world) (context_tree c.args.around) c.each.left.items (Typed tt (world_of c.each.world)) none refl)
