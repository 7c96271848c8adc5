use Rattle.std.proofs.Common.{◌≡◌, [], ◌∷◌, ap, ◌∙◌, length, arith}
use Rattle.std.proofs.lemmas.List.{length-append, length-map}
use Rattle.std.proofs.lemmas.Option.{IfSome_then}
use Rattle.c_syntax.specs.Types.{ObjectTree, object_tree}
use Rattle.c_typing.specs.Decls.{parameter_object, with_object, with_total}
use Rattle.c_typing.specs.World.{World}
use Rattle.c_check_declarators.specs.Views.{parameter_tree}
use Rattle.c_check_names.specs.Views.{refusal_of}
use Rattle.c_check_names.specs.Worlds.{world_of}
use Rattle.c_check_functions.proofs.Counting.{limit_halts, limit_passes}
use Rattle.c_check_functions.proofs.parameters.count_parameter.Goals as goal

pub returns-in-Err : goal.returns-in-Err
returns-in-Err c = record {
  number = tt;
  grown = tt;
  counted = IfSome_then (refusal_of c.in-Err.error) c.in-Err.ensures.limits
      (limit_halts (world_of c.args.world.now) (parameter_tree c.args.param.now) c.in_ok-size.size c.in_ok-size.ensures);
}

pub returns-in_ok-add_object-in-Ok : goal.returns-in_ok-add_object-in-Ok
returns-in_ok-add_object-in-Ok c =
    let w = world_of c.args.world.now in
    let param = parameter_tree c.args.param.now in
    let now : world_of c.count.new.world ≡ with_total (with_object w (parameter_object w param)) c.in_ok-size.size =
    c.count.ensures ∙ ap (λ (v : World). with_total v c.in_ok-size.size) (c.in_ok-add_object-in-Ok.ensures ∙ ap (λ (object : ObjectTree). with_object w object) c.in_ok-object-in-Ok.ensures) in
    record {
      number = omega (arith, length-map c.args.world.now.objects.items object_tree, c.args.world.now.objects.ok.0);
      grown = ap (λ (v : World). length v.objects) now ∙ length-append w.objects (parameter_object w param ∷ []);
      counted = limit_passes w param c.in_ok-size.size c.in_ok-size.ensures (world_of c.count.new.world) now c.in-Ok.ensures.limits;
    }
