use Rattle.std.proofs.Common.{◌≡◌, ap, ◌∙◌, map, length, arith}
use Rattle.std.proofs.lemmas.List.{length-map}
use Rattle.std.proofs.lemmas.Option.{IfSome_then}
use Rattle.c_syntax.specs.Types.{ctype_tree, object_tree}
use Rattle.c_typing.specs.Decls.{numbers_from}
use Rattle.c_typing.specs.File.{body_begins, in_body, with_counted}
use Rattle.c_check_declarators.specs.Views.{name_tree, parameter_tree}
use Rattle.c_check_names.specs.Views.{refusal_of}
use Rattle.c_check_names.specs.Worlds.{world_of}
use Rattle.c_check_functions.specs.Views.{list_tree}
use Rattle.c_check_functions.proofs.Forms.{begun_by}
use Rattle.c_check_functions.proofs.definitions.body_begins.Goals as goal

pub returns-in-Err : goal.returns-in-Err
returns-in-Err c =
    let w = world_of c.args.world.now in
    let list = list_tree c.args.list in
    IfSome_then (refusal_of c.in-Err.error) c.in-Err.ensures.counted (λ r p.
    ap (body_begins c.args.number (length w.objects) (name_tree c.args.named.now) (ctype_tree c.args.target) list.params list.names list.tags)
    (p ∙ ap (λ ps. with_counted w (map parameter_tree ps)) c.as_slice.ensures.value))

pub returns-in_ok-outside-in-Ok : goal.returns-in_ok-outside-in-Ok
returns-in_ok-outside-in-Ok c =
    let w = world_of c.args.world.now in
    let list = list_tree c.args.list in
    let first : c.len-first.result ≡ length w.objects = omega (arith, length-map c.args.world.now.objects.items object_tree, c.args.world.now.objects.ok.0) in
    record {
      outside = world_of c.define.new.world;
      encloses = c.in_ok-outside-in-Ok.ensures.scope;
      is = begun_by c.args.number (length w.objects) (name_tree c.args.named.now) (ctype_tree c.args.target) list.params list.names list.tags
          (world_of c.count_parameters.new.world) (world_of c.define.new.world) (world_of c.in_body.new.world) c.in-Ok.numbers (with_counted w list.params)
          (c.in-Ok.ensures.counted ∙ ap (λ ps. with_counted w (map parameter_tree ps)) c.as_slice.ensures.value)
          (c.in-Ok.ensures.numbers ∙ ap (λ ps. numbers_from (length w.objects) (length (map parameter_tree ps))) c.as_slice.ensures.value)
          c.define.ensures
          (c.in_ok-outside-in-Ok.ensures.begun ∙ ap (λ n. in_body (world_of c.define.new.world) n list.names list.tags) first);
    }
