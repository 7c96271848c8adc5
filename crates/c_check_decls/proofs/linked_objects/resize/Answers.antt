use Rattle.std.proofs.Common.{◌≡◌, ◌<◌, ap, sym, ◌∙◌, length, map, set, Some, arith}
use Rattle.std.specs.Prelude.{Option, option_map, slice_get, unwrap_or}
use Rattle.std.proofs.lemmas.List.{map-set}
use Rattle.std.proofs.lemmas.Option.{slice_get-get_or, slice_get-map}
use Rattle.c_syntax.specs.Types.{ObjectTree, ctype_tree, object_tree}
use Rattle.c_typing.specs.Decls.{sized_object}
use Rattle.c_check_names.specs.Worlds.{world_of}
use Rattle.c_check_decls.proofs.linked_objects.resize.Goals as goal

pub returns : goal.returns
returns c =
    let objects = c.args.world.now.objects.items in
    let n = c.args.n in
    let all = map object_tree objects in
    let resized = sized_object (ctype_tree c.args.ty) c.args.size in
    let within : n < length objects = omega (arith, c.args.world.now.objects.ok.0) in
    let there : slice_get objects n ≡ Some c.index.result.now = slice_get-get_or objects n c.index.result.now within ∙ ap Some (sym c.index.ensures) in
    ap (λ objects. record (world_of c.args.world.now) { objects = objects })
    (map-set object_tree objects n _ ∙ ap (λ object. set all n object) c.in_ok-object.ensures
    ∙ ap (λ (found : Option ObjectTree). unwrap_or (option_map (λ object. set all n (resized object)) found) all)
    (sym (slice_get-map object_tree objects n ∙ ap (option_map object_tree) there)))
