use Rattle.std.proofs.Common.{◌≡◌, ap, ◌∙◌}
use Rattle.std.specs.Prelude.{Some, None, slice_get}
use Rattle.std.specs.Option.{option_copied}
use Rattle.c_syntax.specs.Types.{CTypeTree, Void, ObjectTree, object_tree}
use Rattle.c_syntax.specs.TypedParts.{texpr_type}
use Rattle.c_syntax.proofs.TypeTrees.{ctype_void}
use Rattle.c_typing.specs.Operands.{Place, value_of}
use Rattle.c_typing.specs.Nodes.{object_place}
use Rattle.c_check_exprs.proofs.Passing.{found_at, told_at}
use Rattle.c_check_exprs.proofs.calls.value_type_of.Goals as goal

pub returns-in-None : goal.returns-in-None
returns-in-None c =
    let objects = c.args.world.now.objects.items in
    let ty : ObjectTree → CTypeTree = λ object. texpr_type (value_of (Place (object_place object.pos c.args.n object))) in
    let none : slice_get objects c.args.n ≡ None =
    found_at c.deref.result.now objects c.args.n c.get.result
    c.get.ensures.lookup.3 c.deref.ensures.value None (ap option_copied c.in-None.is) in
    ctype_void ∙ told_at object_tree ty Void objects c.args.n None none

pub returns-in_ok-ty-in-Some : goal.returns-in_ok-ty-in-Some
returns-in_ok-ty-in-Some c =
    let objects = c.args.world.now.objects.items in
    let ty : ObjectTree → CTypeTree = λ object. texpr_type (value_of (Place (object_place object.pos c.args.n object))) in
    let there : slice_get objects c.args.n ≡ Some c.in-Some.object.now =
    found_at c.deref.result.now objects c.args.n c.get.result
    c.get.ensures.lookup.3 c.deref.ensures.value (Some c.in-Some.object.now) (ap option_copied c.in-Some.is) in
    c.in_ok-ty-in-Some.ensures ∙ ap (λ place. texpr_type (value_of (Place place))) c.in_ok-place-in-Some.ensures
    ∙ told_at object_tree ty Void objects c.args.n (Some c.in-Some.object.now) there
