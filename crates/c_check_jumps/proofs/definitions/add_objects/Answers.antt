use Rattle.std.proofs.Common.{◌∙◌, arith}
use Rattle.c_syntax_written.specs.Written.{specs_tree}
use Rattle.c_syntax_written.specs.WrittenDecl.{initdeclarator_tree}
use Rattle.c_typing.specs.Context.{objects_by}
use Rattle.c_check_jumps.proofs.Finding.{adds_item, all_added}
use Rattle.c_check_jumps.proofs.definitions.add_objects.Goals as goal

pub each-preserved : goal.each-preserved
each-preserved c =
    let specs = specs_tree c.args.decl.now.specs in
    adds_item initdeclarator_tree (objects_by specs) c.each.objects c.add_object.new.objects c.as_slice-items.result.now c.each.item-index c.item-item.result (omega arith) c.item-item.is
    (c.in_ok-add_object.ensures specs c.has_storage.ensures c.has_storage-2.ensures) ∙ c.each.invariant

pub returns : goal.returns
returns c =
    let specs = specs_tree c.args.decl.now.specs in
    all_added initdeclarator_tree (objects_by specs) c.each.objects _ c.as_slice-items.result.now c.each.item-index (omega (arith, c.each-test.false)) c.each.invariant
