use Rattle.std.proofs.Common.{◌∙◌, arith}
use Rattle.c_syntax_written.specs.WrittenFile.{outer_tree}
use Rattle.c_typing.specs.Context.{objects_defined_by, functions_defined_by}
use Rattle.c_check_jumps.proofs.Finding.{adds_item, all_added}
use Rattle.c_check_jumps.proofs.definitions.FileNames.of.Goals as goal

pub each-preserved : goal.each-preserved
each-preserved c = (
  adds_item outer_tree objects_defined_by c.each.objects c.add_outer.new.objects c.as_slice-outers.result.now c.each.outer-index c.outer-item.result (omega arith) c.outer-item.is
      c.in_ok-add_outer.ensures.objects ∙ c.each.invariant.0,
  adds_item outer_tree functions_defined_by c.each.functions c.add_outer.new.functions c.as_slice-outers.result.now c.each.outer-index c.outer-item.result (omega arith) c.outer-item.is
      c.in_ok-add_outer.ensures.functions ∙ c.each.invariant.1,
)

pub returns : goal.returns
returns c = record {
  objects = all_added outer_tree objects_defined_by c.each.objects _ c.as_slice-outers.result.now c.each.outer-index (omega (arith, c.each-test.false)) c.each.invariant.0;
  functions = all_added outer_tree functions_defined_by c.each.functions _ c.as_slice-outers.result.now c.each.outer-index (omega (arith, c.each-test.false)) c.each.invariant.1;
}
