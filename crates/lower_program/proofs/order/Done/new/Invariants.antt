use Rattle.std.proofs.Common.{◌≡◌, ◌<◌, ◌≤◌, ◌-◌, ℕ, length}
use Rattle.std.specs.Prelude.{slice_index_or}
use Rattle.csharp.specs.declared.program.CsFunction.{CsFunction}
use Rattle.csharp.specs.Trees.{csfunction_tree}
use Rattle.lower_trees.specs.LowerProgram.{no_function}
use Rattle.lower_program.proofs.order.Done.new.Given as goal

abbrev pub invariant-loop-alloc : goal.invariant-loop-alloc
invariant-loop-alloc l = record {
  same : length l.functions.items ≡ length l.tops.items;
  few : length l.functions.items ≤ l.count;
  empty : (f : ℕ) (d : CsFunction) → f < length l.functions.items → csfunction_tree (slice_index_or l.functions.items f d) ≡ no_function;
  none : (f : ℕ) → slice_index_or l.tops.items f 0 ≡ 0;
}

abbrev pub decreases-loop-alloc : goal.decreases-loop-alloc
decreases-loop-alloc l = l.count - length l.functions.items
