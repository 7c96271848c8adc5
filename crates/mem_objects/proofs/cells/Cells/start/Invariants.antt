use Rattle.std.proofs.Common.{◌≡◌, ℕ, ◌<◌, length, map, None}
use Rattle.std.specs.Prelude.{IfSome, slice_index_or}
use Rattle.c_syntax.specs.Types.{object_tree}
use Rattle.mem_temps.specs.Operators.{LiesIn}
use Rattle.mem_objects.specs.Cells.{read_at}
use Rattle.mem_objects.proofs.cells.Cells.start.Given as goal

abbrev pub invariant-loop-x : goal.invariant-loop-x
invariant-loop-x l = record {
  size : length l.items.items ≡ l.x;
  inside : (k : ℕ) → IfSome (slice_index_or l.items.items k None) (λ c. LiesIn c.ty c.range);
  read : (k : ℕ) → k < l.x → slice_index_or l.items.items k None ≡ read_at (map object_tree l.objects) l.memory k;
}
