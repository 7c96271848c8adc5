use Rattle.std.proofs.Common.{◌≡◌, length, take}
use Rattle.std.specs.Prelude.{map}
use Rattle.c_syntax.specs.TypedStmt.{tinit_tree}
use Rattle.lower_zeros.specs.Named.{AreMarked}
use Rattle.lower_zeros.proofs.named.marks_of.Given as goal

abbrev pub invariant-loop-init : goal.invariant-loop-init
invariant-loop-init l = record {
  many : length l.marks.items ≡ l.size;
  marked : AreMarked (map tinit_tree (take l.init-index l.init-items)) l.marks.items;
}
