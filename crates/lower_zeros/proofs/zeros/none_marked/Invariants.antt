use Rattle.std.proofs.Common.{◌≡◌, List}
use Rattle.std.specs.Prelude.{true}
use Rattle.c_objects.specs.Writing.{is_named}
use Rattle.c_syntax.specs.TypedStmt.{TInitTree}
use Rattle.lower_trees.specs.Zeros.{none_named}
use Rattle.lower_zeros.specs.Named.{AreMarked}
use Rattle.lower_zeros.proofs.zeros.none_marked.Given as goal

abbrev pub invariant-loop-k : goal.invariant-loop-k
invariant-loop-k l = (inits : List TInitTree) → AreMarked inits l.marks → none_named (is_named inits) l.byte l.k ≡ true
