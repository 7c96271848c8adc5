use Rattle.std.proofs.Common.{◌≡◌, ◌-◌, length, List}
use Rattle.c_objects.specs.Writing.{is_named}
use Rattle.c_syntax.specs.Program.{tprogram_tree}
use Rattle.c_syntax.specs.TypedStmt.{TInitTree}
use Rattle.csharp.specs.Trees.{CsStmtTrees, csstmts_from}
use Rattle.lower_trees.specs.Zeros.{object_scalars, zero_cells}
use Rattle.lower_zeros.specs.Named.{AreMarked, joined}
use Rattle.lower_zeros.proofs.zeros.zero_unmarked.Given as goal

abbrev pub invariant-loop-byte : goal.invariant-loop-byte
invariant-loop-byte l = (inits : List TInitTree) → AreMarked inits l.marks → (rest : CsStmtTrees)
    → joined (csstmts_from l.out.items)
    (zero_cells (object_scalars (tprogram_tree l.program) l.object) (is_named inits) l.object l.byte l.skip (length l.marks - l.byte) rest)
    ≡ joined (csstmts_from l.fn.out.items)
    (zero_cells (object_scalars (tprogram_tree l.program) l.object) (is_named inits) l.object 0 0 (length l.marks) rest)
