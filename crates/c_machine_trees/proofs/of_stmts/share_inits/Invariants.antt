use Rattle.std.proofs.Common.{◌≡◌, map, take}
use Rattle.c_syntax.specs.TypedStmt.{tinit_tree}
use Rattle.c_machine_trees.specs.Statements.{inits_from}
use Rattle.c_machine_trees.proofs.of_stmts.share_inits.Given as goal

abbrev pub invariant-loop-item : goal.invariant-loop-item
invariant-loop-item l = inits_from l.items.items ≡ map tinit_tree (take l.item-index l.item-items)
