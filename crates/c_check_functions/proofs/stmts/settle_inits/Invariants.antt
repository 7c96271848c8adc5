use Rattle.std.proofs.Common.{◌≡◌, map}
use Rattle.c_syntax.specs.Types.{object_tree}
use Rattle.c_syntax.specs.TypedStmt.{tinit_tree}
use Rattle.c_typing.specs.Settled.{settled_init}
use Rattle.c_check_functions.proofs.SettledLists.{settled_to}
use Rattle.c_check_functions.proofs.stmts.settle_inits.Given as goal

abbrev pub invariant-loop-item : goal.invariant-loop-item
invariant-loop-item l = map tinit_tree l.item-items ≡ settled_to (settled_init (map object_tree l.objects)) l.item-index (map tinit_tree l.initial.item-items)
