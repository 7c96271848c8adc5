use Rattle.std.proofs.Common.{◌≡◌, ◌++◌, map, take}
use Rattle.std.specs.List.{flat_map}
use Rattle.c_syntax.specs.TypedStmt.{tinit_tree}
use Rattle.c_layout.specs.Calls.{init_calls}
use Rattle.c_rules_calls.proofs.stmts.add_inits.Given as goal

abbrev pub invariant-loop-init : goal.invariant-loop-init
invariant-loop-init l = l.calls ≡ l.initial.calls ++ flat_map init_calls (map tinit_tree (take l.init-index l.init-items))
