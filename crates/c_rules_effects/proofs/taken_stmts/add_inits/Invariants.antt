use Rattle.std.proofs.Common.{◌≡◌, ◌++◌, map, take}
use Rattle.std.specs.List.{flat_map}
use Rattle.c_syntax.specs.TypedStmt.{tinit_tree}
use Rattle.c_rules_effects.specs.Taken.{init_taken}
use Rattle.c_rules_effects.proofs.taken_stmts.add_inits.Given as goal

abbrev pub invariant-loop-init : goal.invariant-loop-init
invariant-loop-init l = l.taken.items ≡ l.initial.taken.items ++ flat_map init_taken (map tinit_tree (take l.init-index l.init-items))
