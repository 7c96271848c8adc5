use Rattle.std.proofs.Common.{◌≡◌, ◌++◌, map, take}
use Rattle.std.specs.List.{flat_map}
use Rattle.c_syntax.specs.TypedStmt.{tinit_tree}
use Rattle.ramp_constants.specs.Constants.{init_constants}
use Rattle.ramp_constants.proofs.stmts.add_inits.Given as goal

abbrev pub invariant-loop-init : goal.invariant-loop-init
invariant-loop-init l = l.constants.items ≡ l.initial.constants.items ++ flat_map init_constants (map tinit_tree (take l.init-index l.init-items))
