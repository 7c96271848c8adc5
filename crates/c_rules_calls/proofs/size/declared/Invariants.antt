use Rattle.std.proofs.Common.{◌≡◌, take}
use Rattle.c_syntax.specs.TypedStmt.{tstmts_from}
use Rattle.c_rules_calls.specs.Inlined.{declared_by, ended}
use Rattle.c_rules_calls.proofs.size.declared.Given as goal

abbrev pub invariant-loop-item : goal.invariant-loop-item
invariant-loop-item l = l.count ≡ ended (declared_by (tstmts_from (take l.item-index l.item-items)))
