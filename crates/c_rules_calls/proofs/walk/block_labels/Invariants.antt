use Rattle.std.proofs.Common.{◌≡◌, take}
use Rattle.c_syntax.specs.TypedStmt.{tstmts_from}
use Rattle.c_layout.specs.Jumps.{labels_among}
use Rattle.c_rules_calls.proofs.walk.block_labels.Given as goal

abbrev pub invariant-loop-item : goal.invariant-loop-item
invariant-loop-item l = l.labels ≡ labels_among (tstmts_from (take l.item-index l.item-items))
