use Rattle.std.proofs.Common.{◌≡◌, map, take}
use Rattle.c_syntax.specs.TypedStmt.{tinit_tree}
use Rattle.c_rules_effects.specs.Effects.{inits_effects}
use Rattle.c_rules_effects.specs.Joined.{joined}
use Rattle.c_rules_effects.proofs.stmts.add_inits.Given as goal

abbrev pub invariant-loop-init : goal.invariant-loop-init
invariant-loop-init l = l.effects ≡ joined l.initial.effects (inits_effects l.known (map tinit_tree (take l.init-index l.init-items)))
