use Rattle.std.proofs.Common.{◌≡◌, map, take}
use Rattle.std.specs.List.{flat_map}
use Rattle.c_syntax.specs.TypedStmt.{tinit_tree}
use Rattle.c_rules_order.specs.Firsts.{or_first}
use Rattle.c_rules_order.specs.Sides.{init_compared, init_side}
use Rattle.c_rules_order.proofs.stmts.init_sides.Given as goal

abbrev pub invariant-loop-init : goal.invariant-loop-init
invariant-loop-init l = record {
  sides : l.sides.items ≡ map init_side (map tinit_tree (take l.init-index l.init-items));
  found : l.found ≡ or_first l.known l.initial.found (flat_map init_compared (map tinit_tree (take l.init-index l.init-items)));
}
