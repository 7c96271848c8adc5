use Rattle.std.proofs.Common.{◌≡◌, take}
use Rattle.std.specs.List.{flat_map}
use Rattle.c_rules_order.specs.Earlier.{HasDone}
use Rattle.c_rules_order.specs.Firsts.{all_touches, all_writes, or_first}
use Rattle.c_rules_order.specs.Sides.{all_pairs}
use Rattle.c_rules_order.proofs.compare.compare_all.Given as goal

abbrev pub invariant-loop-at : goal.invariant-loop-at
invariant-loop-at l = record {
  found : l.found ≡ or_first l.known l.initial.found (all_pairs l.pos (take l.at l.sides));
  done : HasDone l.earlier l.taken (flat_map (all_writes l.known.functions.items) (take l.at l.sides))
      (flat_map (all_touches l.known.functions.items) (take l.at l.sides));
  same : l.taken ≡ l.known.taken.items;
}
