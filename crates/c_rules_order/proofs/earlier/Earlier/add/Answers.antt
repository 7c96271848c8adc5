use Rattle.std.proofs.Common.{subst, append_assoc, ◌++◌}
use Rattle.c_rules_effects.specs.Held.{Holds}
use Rattle.c_rules_order.proofs.earlier.Earlier.add.Goals as goal

pub returns : goal.returns
returns c writes touches h = record {
  writes = subst (λ xs. Holds c.insert_all.new.set c.args.taken.now (writes ++ xs)) c.as_slice.ensures (c.in_ok-insert_all.ensures writes h.writes);
  touches = subst (λ xs. Holds c.insert_all-3.new.set c.args.taken.now (touches ++ (c.args.effects.now.reads ++ xs))) c.as_slice-3.ensures
      (subst (λ xs. Holds c.insert_all-3.new.set c.args.taken.now (touches ++ (xs ++ c.as_slice-3.result.now))) c.as_slice-2.ensures
      (subst (Holds c.insert_all-3.new.set c.args.taken.now) (append_assoc touches c.as_slice-2.result.now c.as_slice-3.result.now)
      (c.in_ok-insert_all-3.ensures (touches ++ c.as_slice-2.result.now) (c.in_ok-insert_all-2.ensures touches h.touches))));
}
