use Rattle.std.proofs.Common.{sym, subst}
use Rattle.c_rules_calls.specs.Labels.{AreKnown}
use Rattle.c_rules_calls.proofs.Known.{one_more, told_more}
use Rattle.c_rules_calls.proofs.labels.Labels.with.Goals as goal

pub invariant_of-result : goal.invariant_of-result
invariant_of-result c =
    let told = told_more c.self.inside.told.items c.push.new.self.items c.of.result c.args.label c.in_ok-push.ensures.items c.of.ensures in
    subst (AreKnown c.insert.new.self.keys) (sym told) (one_more c.self.inside.known.keys c.insert.new.self.keys _ c.args.label c.self.invariant c.in_ok-insert.ensures.keys)
