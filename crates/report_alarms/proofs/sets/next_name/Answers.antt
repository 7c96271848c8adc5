use Rattle.std.proofs.Common.{rules, ◌≡◌, ◌∷◌, subst}
use Rattle.report_alarms.specs.Named.{IsNextBut}
use Rattle.report_alarms.proofs.sets.next_name.Goals as goal

pub each-preserved : goal.each-preserved
each-preserved c =
    let split : c.each.left.now ≡ c.in-Some.name.now ∷ c.in-Some.rest.now = search rules in
    c.nearer-next.ensures c.args.names.now c.in-Some.rest.now (subst (λ left. IsNextBut c.args.names.now left c.args.from c.each.next) split c.each.invariant)
