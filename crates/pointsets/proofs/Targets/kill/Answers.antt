use Rattle.std.proofs.Common.{◌≡◌, ap, length, rules, arith, filter, not}
use Rattle.std.proofs.lemmas.List.Kept.{IsStrictlyIncreasing-filter}
use Rattle.pointsets.specs.Targets.{has_name}
use Rattle.pointsets.proofs.Targets.kill.Goals as goal

pub invariant_of-self : goal.invariant_of-self
invariant_of-self c =
    let items : c.without-left.result.items ≡ filter (λ n. not (has_name c.args.names.now n)) c.self.inside.names.items = search rules in
    let same : c.as_slice-2.result.now ≡ c.self.inside.names.items = search rules in
    record {
      in_place = c.without-left.ensures.in_place;
      few = omega (arith, c.without-left.ensures.few, c.self.invariant.few, ap length same);
      rising = rw items (IsStrictlyIncreasing-filter _ c.self.inside.names.items c.self.invariant.rising);
      none = search rules;
    }
