use Rattle.std.proofs.Common.{◌≡◌, rules, false}
use Rattle.pointsets.specs.Targets.{covers_set}
use Rattle.pointsets.proofs.Sets.{covers-test}
use Rattle.pointsets.proofs.Targets.covers.Goals as goal

pub returns-then-not-self-clause-covers : goal.returns-then-not-self-clause-covers
returns-then-not-self-clause-covers c =
    let test : false ≡ covers_set c.args.self.now c.args.other.now = search rules in
    rw test (covers-test c.args.self.now c.args.other.now)

pub returns-then-not-self-2-clause-covers : goal.returns-then-not-self-2-clause-covers
returns-then-not-self-2-clause-covers c =
    let test : false ≡ covers_set c.args.self.now c.args.other.now = search rules in
    rw test (covers-test c.args.self.now c.args.other.now)

pub returns-clause-covers : goal.returns-clause-covers
returns-clause-covers c =
    let test : c.are_among.result ≡ covers_set c.args.self.now c.args.other.now = search rules in
    rw test (covers-test c.args.self.now c.args.other.now)
