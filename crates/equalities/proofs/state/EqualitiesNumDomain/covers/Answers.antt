use Rattle.std.proofs.Common.{rules, ◌≡◌, sym, ◌∙◌}
use Rattle.equalities.specs.Pairs.{all_among}
use Rattle.equalities.proofs.Lemmas.{are_so_among}
use Rattle.equalities.proofs.state.EqualitiesNumDomain.covers.Goals as goal

pub returns-clause-included : goal.returns-clause-included
returns-clause-included c = λ t v a.
    let e : c.all_there.result ≡ all_among c.args.self.now c.args.other.now = search rules in
    are_so_among v c.args.self.now c.args.other.now (sym e ∙ t) a
