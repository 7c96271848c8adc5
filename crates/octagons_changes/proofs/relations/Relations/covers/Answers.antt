use Rattle.std.proofs.Common.{rules, subst, ◌≡◌}
use Rattle.octagons_changes.specs.States.{OctagonView, Admits, no_relations}
use Rattle.octagons_changes.proofs.Seeing.{none-admits}
use Rattle.octagons_changes.proofs.relations.Relations.covers.Goals as goal

pub returns-in-None-default-clause-included : goal.returns-in-None-default-clause-included
returns-in-None-default-clause-included c = λ t v h.
    let none : no_relations ≡ c.args.self.now = search rules in
    subst (λ (o : OctagonView). Admits o v) none (none-admits v)
