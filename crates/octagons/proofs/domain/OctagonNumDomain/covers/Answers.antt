use Rattle.std.proofs.Common.{rules, sym, ◌≡◌, ◌∙◌}
use Rattle.octagons_changes.specs.States.{includes}
use Rattle.octagons.proofs.Covered.{covers-then, covers-if}
use Rattle.octagons.proofs.domain.OctagonNumDomain.covers.Goals as goal

pub returns-clause-entries : goal.returns-clause-entries
returns-clause-entries c =
    let value : c.covers.result ≡ includes c.args.self.now c.args.other.now = search rules in
    (λ t. covers-then c.args.self.now c.args.other.now (sym value ∙ t), λ h. value ∙ covers-if c.args.self.now c.args.other.now h)
