use Rattle.std.proofs.Common.{sym, subst}
use Rattle.num_api.specs.declared.message.Residue.{Residue}
use Rattle.num_api.specs.Residues.{InResidue}
use Rattle.residues.proofs.pair.are_apart.Goals as goal

pub returns-in-None-clause-apart : goal.returns-in-None-clause-apart
returns-in-None-clause-apart c = λ t n p q.
    c.in-None.ensures.none n (subst (λ (r : Residue). InResidue r n) (sym c.new.ensures) p) (subst (λ (r : Residue). InResidue r n) (sym c.new-2.ensures) q)
