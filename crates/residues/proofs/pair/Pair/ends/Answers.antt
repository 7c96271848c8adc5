use Rattle.std.proofs.Common.{sym, subst}
use Rattle.num_api.specs.declared.message.Range.{Range}
use Rattle.num_api.specs.Ranges.{InRange}
use Rattle.num_api.specs.declared.message.Residue.{Residue}
use Rattle.residues.specs.Inward.{inward_range, IsReduced}
use Rattle.residues.specs.Laws.{inward_sound}
use Rattle.residues.proofs.Inward.{inward_reduced}
use Rattle.residues.proofs.pair.Pair.ends.Goals as goal

pub returns-clause-holds : goal.returns-clause-holds
returns-clause-holds g c = λ n h.
    subst (λ (r : Range). InRange r n) (sym c.inward.ensures)
    (inward_sound c.residue.result c.range.result n c.residue.ensures.proper.not_negative (c.range.ensures.holds n h.0) (c.residue.ensures.holds n h.1))

pub returns-clause-reduced : goal.returns-clause-reduced
returns-clause-reduced g c =
    subst (λ (r : Range). IsReduced r (g.W.ValueDomain.class c.args.self.now.class)) (sym c.inward.ensures)
    (subst (λ (k : Residue). IsReduced (inward_range c.residue.result c.range.result) k) c.residue.ensures.value (inward_reduced c.residue.result c.range.result c.residue.ensures.proper.not_negative))
