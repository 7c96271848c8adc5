use Rattle.std.proofs.Common.{◌∙◌}
use Rattle.residues.specs.Laws.{moved_holds}
use Rattle.residues.proofs.pair.Pair.shares.Goals as goal

pub returns-clause-holds : goal.returns-clause-holds
returns-clause-holds g c = λ n h.
    c.meets.ensures ∙ moved_holds c.residue.result c.range.result n c.residue.ensures.proper.not_negative (c.range.ensures.holds n h.0) (c.residue.ensures.holds n h.1)
