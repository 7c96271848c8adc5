use Rattle.residues.proofs.Inward.{no_wider_itself, point_along, no_wider_trans}
use Rattle.residues.proofs.pair.PairValueDomain.unary.Goals as goal

pub returns-clause-holds : goal.returns-clause-holds
returns-clause-holds g c = λ x n h e. c.kept.ensures.holds n (c.unary.ensures.holds x n (c.tight.ensures.holds x h) e, c.unary-2.ensures.holds x n h.1 e)

pub returns-clause-point : goal.returns-clause-point
returns-clause-point g c = λ x n t p e f. c.kept.ensures.point n t (c.unary.ensures.point x n t (point_along _ _ x (c.tight.ensures.exact t) p) e f)

pub returns-clause-plain : goal.returns-clause-plain
returns-clause-plain g c = λ s r t w fs e fr.
    no_wider_trans _ _ _ (c.kept.ensures.plain t) (c.unary.ensures.plain s r t (no_wider_trans _ _ _ (no_wider_itself _ _ (c.tight.ensures.exact t)) w) fs e fr)
