use Rattle.num_api.specs.Ranges.{hull}
use Rattle.residues.specs.Pair.{range_of_pair}
use Rattle.residues.proofs.Inward.{no_wider_itself, no_wider_trans, hull_no_wider}
use Rattle.residues.proofs.pair.PairValueDomain.join.Goals as goal

pub returns-clause-plain : goal.returns-clause-plain
returns-clause-plain g c = λ t.
    no_wider_trans _ _ _ (c.kept.ensures.plain t)
    (no_wider_trans _ (hull (g.V.ValueDomain.known c.tight.result) (g.V.ValueDomain.known c.tight-2.result)) _ (c.join.ensures.plain t)
    (hull_no_wider (g.V.ValueDomain.known c.tight.result) (g.V.ValueDomain.known c.tight-2.result) (range_of_pair g.V.ValueDomain.known g.W.ValueDomain.class c.args.self.now) (range_of_pair g.V.ValueDomain.known g.W.ValueDomain.class c.args.other.now) (no_wider_itself _ _ (c.tight.ensures.exact t)) (no_wider_itself _ _ (c.tight-2.ensures.exact t))))
