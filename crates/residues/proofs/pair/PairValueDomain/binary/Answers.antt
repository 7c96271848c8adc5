use Rattle.std.proofs.Common.{pos, sym}
use Rattle.residues.proofs.Inward.{no_wider_itself, point_along, point_inside, no_wider_trans}
use Rattle.std.proofs.Common.{subst}
use Rattle.num_api.specs.declared.message.Residue.{Residue}
use Rattle.num_api.specs.Residues.{InResidue}
use Rattle.residues.proofs.pair.PairValueDomain.binary.Goals as goal

pub returns-clause-holds : goal.returns-clause-holds
returns-clause-holds g c = λ x y n h k e.
    c.kept.ensures.holds n (c.told_apart.ensures.holds x y n (c.residue.ensures.holds x h.1) (c.residue-2.ensures.holds y k.1) e (c.binary-bounds.ensures.holds x y n (c.tight.ensures.holds x h) (c.tight-2.ensures.holds y k) e), c.binary.ensures.holds x y n h.1 k.1 e)

pub returns-clause-point : goal.returns-clause-point
returns-clause-point g c = λ x y n t p q e f.
    c.kept.ensures.point n t (point_inside (g.V.ValueDomain.known c.binary-bounds.result) (g.V.ValueDomain.known c.told_apart.result) n (c.binary-bounds.ensures.point x y n t (point_along _ _ x (c.tight.ensures.exact t) p) (point_along _ _ y (c.tight-2.ensures.exact t) q) e f) (c.told_apart.ensures.plain t) (g.V.ValueDomain.known_some c.told_apart.result t))

pub returns-clause-plain : goal.returns-clause-plain
returns-clause-plain g c = λ s u r t nz w fs v fu e fr.
    no_wider_trans _ _ _ (c.kept.ensures.plain t) (no_wider_trans _ _ _ (c.told_apart.ensures.plain t)
    (c.binary-bounds.ensures.plain s u r t (λ q z. nz q (point_along _ _ (pos 0) (sym (c.tight-2.ensures.exact t)) z)) (no_wider_trans _ _ _ (no_wider_itself _ _ (c.tight.ensures.exact t)) w) fs (no_wider_trans _ _ _ (no_wider_itself _ _ (c.tight-2.ensures.exact t)) v) fu e fr))

pub returns-clause-fold_sum : goal.returns-clause-fold_sum
returns-clause-fold_sum g c = λ d t al e h k.
    c.kept.ensures.folds d t (c.binary.ensures.fold_sum d t al e h k)

pub returns-clause-fold_left : goal.returns-clause-fold_left
returns-clause-fold_left g c = λ d n t al e h p.
    c.kept.ensures.folds d t (c.binary.ensures.fold_left d n t al e h p)

pub returns-clause-fold_right : goal.returns-clause-fold_right
returns-clause-fold_right g c = λ d n t al e h p.
    c.kept.ensures.folds d t (c.binary.ensures.fold_right d n t al e h p)

pub returns-clause-apart : goal.returns-clause-apart
returns-clause-apart g c = λ x y n t equality none h k e.
    c.kept.ensures.point n t
    (c.told_apart.ensures.apart x y n t equality
    (λ m i j. none m (subst (λ (r : Residue). InResidue r m) c.residue.ensures.value i) (subst (λ (r : Residue). InResidue r m) c.residue-2.ensures.value j))
    (c.residue.ensures.holds x h.1) (c.residue-2.ensures.holds y k.1) e
    (c.binary-bounds.ensures.holds x y n (c.tight.ensures.holds x h) (c.tight-2.ensures.holds y k) e))
