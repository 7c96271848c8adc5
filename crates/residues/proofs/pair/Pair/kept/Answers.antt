use Rattle.std.proofs.Common.{sym, subst}
use Rattle.num_api.specs.Ranges.{IsPoint, NoWider}
use Rattle.residues.specs.Pair.{range_of_pair}
use Rattle.residues.specs.Laws.{inward_no_wider, inward_some}
use Rattle.residues.proofs.Inward.{inward_point, point_inside, no_wider_trans}
use Rattle.residues.proofs.Pointed.{fold_of_either}
use Rattle.residues.proofs.Keeping.{all_keeps}
use Rattle.residues.proofs.Pointed.{fold_of_any}
use Rattle.residues.proofs.pair.Pair.kept.Goals as goal

pub returns-in-Some-clause-plain : goal.returns-in-Some-clause-plain
returns-in-Some-clause-plain g c = λ t.
    no_wider_trans _ _ _ (inward_no_wider _ _ c.pointed-in-Some.ensures.proper.not_negative)
    (subst (λ v. NoWider (g.V.ValueDomain.known v) (g.V.ValueDomain.known c.args.self.now.bounds)) (sym c.pointed-in-Some.ensures.bounds) (c.in-Some.ensures.bounds t))

pub returns-in-Some-clause-point : goal.returns-in-Some-clause-point
returns-in-Some-clause-point g c = λ x t p.
    point_inside (g.V.ValueDomain.known c.args.self.now.bounds) (range_of_pair g.V.ValueDomain.known g.W.ValueDomain.class c.pointed-in-Some.result) x p
    (no_wider_trans _ _ _ (inward_no_wider _ _ c.pointed-in-Some.ensures.proper.not_negative)
    (subst (λ v. NoWider (g.V.ValueDomain.known v) (g.V.ValueDomain.known c.args.self.now.bounds)) (sym c.pointed-in-Some.ensures.bounds) (c.in-Some.ensures.bounds t)))
    (inward_some (g.W.ValueDomain.class c.pointed-in-Some.result.class) (g.V.ValueDomain.known c.pointed-in-Some.result.bounds) (g.V.ValueDomain.known_some c.pointed-in-Some.result.bounds t))

pub returns-in-Some-clause-folds : goal.returns-in-Some-clause-folds
returns-in-Some-clause-folds g c = λ d t h.
    fold_of_either g.W.ValueDomain.class d _ c.in-Some.pair.class _ _ t c.in-Some.ensures.class c.pointed-in-Some.ensures.class c.in-Some.ensures.shares h

pub returns-in-None-clause-plain : goal.returns-in-None-clause-plain
returns-in-None-clause-plain g c = λ t. inward_no_wider _ _ c.tightened.ensures.proper.not_negative

pub returns-in-None-clause-point : goal.returns-in-None-clause-point
returns-in-None-clause-point g c = λ x t p. inward_point _ _ x c.tightened.ensures.proper.not_negative p

pub returns-in-Some-clause-keeps : goal.returns-in-Some-clause-keeps
returns-in-Some-clause-keeps g c = λ t. c.pointed-in-Some.ensures.keeps (c.in-Some.ensures.keeps t)

pub returns-in-None-clause-keeps : goal.returns-in-None-clause-keeps
returns-in-None-clause-keeps g c = λ t. c.in-None.ensures.loose t

pub returns-then-is_of_all-clause-folds : goal.returns-then-is_of_all-clause-folds
returns-then-is_of_all-clause-folds g c = λ d t h.
    fold_of_any g.W.ValueDomain.class d c.args.self.now.class c.pointed.result.class _ t (c.is_of_all.ensures c.if-is_of_all.true) c.pointed.ensures.class h

pub returns-then-is_of_all-clause-plain : goal.returns-then-is_of_all-clause-plain
returns-then-is_of_all-clause-plain g c = λ t.
    subst (λ v. NoWider (range_of_pair g.V.ValueDomain.known g.W.ValueDomain.class c.pointed.result) (g.V.ValueDomain.known v)) c.pointed.ensures.bounds
    (inward_no_wider _ _ c.pointed.ensures.proper.not_negative)

pub returns-then-is_of_all-clause-point : goal.returns-then-is_of_all-clause-point
returns-then-is_of_all-clause-point g c = λ x t p.
    inward_point (g.W.ValueDomain.class c.pointed.result.class) (g.V.ValueDomain.known c.pointed.result.bounds) x c.pointed.ensures.proper.not_negative
    (subst (λ v. IsPoint (g.V.ValueDomain.known v) x) (sym c.pointed.ensures.bounds) p)

pub returns-then-is_of_all-clause-keeps : goal.returns-then-is_of_all-clause-keeps
returns-then-is_of_all-clause-keeps g c = λ t.
    c.pointed.ensures.keeps (all_keeps (g.W.ValueDomain.class c.args.self.now.class) (g.V.ValueDomain.known c.args.self.now.bounds) (c.is_of_all.ensures c.if-is_of_all.true))
