use Rattle.std.proofs.Common.{sym, ◌∙◌}
use Rattle.residues.specs.Laws.{inward_no_wider}
use Rattle.residues.proofs.Inward.{inward_has_some, no_wider_itself, no_wider_trans}
use Rattle.residues.proofs.Keeping.{moved_keeps, stays_keeps, never_empty}
use Rattle.residues.proofs.pair.Pair.tightened.Goals as goal

pub returns-then-shares-clause-shares : goal.returns-then-shares-clause-shares
returns-then-shares-clause-shares g c = inward_has_some _ _ c.shares.ensures.proper (sym c.shares-2.ensures.value ∙ c.if-shares.true)

pub returns-then-shares-clause-plain : goal.returns-then-shares-clause-plain
returns-then-shares-clause-plain g c = λ t.
    no_wider_trans _ _ _ (inward_no_wider _ _ c.shares.ensures.proper.not_negative)
    (no_wider_trans _ _ _ (no_wider_itself _ _ (c.tight.ensures.exact t)) (inward_no_wider _ _ c.shares.ensures.proper.not_negative))

pub returns-then-shares-clause-bounds : goal.returns-then-shares-clause-bounds
returns-then-shares-clause-bounds g c = λ t. no_wider_trans _ _ _ (no_wider_itself _ _ (c.tight.ensures.exact t)) (inward_no_wider _ _ c.shares.ensures.proper.not_negative)

pub returns-then-shares-clause-keeps : goal.returns-then-shares-clause-keeps
returns-then-shares-clause-keeps g c = λ t.
    let class = g.W.ValueDomain.class c.args.self.now.class in
    let known = g.V.ValueDomain.known c.args.self.now.bounds in
    moved_keeps class known (g.V.ValueDomain.known c.tight.result) c.shares.ensures.proper.not_negative (c.tight.ensures.exact t)

pub returns-then-not-shares-clause-loose : goal.returns-then-not-shares-clause-loose
returns-then-not-shares-clause-loose g c = λ t.
    let class = g.W.ValueDomain.class c.args.self.now.class in
    let known = g.V.ValueDomain.known c.args.self.now.bounds in
    stays_keeps class known (sym c.shares.ensures.value ∙ c.if-not-shares.true)

pub returns-else-shares-clause-loose : goal.returns-else-shares-clause-loose
returns-else-shares-clause-loose g c = λ t.
    let class = g.W.ValueDomain.class c.args.self.now.class in
    let known = g.V.ValueDomain.known c.args.self.now.bounds in
    absurd (never_empty class known (g.V.ValueDomain.known c.tight.result) c.shares.ensures.proper.not_negative (c.tight.ensures.exact t)
    (sym c.shares.ensures.value ∙ c.if-not-shares.false) (sym c.shares-2.ensures.value ∙ c.if-shares.false))
