use Rattle.std.proofs.Common.{sym, ◌∙◌, subst}
use Rattle.std.specs.Prelude.{IsTrue}
use Rattle.num_api.specs.declared.message.Range.{Range}
use Rattle.num_api.specs.Ranges.{InRange, holds_some}
use Rattle.residues.proofs.Inward.{inward_holds, moved_not_empty, same_range}
use Rattle.residues.proofs.Keeping.{all_keeps}
use Rattle.residues.proofs.pair.Pair.tight.Goals as goal

pub returns-in_default-clause-exact : goal.returns-in_default-clause-exact
returns-in_default-clause-exact g c = λ t.
    absurd (moved_not_empty (g.W.ValueDomain.class c.args.self.now.class) (g.V.ValueDomain.known c.args.self.now.bounds) (λ q. c.is_same.ensures.other c.if-is_same.false (c.ends-ends.ensures.value ∙ q ∙ sym c.range.ensures.value)) (λ n h. c.in_default.ensures.none n (subst (λ (r : Range). InRange r n) (sym c.ends-ends.ensures.value) h)))

pub returns-then-not-is_same-clause-exact : goal.returns-then-not-is_same-clause-exact
returns-then-not-is_same-clause-exact g c = λ t.
    let holds = subst (λ (r : Range). IsTrue (holds_some r)) (sym c.ends-ends.ensures.value) (inward_holds (g.W.ValueDomain.class c.args.self.now.class) (g.V.ValueDomain.known c.args.self.now.bounds) (λ q. c.is_same.ensures.other c.if-is_same.false (c.ends-ends.ensures.value ∙ q ∙ sym c.range.ensures.value))) in
    same_range c.ends-ends.result (g.V.ValueDomain.known c.in-Some.inside) (c.in-Some.ensures.plain t)
    (λ n i. subst (λ (r : Range). InRange r n) c.range-2.ensures.value (c.range-2.ensures.holds n (c.in-Some.ensures.some n i))) holds
    ∙ c.ends-ends.ensures.value

pub returns-then-is_of_all-clause-exact : goal.returns-then-is_of_all-clause-exact
returns-then-is_of_all-clause-exact g c = λ t. all_keeps (g.W.ValueDomain.class c.args.self.now.class) (g.V.ValueDomain.known c.args.self.now.bounds) (c.is_of_all.ensures c.if-is_of_all.true)
