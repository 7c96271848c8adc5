use Rattle.std.proofs.Common.{◌≡◌, ◌∙◌, sym, subst, ⊎_elim}
use Rattle.walk_owes.specs.declared.way.Way.TheVariants as ways
use Rattle.walk_owes.specs.Owes.{KeepsState}
use Rattle.walk_owes.proofs.Heads.{keeps_way, label_same}
use Rattle.walk_kept.proofs.passes.step_head.Goals as goal

pub widen_by-requires-clause-one : goal.widen_by-requires-clause-one
widen_by-requires-clause-one g c = (c.requires.one.0, c.requires.one.1, c.in_ok-taken-in-Label.ensures.is_for c.requires.one.0 c.requires.one.2)

pub returns-in_ok-step-in-Label-clause-is_for : goal.returns-in_ok-step-in-Label-clause-is_for
returns-in_ok-step-in-Label-clause-is_for g c = λ q h k. c.in_ok-step-in-Label.ensures.is_for q h (c.in_ok-taken-in-Label.ensures.is_for q k)

pub returns-in_ok-step-in-Label-clause-closed : goal.returns-in_ok-step-in-Label-clause-closed
returns-in_ok-step-in-Label-clause-closed g c = λ e l s m k.
    let same : c.in-Label.label ≡ l = label_same c.in-Label.label l (sym c.in-Label.is ∙ m) in
    let i = subst (λ n. KeepsState g.M.MemDomain.stands c.args.kept.now.items (ways.Goto n) s) (sym same) k in
    ⊎_elim (λ t. c.in_ok-step-in-Label.ensures.closed e s t.1) (λ r. absurd (c.in_ok-taken-in-Label.ensures.gone (keeps_way g.M.MemDomain.stands _ (ways.Goto c.in-Label.label) s r)))
    (c.in_ok-taken-in-Label.ensures.taken (ways.Goto c.in-Label.label) s i)

pub returns-in_ok-step-in-Label-clause-none : goal.returns-in_ok-step-in-Label-clause-none
returns-in_ok-step-in-Label-clause-none g c = λ e.
    let t = c.in_ok-taken-in-Label.ensures.none e in
    (c.in_ok-step-in-Label.ensures.none t.0, t.1)

pub returns-in_ok-step-in-Label-clause-one : goal.returns-in_ok-step-in-Label-clause-one
returns-in_ok-step-in-Label-clause-one g c = λ x e n.
    let t = c.in_ok-taken-in-Label.ensures.miss x e (n c.in-Label.label c.in-Label.is) in
    (c.in_ok-step-in-Label.ensures.none t.0, t.1)
