use Rattle.std.proofs.Common.{rules, ◌≡◌, subst, sym}
use Rattle.equalities.specs.Pairs.{equalities_of, AreSo}
use Rattle.equalities.proofs.state.EqualitiesNumDomain.facts.Goals as goal

pub returns-clause-told : goal.returns-clause-told
returns-clause-told c = λ v a.
    let e : equalities_of c.as_slice.result.now ≡ c.args.self.now = search rules in
    c.in_ok-tell_all.ensures.told v (subst (AreSo v) (sym e) a)
