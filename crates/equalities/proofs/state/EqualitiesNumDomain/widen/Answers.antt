use Rattle.std.proofs.Common.{rules, ◌≡◌, ◌≤◌, ◌<◌, List, length, subst, sym}
use Rattle.equalities.specs.Pairs.{Equality}
use Rattle.equalities.specs.Pairs.{equalities_of, AreSo, shared}
use Rattle.equalities.proofs.Lemmas.{are_so_left, are_so_right, no_more, fewer}
use Rattle.equalities.proofs.state.EqualitiesNumDomain.widen.Goals as goal

pub returns-clause-left : goal.returns-clause-left
returns-clause-left g c = λ v a.
    let e : equalities_of c.keep_shared.new.pairs.items ≡ shared c.args.self.now c.args.next.now = search rules in
    subst (AreSo v) (sym e) (are_so_left v c.args.self.now c.args.next.now a)

pub returns-clause-right : goal.returns-clause-right
returns-clause-right g c = λ v a.
    let e : equalities_of c.keep_shared.new.pairs.items ≡ shared c.args.self.now c.args.next.now = search rules in
    subst (AreSo v) (sym e) (are_so_right v c.args.self.now c.args.next.now a)

pub returns-clause-no_rise : goal.returns-clause-no_rise
returns-clause-no_rise g c =
    let e : equalities_of c.keep_shared.new.pairs.items ≡ shared c.args.self.now c.args.next.now = search rules in
    subst (λ (l : List Equality). length l ≤ length c.args.self.now) (sym e) (no_more c.args.self.now c.args.next.now)

pub returns-clause-falls : goal.returns-clause-falls
returns-clause-falls g c = λ f.
    let e : equalities_of c.keep_shared.new.pairs.items ≡ shared c.args.self.now c.args.next.now = search rules in
    subst (λ (l : List Equality). length l < length c.args.self.now) (sym e) (fewer c.args.self.now c.args.next.now f)
