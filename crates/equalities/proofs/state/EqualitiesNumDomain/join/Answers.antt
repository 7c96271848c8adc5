use Rattle.std.proofs.Common.{rules, ◌≡◌, subst, sym}
use Rattle.equalities.specs.Pairs.{equalities_of, AreSo, shared}
use Rattle.equalities.proofs.Lemmas.{are_so_left, are_so_right}
use Rattle.equalities.proofs.state.EqualitiesNumDomain.join.Goals as goal

pub returns-clause-left : goal.returns-clause-left
returns-clause-left c = λ v a.
    let e : equalities_of c.keep_shared.new.pairs.items ≡ shared c.args.self.now c.args.other.now = search rules in
    subst (AreSo v) (sym e) (are_so_left v c.args.self.now c.args.other.now a)

pub returns-clause-right : goal.returns-clause-right
returns-clause-right c = λ v a.
    let e : equalities_of c.keep_shared.new.pairs.items ≡ shared c.args.self.now c.args.other.now = search rules in
    subst (AreSo v) (sym e) (are_so_right v c.args.self.now c.args.other.now a)
