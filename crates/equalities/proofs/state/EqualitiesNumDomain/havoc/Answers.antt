use Rattle.std.proofs.Common.{rules, ◌≡◌, subst, sym}
use Rattle.equalities.specs.Pairs.{equalities_of, AreSo, apart_from}
use Rattle.equalities.proofs.Lemmas.{are_so_apart}
use Rattle.equalities.proofs.state.EqualitiesNumDomain.havoc.Goals as goal

pub returns-clause-after : goal.returns-clause-after
returns-clause-after c = λ v w n a r t.
    let e : equalities_of c.keep_apart.new.pairs.items ≡ apart_from c.args.x.0 c.args.self.now = search rules in
    subst (AreSo w) (sym e) (are_so_apart c.args.x.0 n v w c.args.self.now t a)
