use Rattle.std.proofs.Common.{rules, ◌≡◌, subst, sym}
use Rattle.num_api.specs.Exprs.{nexpr_tree}
use Rattle.equalities.specs.Pairs.{equalities_of, AreSo, assigned}
use Rattle.equalities.proofs.Lemmas.{are_so_assigned}
use Rattle.equalities.proofs.state.EqualitiesNumDomain.assign.Goals as goal

pub returns-clause-after : goal.returns-clause-after
returns-clause-after g c = λ v w n a o f t.
    let e : equalities_of c.set_pair.new.pairs.items ≡ assigned c.args.x.0 (nexpr_tree c.args.e.now) c.args.self.now = search rules in
    subst (AreSo w) (sym e) (are_so_assigned c.args.x.0 n (nexpr_tree c.args.e.now) v w c.args.self.now t f a)
