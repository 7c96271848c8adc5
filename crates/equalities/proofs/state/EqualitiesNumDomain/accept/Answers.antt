use Rattle.std.proofs.Common.{rules, ◌≡◌, refl, subst, sym}
use Rattle.num_api.specs.Exprs.{nexpr_tree}
use Rattle.num_api.specs.Messages.{Holds}
use Rattle.equalities.specs.Pairs.{equalities_of, AreSo, learned}
use Rattle.equalities.proofs.Lemmas.{are_so_learned}
use Rattle.equalities.proofs.state.EqualitiesNumDomain.accept.Goals as goal

pub returns-in_ok-learn-in-Equal-clause-after : goal.returns-in_ok-learn-in-Equal-clause-after
returns-in_ok-learn-in-Equal-clause-after c = λ v a h.
    let x = c.in-Equal.x.0 in let t = nexpr_tree c.in-Equal.e in
    let new : equalities_of c.learn.new.pairs.items ≡ learned x t c.args.self.now = search rules in
    (refl, subst (AreSo v) (sym new) (are_so_learned v x t c.args.self.now (subst (Holds v) c.in-Equal.is h) a))
