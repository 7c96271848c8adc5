use Rattle.std.proofs.Common.{rules, ◌≡◌, refl, subst, sym, Some}
use Rattle.num_api.specs.Exprs.{nexpr_tree}
use Rattle.equalities.specs.Pairs.{equalities_of, AreSo, learned, pair_of, told_by}
use Rattle.equalities.proofs.Lemmas.{are_so_learned, told_is_so}
use Rattle.equalities.proofs.state.EqualitiesNumDomain.assume.Goals as goal

pub returns-clause-after : goal.returns-clause-after
returns-clause-after g c = λ v n a o e h.
    let x = c.in-Some.x.0 in let t = nexpr_tree c.in-Some.same.now in
    let told : told_by (nexpr_tree c.args.e.now) c.args.truth ≡ Some (pair_of x t) = search rules in
    let new : equalities_of c.learn.new.pairs.items ≡ learned x t c.args.self.now = search rules in
    (refl, subst (AreSo v) (sym new) (are_so_learned v x t c.args.self.now (told_is_so v (nexpr_tree c.args.e.now) c.args.truth n (pair_of x t) told e h) a))
