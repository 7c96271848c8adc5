use Rattle.std.proofs.Common.{rules, ◌≡◌, Some, subst, sym, ◌∙◌}
use Rattle.std.proofs.lemmas.Option.{IfSome_then, same_Some}
use Rattle.num_api.specs.Exprs.{nexpr_tree}
use Rattle.ext_int.specs.Valuation.{value_at}
use Rattle.equalities.specs.Pairs.{equalities_of, expr_of}
use Rattle.equalities.proofs.Lemmas.{found}
use Rattle.equalities.proofs.state.EqualitiesOracle.same.Goals as goal

pub returns-clause-holds : goal.returns-clause-holds
returns-clause-holds c =
    let e : equalities_of c.as_slice.result.now ≡ c.args.self.now = search rules in
    IfSome_then c.find.result c.find.ensures.some (λ t f v n a g.
    sym (same_Some n (value_at v c.args.x.0) (sym g ∙ found v c.args.x.0 (nexpr_tree t.now) c.args.self.now a (subst (λ l. expr_of l c.args.x.0 ≡ Some (nexpr_tree t.now)) e f))))
