use Rattle.std.proofs.Common.{refl}
use Rattle.std.proofs.lemmas.Result.{on_ok_weaker}
use Rattle.ext_int.specs.Valuation.{value_at}
use Rattle.num_api.specs.Exprs.{nexpr_tree}
use Rattle.octagons_changes.proofs.relations.Relations.bring_known.Goals as goal

pub returns-clause-points : goal.returns-clause-points
unfolding nexpr_tree
returns-clause-points g c = on_ok_weaker c.bring.result (λ p v h a. p v h (c.range.ensures.holds v (value_at v c.args.x) a refl)) c.bring.ensures.points
