use Rattle.num_api.specs.Exprs.{nexpr_tree}
use Rattle.num_api.specs.Standings.{standing_of}
use Rattle.octagons_linear.proofs.Reading.{sides-stand}
use Rattle.octagons_linear.proofs.limits.compared_limits.Goals as goal

pub returns-in-Some : goal.returns-in-Some
returns-in-Some c = sides-stand (nexpr_tree c.args.a.now) (nexpr_tree c.args.b.now) (standing_of c.args.how) c.in-Some-Some.left c.in-Some-Some.right c.in-Some.sum_to_zero c.limits_at.result
    c.in-Some-Some.ensures c.in-Some-Some.ensures' c.in-Some.ensures c.limits_at.ensures
