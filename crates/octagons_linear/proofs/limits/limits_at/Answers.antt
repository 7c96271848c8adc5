use Rattle.std.proofs.Common.{ℤ, pos, ap, subst, ◌≡◌}
use Rattle.num_api.specs.declared.standings.Standing.{Standing}
use Rattle.num_api.specs.Standings.{standing_of, Stands}
use Rattle.octagons_linear.specs.Forms.{linear_value}
use Rattle.octagons_linear.proofs.Reading.{greater-limits}
use Rattle.octagons_linear.proofs.limits.limits_at.Goals as goal

pub returns-in-Greater : goal.returns-in-Greater
returns-in-Greater c = λ v s. record {
  first = greater-limits c.args.sum_to_zero c.difference.result c.difference.ensures v (subst (λ (h : Standing). Stands (standing_of h) (linear_value v c.args.sum_to_zero) (pos 0)) c.in-Greater.is s);
  second = tt;
}
