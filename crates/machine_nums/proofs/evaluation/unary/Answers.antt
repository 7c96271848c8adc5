use Rattle.std.proofs.Common.{refl}
use Rattle.machine_nums.proofs.Results.{result_unary}
use Rattle.machine_nums.proofs.evaluation.unary.Goals as goal

pub returns : goal.returns
returns g c = λ t e val.
    result_unary _ _ _ _ c.args.op t e c.args.a _ c.told.result c.in_ok-plain.ensures refl c.unary_range-range.ensures.holds c.unary_range-range.ensures.point
    c.unary_range-range.ensures.plain c.told.ensures val
