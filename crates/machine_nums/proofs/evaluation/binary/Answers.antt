use Rattle.machine_nums.proofs.Results.{result_binary}
use Rattle.machine_nums.proofs.evaluation.binary.Goals as goal

pub returns : goal.returns
returns g c = λ d e left right.
    result_binary _ _ _ _ c.args.op c.args.t d e c.args.a c.args.b _ c.told.result c.in_ok-plain.ensures c.are_kept-is_kept.ensures
    c.typed_range-range.ensures.holds c.typed_range-range.ensures.point c.typed_range-range.ensures.plain c.told.ensures left right
