use Rattle.mem_temps.proofs.Results.{wrapped_test}
use Rattle.mem_temps.proofs.operators.test_range.Goals as goal

pub returns : goal.returns
returns c =
    wrapped_test c.args.op c.args.r c.args.s c.typed_range.result c.wrap_range.result.range c.wrap_range.result.way
    (c.typed_range.ensures.holds, c.typed_range.ensures.point, c.typed_range.ensures.plain) c.wrap_range.ensures
