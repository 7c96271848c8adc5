use Rattle.std.proofs.Common.{subst}
use Rattle.num_api.specs.declared.expr.NOp.{NOp}
use Rattle.mem_temps.specs.Found.{IsFound}
use Rattle.mem_temps.proofs.Results.{wrapped_result}
use Rattle.mem_temps.proofs.operators.result_range.Goals as goal

pub returns : goal.returns
returns c =
    wrapped_result c.args.op c.args.t c.args.r c.args.s c.typed_range.result c.wrap_range.result.range c.wrap_range.result.way
    (subst (λ (o : NOp). IsFound o c.args.t c.args.r c.args.s c.typed_range.result) c.number_operator.ensures
    (c.typed_range.ensures.holds, c.typed_range.ensures.point, c.typed_range.ensures.plain))
    c.wrap_range.ensures c.requires.left c.requires.right c.requires.other
