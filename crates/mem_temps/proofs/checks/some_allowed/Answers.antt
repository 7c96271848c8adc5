use Rattle.std.proofs.Common.{rules}
use Rattle.mem_temps.proofs.ByKind.{allowed_by}
use Rattle.mem_temps.proofs.checks.some_allowed.Goals as goal

pub returns : goal.returns
returns c = allowed_by c.args.r c.meet.result c.args.check.now.lo c.args.check.now.hi c.holds_some.result c.holds_some.ensures
    (search rules) c.meet.ensures.first (search rules)
