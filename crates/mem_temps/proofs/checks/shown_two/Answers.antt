use Rattle.mem_temps.proofs.ByKind.{shows_pair}
use Rattle.mem_temps.proofs.checks.shown_two.Goals as goal

pub returns : goal.returns
returns c = shows_pair c.args.left c.args.right c.shown_set.result c.shown_set-2.result c.shown_set.ensures c.shown_set-2.ensures
