use Rattle.std.proofs.Common.{◌≡◌, true}
use Rattle.num_api.specs.Loops.{IsWidened}
use Rattle.num_api.proofs.fixpoint.settle_value.Given as goal

abbrev pub invariant-loop-next : goal.invariant-loop-next
invariant-loop-next g l = IsWidened g.V.ValueDomain.admits ((next : g.row.V.Denot) → g.F.Fn.post l.step (l.fn.start, tt) next → g.V.ValueDomain.holds l.fn.start next ≡ true) l.fn.start l.state

abbrev pub decreases-loop-next : goal.decreases-loop-next
decreases-loop-next g l = g.V.ValueDomain.weight g.S.Steps.list l.state
