use Rattle.std.proofs.Common.{◌≡◌, true}
use Rattle.std.specs.Prelude.{Ok}
use Rattle.std.specs.Fn.{FnReturnsAt}
use Rattle.num_api.specs.Loops.{IsWidened}
use Rattle.num_api.proofs.fixpoint.settle.Given as goal

abbrev pub invariant-loop-state : goal.invariant-loop-state
invariant-loop-state g l = IsWidened g.D.Oracle.admits ((next : g.row.D.Denot) → FnReturnsAt g.F.Fn l.step l.fn.start (Ok next) → g.D.NumDomain.holds l.fn.start next ≡ true) l.fn.start l.state

abbrev pub decreases-loop-state : goal.decreases-loop-state
decreases-loop-state g l = g.D.NumDomain.weight g.S.Steps.list l.state
