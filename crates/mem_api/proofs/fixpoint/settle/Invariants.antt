use Rattle.csharp.specs.Trees.{CsProgramTree}
use Rattle.csharp.specs.States.{State}
use Rattle.mem_api.proofs.fixpoint.settle.Given as goal

abbrev pub invariant-loop-state : goal.invariant-loop-state
invariant-loop-state g l =
    ((q : CsProgramTree) → g.M.MemDomain.is_for l.fn.start q → g.M.MemDomain.is_for l.state q)
    × ((s : State) → g.M.MemDomain.stands l.fn.start s → g.M.MemDomain.stands l.state s)

abbrev pub decreases-loop-state : goal.decreases-loop-state
decreases-loop-state g l = g.M.MemDomain.weight g.S.Steps.list l.state
