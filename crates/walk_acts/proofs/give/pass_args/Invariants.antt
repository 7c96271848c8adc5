use Rattle.std.proofs.Common.{◌≡◌, length, map, Some}
use Rattle.csharp.specs.Trees.{CsProgramTree, csexpr_tree}
use Rattle.csharp.specs.States.{State}
use Rattle.csharp.specs.Actions.{pass}
use Rattle.walk_owes.specs.Walkable.{AreArgsReady}
use Rattle.walk_acts.proofs.give.pass_args.Given as goal

abbrev pub invariant-loop-arg : goal.invariant-loop-arg
invariant-loop-arg g l = record {
  ready : (q : CsProgramTree) → g.M.MemDomain.is_for l.fn.state q → AreArgsReady q (map csexpr_tree l.args) l.params
      → g.M.MemDomain.is_for l.state q × AreArgsReady q (map csexpr_tree l.rest) l.others;
  is_for : (q : CsProgramTree) → g.M.MemDomain.is_for l.fn.state q → g.M.MemDomain.is_for l.state q;
  stands : (s t : State) → g.M.MemDomain.stands l.fn.state s → pass (map csexpr_tree l.args) l.params s ≡ Some t
      → (u : State) × g.M.MemDomain.stands l.state u × (pass (map csexpr_tree l.rest) l.others u ≡ Some t);
  sharp : (s t : State) → g.M.MemDomain.sharp l.fn.state s → pass (map csexpr_tree l.args) l.params s ≡ Some t
      → (u : State) × g.M.MemDomain.sharp l.state u × (pass (map csexpr_tree l.rest) l.others u ≡ Some t);
}

abbrev pub decreases-loop-arg : goal.decreases-loop-arg
decreases-loop-arg g l = length l.rest
