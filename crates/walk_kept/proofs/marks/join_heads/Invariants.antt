use Rattle.std.proofs.Common.{◌≡◌, ◌⊎◌, None, length}
use Rattle.csharp.specs.Trees.{CsProgramTree}
use Rattle.csharp.specs.States.{State}
use Rattle.walk_owes.specs.Owes.{InSome, SomeFor}
use Rattle.walk_owes.specs.Items.{HasHead, HeadsFor}
use Rattle.walk_owes.specs.Exactly.{HeadAlone, IsBare}
use Rattle.walk_kept.proofs.marks.join_heads.Given as goal

abbrev pub invariant-loop-head : goal.invariant-loop-head
invariant-loop-head g l = record {
  is_for : (q : CsProgramTree) → SomeFor g.M.MemDomain.is_for q l.fn.flow → HeadsFor g.M.MemDomain.is_for q l.heads
      → SomeFor g.M.MemDomain.is_for q l.all × HeadsFor g.M.MemDomain.is_for q l.rest;
  flow : (s : State) → InSome g.M.MemDomain.stands l.fn.flow s → InSome g.M.MemDomain.stands l.all s;
  heads : (s : State) → HasHead g.M.MemDomain.stands l.heads l.mark s → HasHead g.M.MemDomain.stands l.rest l.mark s ⊎ InSome g.M.MemDomain.stands l.all s;
  bare : IsBare l.heads l.mark → IsBare l.rest l.mark × (l.all ≡ l.fn.flow);
  alone : (s : State) → HeadAlone g.M.MemDomain.sharp l.heads l.mark s → l.fn.flow ≡ None
      → ((l.all ≡ None) × HeadAlone g.M.MemDomain.sharp l.rest l.mark s) ⊎ (InSome g.M.MemDomain.sharp l.all s × IsBare l.rest l.mark);
}

abbrev pub decreases-loop-head : goal.decreases-loop-head
decreases-loop-head g l = length l.rest
