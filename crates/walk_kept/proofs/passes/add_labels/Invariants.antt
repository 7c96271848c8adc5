use Rattle.std.proofs.Common.{◌≡◌, ◌⊎◌, ℕ, true, length}
use Rattle.csharp.specs.Trees.{CsProgramTree, csstmts_from}
use Rattle.csharp.specs.States.{State}
use Rattle.csharp.specs.Meaning.{AtLabel, has}
use Rattle.walk_owes.specs.declared.marks.Mark.{Mark}
use Rattle.walk_owes.specs.Heads.{IsHead}
use Rattle.walk_owes.specs.Items.{HasHead, HeadsFor}
use Rattle.walk_owes.specs.Exactly.{HeadAlone, IsBare}
use Rattle.walk_kept.proofs.passes.add_labels.Given as goal

abbrev pub invariant-loop-item : goal.invariant-loop-item
invariant-loop-item g l = record {
  is_for : (q : CsProgramTree) → HeadsFor g.M.MemDomain.is_for q l.fn.heads.items → HeadsFor g.M.MemDomain.is_for q l.heads.items;
  old : (mark : Mark) (s : State) → HasHead g.M.MemDomain.stands l.fn.heads.items mark s → HasHead g.M.MemDomain.stands l.heads.items mark s;
  labels : (k : ℕ) → has (AtLabel k) (csstmts_from l.items) ≡ true → IsHead l.heads.items k ⊎ (has (AtLabel k) (csstmts_from l.rest) ≡ true);
  only : (k : ℕ) → IsHead l.heads.items k → IsHead l.fn.heads.items k ⊎ (has (AtLabel k) (csstmts_from l.items) ≡ true);
  bare : (mark : Mark) → IsBare l.fn.heads.items mark → IsBare l.heads.items mark;
  alone : (mark : Mark) (s : State) → HeadAlone g.M.MemDomain.sharp l.fn.heads.items mark s → HeadAlone g.M.MemDomain.sharp l.heads.items mark s;
  among : (k : ℕ) → has (AtLabel k) (csstmts_from l.rest) ≡ true → has (AtLabel k) (csstmts_from l.items) ≡ true;
}

abbrev pub decreases-loop-item : goal.decreases-loop-item
decreases-loop-item g l = length l.rest
