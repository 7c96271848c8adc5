use Rattle.std.proofs.Common.{◌≡◌, ◌⊎◌, ◌+◌, ◌<◌, ◌≤◌, ℕ, [], ◌∷◌, vec_len}
use Rattle.std.specs.Prelude.{◌≢◌}
use Rattle.csharp.specs.Trees.{CsProgramTree}
use Rattle.csharp.specs.States.{State}
use Rattle.walk_owes.specs.declared.marks.Change.TheVariants as changes
use Rattle.walk_owes.specs.declared.marks.Mark.{Mark}
use Rattle.walk_owes.specs.declared.marks.Mark.TheVariants as marks
use Rattle.walk_owes.specs.declared.way.Way.{Way}
use Rattle.walk_owes.specs.declared.way.Kept.{Kept}
use Rattle.walk_owes.specs.declared.way.Way.TheVariants as ways
use Rattle.walk_owes.specs.Owes.{AllFor, KeepsState}
use Rattle.walk_owes.specs.Heads.{IsHead, missing, weigh}
use Rattle.walk_owes.specs.Items.{HasHead, HeadsFor}
use Rattle.walk_kept.proofs.passes.step_heads.Given as goal

abbrev pub invariant-loop-mark : goal.invariant-loop-mark
invariant-loop-mark g l = record {
  heads_for : (q : CsProgramTree) → HeadsFor g.M.MemDomain.is_for q l.fn.heads.items → AllFor g.M.MemDomain.is_for q l.fn.kept.items
      → HeadsFor g.M.MemDomain.is_for q l.heads.items × HeadsFor g.M.MemDomain.is_for q l.done.items;
  kept_for : (q : CsProgramTree) → AllFor g.M.MemDomain.is_for q l.fn.kept.items → AllFor g.M.MemDomain.is_for q l.kept.items;
  back : (mark : Mark) (s : State) → HasHead g.M.MemDomain.stands l.heads.items mark s → HasHead g.M.MemDomain.stands l.fn.heads.items mark s;
  old : (mark : Mark) (s : State) → HasHead g.M.MemDomain.stands l.fn.heads.items mark s
      → HasHead g.M.MemDomain.stands l.heads.items mark s ⊎ HasHead g.M.MemDomain.stands l.done.items mark s;
  there : (k : ℕ) → IsHead l.fn.heads.items k → IsHead l.heads.items k ⊎ IsHead l.done.items k;
  heads_only : (k : ℕ) → IsHead l.heads.items k → IsHead l.fn.heads.items k;
  done_only : (k : ℕ) → IsHead l.done.items k → IsHead l.fn.heads.items k;
  fewer : missing l.heads.items + missing l.done.items ≤ missing l.fn.heads.items;
  new : l.change ≡ changes.New → missing l.heads.items + missing l.done.items < missing l.fn.heads.items;
  wider : l.change ≡ changes.Wider → weigh (g.M.MemDomain.weight g.S.Steps.list) l.heads.items + weigh (g.M.MemDomain.weight g.S.Steps.list) l.done.items
      < weigh (g.M.MemDomain.weight g.S.Steps.list) l.fn.heads.items;
  same : l.change ≡ changes.Same → weigh (g.M.MemDomain.weight g.S.Steps.list) l.heads.items + weigh (g.M.MemDomain.weight g.S.Steps.list) l.done.items
      ≡ weigh (g.M.MemDomain.weight g.S.Steps.list) l.fn.heads.items;
  closed : l.change ≡ changes.Same → (k : ℕ) (s : State) → IsHead l.fn.heads.items k → KeepsState g.M.MemDomain.stands l.fn.kept.items (ways.Goto k) s
      → (IsHead l.heads.items k × KeepsState g.M.MemDomain.stands l.kept.items (ways.Goto k) s)
      ⊎ HasHead g.M.MemDomain.stands l.fn.heads.items (marks.Label k) s;
  left : (w : Way) (s : State) → KeepsState g.M.MemDomain.stands l.fn.kept.items w s
      → KeepsState g.M.MemDomain.stands l.kept.items w s ⊎ ((k : ℕ) × (w ≡ ways.Goto k) × IsHead l.fn.heads.items k);
  none : l.fn.kept.items ≡ [] → (l.change ≡ changes.Same) × (l.kept.items ≡ []);
  one : (x : Kept _) → l.fn.kept.items ≡ x ∷ [] → ((k : ℕ) → IsHead l.fn.heads.items k → x.way ≢ ways.Goto k) → (l.change ≡ changes.Same) × (l.kept.items ≡ x ∷ []);
}

abbrev pub decreases-loop-mark : goal.decreases-loop-mark
decreases-loop-mark g l = vec_len l.heads
