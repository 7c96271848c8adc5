use Rattle.std.proofs.Common.{◌≡◌, ◌⊎◌, [], ◌∷◌, None, vec_len}
use Rattle.csharp.specs.Trees.{CsProgramTree}
use Rattle.csharp.specs.States.{State}
use Rattle.walk_owes.specs.declared.way.Way.{Way}
use Rattle.walk_owes.specs.declared.way.Kept.{Kept}
use Rattle.walk_owes.specs.Owes.{AllFor, GoesOut, InSome, KeepsState, SomeFor}
use Rattle.walk_owes.specs.Exactly.{OutOf}
use Rattle.walk_kept.proofs.kept.leave.Given as goal

abbrev pub invariant-loop-way : goal.invariant-loop-way
invariant-loop-way g l = record {
  is_for : (q : CsProgramTree) → AllFor g.M.MemDomain.is_for q l.fn.inner.items → SomeFor g.M.MemDomain.is_for q l.fn.after
      → AllFor g.M.MemDomain.is_for q l.inner.items × SomeFor g.M.MemDomain.is_for q l.all;
  kept_for : (q : CsProgramTree) → AllFor g.M.MemDomain.is_for q l.fn.inner.items → AllFor g.M.MemDomain.is_for q l.fn.kept.items
      → AllFor g.M.MemDomain.is_for q l.inner.items × AllFor g.M.MemDomain.is_for q l.kept.items;
  old : (w : Way) (s : State) → KeepsState g.M.MemDomain.stands l.fn.kept.items w s → KeepsState g.M.MemDomain.stands l.kept.items w s;
  after : (s : State) → InSome g.M.MemDomain.stands l.fn.after s → InSome g.M.MemDomain.stands l.all s;
  exits : (w : Way) (s : State) → KeepsState g.M.MemDomain.stands l.fn.inner.items w s
      → KeepsState g.M.MemDomain.stands l.inner.items w s ⊎ GoesOut g.M.MemDomain.stands l.kept.items l.all w s;
  none : l.fn.inner.items ≡ [] → (l.inner.items ≡ []) × (l.all ≡ l.fn.after) × (l.kept.items ≡ l.fn.kept.items);
  one : (x : Kept _) → l.fn.inner.items ≡ x ∷ [] → l.fn.after ≡ None → l.fn.kept.items ≡ []
      → ((l.inner.items ≡ x ∷ []) × (l.all ≡ None) × (l.kept.items ≡ [])) ⊎ ((l.inner.items ≡ []) × OutOf x.way x.state l.kept.items l.all);
}

abbrev pub decreases-loop-way : goal.decreases-loop-way
decreases-loop-way g l = vec_len l.inner
