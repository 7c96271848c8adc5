use Rattle.std.proofs.Common.{◌≡◌, ◌⊎◌, [], ◌∷◌, vec_len}
use Rattle.csharp.specs.Trees.{CsProgramTree}
use Rattle.csharp.specs.States.{State}
use Rattle.walk_owes.specs.declared.way.Way.{Way}
use Rattle.walk_owes.specs.declared.way.Kept.{Kept}
use Rattle.walk_owes.specs.Owes.{AllFor, KeepsState}
use Rattle.walk_kept.proofs.kept.keep_all.Given as goal

abbrev pub invariant-loop-way : goal.invariant-loop-way
invariant-loop-way g l = record {
  inner_for : (q : CsProgramTree) → AllFor g.M.MemDomain.is_for q l.fn.inner.items → AllFor g.M.MemDomain.is_for q l.inner.items;
  kept_for : (q : CsProgramTree) → AllFor g.M.MemDomain.is_for q l.fn.inner.items → AllFor g.M.MemDomain.is_for q l.fn.kept.items
      → AllFor g.M.MemDomain.is_for q l.kept.items;
  old : (w : Way) (s : State) → KeepsState g.M.MemDomain.stands l.fn.kept.items w s → KeepsState g.M.MemDomain.stands l.kept.items w s;
  new : (w : Way) (s : State) → KeepsState g.M.MemDomain.stands l.fn.inner.items w s
      → KeepsState g.M.MemDomain.stands l.inner.items w s ⊎ KeepsState g.M.MemDomain.stands l.kept.items w s;
  none : l.fn.inner.items ≡ [] → (l.inner.items ≡ []) × (l.kept.items ≡ l.fn.kept.items);
  one : (x : Kept _) → l.fn.inner.items ≡ x ∷ [] → l.fn.kept.items ≡ []
      → ((l.inner.items ≡ x ∷ []) × (l.kept.items ≡ [])) ⊎ ((l.inner.items ≡ []) × (l.kept.items ≡ x ∷ []));
}

abbrev pub decreases-loop-way : goal.decreases-loop-way
decreases-loop-way g l = vec_len l.inner
