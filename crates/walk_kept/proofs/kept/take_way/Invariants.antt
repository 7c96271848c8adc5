use Rattle.std.proofs.Common.{◌≡◌, ◌⊎◌, [], ◌∷◌, None, Some, vec_len}
use Rattle.std.specs.Prelude.{◌≢◌}
use Rattle.csharp.specs.Trees.{CsProgramTree}
use Rattle.csharp.specs.States.{State}
use Rattle.walk_owes.specs.declared.way.Way.{Way}
use Rattle.walk_owes.specs.declared.way.Kept.{Kept}
use Rattle.walk_owes.specs.Owes.{AllFor, HasWay, InSome, KeepsState, SomeFor}
use Rattle.walk_kept.proofs.kept.take_way.Given as goal

abbrev pub invariant-loop-own : goal.invariant-loop-own
invariant-loop-own g l = record {
  is_for : (q : CsProgramTree) → AllFor g.M.MemDomain.is_for q l.fn.kept.items
      → AllFor g.M.MemDomain.is_for q l.kept.items × AllFor g.M.MemDomain.is_for q l.rest.items × SomeFor g.M.MemDomain.is_for q l.found;
  taken : (w : Way) (s : State) → KeepsState g.M.MemDomain.stands l.fn.kept.items w s
      → KeepsState g.M.MemDomain.stands l.kept.items w s
      ⊎ (((w ≡ l.way) × InSome g.M.MemDomain.stands l.found s) ⊎ KeepsState g.M.MemDomain.stands l.rest.items w s);
  gone : HasWay l.rest.items l.way → ⊥;
  kept_only : (w : Way) → HasWay l.kept.items w → HasWay l.fn.kept.items w;
  rest_only : (w : Way) → HasWay l.rest.items w → HasWay l.fn.kept.items w;
  none : l.fn.kept.items ≡ [] → (l.kept.items ≡ []) × (l.found ≡ None) × (l.rest.items ≡ []);
  hit : (x : Kept _) → l.fn.kept.items ≡ x ∷ [] → x.way ≡ l.way → ((l.kept.items ≡ x ∷ []) × (l.found ≡ None) × (l.rest.items ≡ []))
      ⊎ ((l.kept.items ≡ []) × (l.found ≡ Some x.state) × (l.rest.items ≡ []));
  miss : (x : Kept _) → l.fn.kept.items ≡ x ∷ [] → x.way ≢ l.way → ((l.kept.items ≡ x ∷ []) × (l.found ≡ None) × (l.rest.items ≡ []))
      ⊎ ((l.kept.items ≡ []) × (l.found ≡ None) × (l.rest.items ≡ x ∷ []));
}

abbrev pub decreases-loop-own : goal.decreases-loop-own
decreases-loop-own g l = vec_len l.kept
