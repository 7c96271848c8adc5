use Rattle.std.proofs.Common.{◌≡◌, ℕ, ℤ, true, length}
use Rattle.csharp.specs.Trees.{Assume, csexpr_tree, csprogram_tree, csstmts_from}
use Rattle.csharp.specs.Meaning.{AtCase, has}
use Rattle.mem_api.specs.Given.{IsOf}
use Rattle.walk_owes.specs.Exactly.{PartedAlone}
use Rattle.walk_owes.specs.Heads.{IsHead}
use Rattle.walk_owes.specs.Items.{HeadsFor, Parted}
use Rattle.walk_owes.specs.Owes.{SomeFor}
use Rattle.walk_owes.specs.Walkable.{equals}
use Rattle.iterator.proofs.switches.part_cases.Given as goal

abbrev pub invariant-loop-item : goal.invariant-loop-item
invariant-loop-item g l = record {
  left_for : SomeFor g.M.MemDomain.is_for (csprogram_tree l.program) l.left;
  heads_for : HeadsFor g.M.MemDomain.is_for (csprogram_tree l.program) l.heads.items;
  no_labels : (k : ℕ) → IsHead l.heads.items k → ⊥;
  cases : (n : ℤ) → has (AtCase n) (csstmts_from l.rest) ≡ true → IsOf (csprogram_tree l.program) (Assume (equals l.ty (csexpr_tree l.value) n));
  parted : Parted g.M.MemDomain.stands (csprogram_tree l.program) (csexpr_tree l.value) l.names (csstmts_from l.items) (csstmts_from l.rest) l.fn.state
      l.heads.items l.left;
  alone : PartedAlone g.M.MemDomain.sharp (csprogram_tree l.program) (csexpr_tree l.value) l.names (csstmts_from l.items) (csstmts_from l.rest) l.fn.state
      l.heads.items l.left;
}

abbrev pub decreases-loop-item : goal.decreases-loop-item
decreases-loop-item g l = length l.rest
