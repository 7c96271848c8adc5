use Rattle.std.proofs.Common.{ℕ, ◌<◌, ◌≡◌, length, drop}
use Rattle.std.specs.Prelude.{All}
use Rattle.csharp.specs.Trees.{CsProgramTree}
use Rattle.csharp_exec.specs.Meets.{are_there}
use Rattle.csharp_exec.proofs.runs.are_there.Given as goal

-- the names that are left decide for all
abbrev pub invariant-loop-name : goal.invariant-loop-name
invariant-loop-name l = record {
  count : l.count ≡ length l.objects;
  test : (q : CsProgramTree) → length q.objects ≡ length l.objects → are_there q (drop l.name-index l.names) ≡ are_there q l.names;
  there : All (λ (name : ℕ). name < length l.objects) (drop l.name-index l.names) → All (λ (name : ℕ). name < length l.objects) l.names;
}
