use Rattle.std.proofs.Common.{◌≡◌, drop}
use Rattle.csharp_state.specs.Passing.{put_all}
use Rattle.csharp_state.proofs.state.State.put_all.Given as goal

abbrev pub invariant-loop-place : goal.invariant-loop-place
invariant-loop-place l = put_all (drop l.place l.temps) (drop l.place l.values) l.self ≡ put_all l.temps l.values l.fn.self
