use Rattle.std.proofs.Common.{◌≡◌, drop}
use Rattle.csharp.specs.Actions.{is_among}
use Rattle.csharp_state.proofs.actions.is_among.Given as goal

abbrev pub invariant-loop-other : goal.invariant-loop-other
invariant-loop-other l = is_among l.name (drop l.other-index l.names) ≡ is_among l.name l.names
