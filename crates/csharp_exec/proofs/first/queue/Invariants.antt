use Rattle.std.proofs.Common.{◌≡◌, take}
use Rattle.csharp_exec.proofs.first.queue.Given as goal

abbrev pub invariant-loop-input : goal.invariant-loop-input
invariant-loop-input l = l.queue.items ≡ take l.input-index l.inputs
