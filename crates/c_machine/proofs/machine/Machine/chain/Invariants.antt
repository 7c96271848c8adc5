use Rattle.std.proofs.Common.{◌≡◌, [], take}
use Rattle.c_steps.specs.Runs.{calls_in}
use Rattle.c_machine_work.specs.Views.{in_front}
use Rattle.c_machine.proofs.machine.Machine.chain.Given as goal

abbrev pub invariant-loop-item : goal.invariant-loop-item
invariant-loop-item l = l.calls.items ≡ calls_in (in_front (take l.item-index l.item-items) [])
