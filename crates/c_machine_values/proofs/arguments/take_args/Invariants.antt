use Rattle.std.proofs.Common.{◌≡◌, ◌-◌, [], reverse}
use Rattle.c_steps.specs.Calls.{taken}
use Rattle.c_machine_work.specs.Views.{on_top}
use Rattle.c_machine_values.proofs.arguments.take_args.Given as goal

abbrev pub invariant-loop : goal.invariant-loop
invariant-loop l =
    taken l.count (on_top l.initial.stack []) [] ≡ taken (l.count - l.counter) (on_top l.stack []) (reverse l.args.items)
