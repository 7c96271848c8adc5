use Rattle.std.proofs.Common.{◌≡◌, ◌≤◌, length, drop}
use Rattle.c_machine_trees.specs.Expressions.{exprs_from}
use Rattle.c_steps.specs.Calls.{evals}
use Rattle.c_machine_work.specs.Works.{work_of}
use Rattle.c_machine_work.proofs.work.Work.put_call.Given as goal

abbrev pub invariant-loop-rest : goal.invariant-loop-rest
invariant-loop-rest l =
    (l.rest ≤ length l.initial.args) × (work_of l.self ≡ evals (exprs_from (drop l.rest l.initial.args)) (work_of l.initial.self))

abbrev pub decreases-loop-rest : goal.decreases-loop-rest
decreases-loop-rest l = l.rest
