use Rattle.std.proofs.Common.{◌≡◌, ◌≤◌, length, drop}
use Rattle.c_machine_trees.specs.Statements.{inits_from}
use Rattle.c_steps.specs.Statements.{init_items}
use Rattle.c_machine_work.specs.Works.{work_of}
use Rattle.c_machine_work.proofs.work.Work.put_each_init.Given as goal

abbrev pub invariant-loop-rest : goal.invariant-loop-rest
invariant-loop-rest l = (l.rest ≤ length l.inits) × (work_of l.self ≡ init_items l.object (inits_from (drop l.rest l.inits)) (work_of l.initial.self))

abbrev pub decreases-loop-rest : goal.decreases-loop-rest
decreases-loop-rest l = l.rest
