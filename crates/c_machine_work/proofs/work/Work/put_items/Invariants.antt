use Rattle.std.proofs.Common.{◌≡◌, ◌≤◌, length, drop}
use Rattle.c_machine_trees.specs.Statements.{stmts_from}
use Rattle.c_steps.specs.Marks.{does}
use Rattle.c_machine_work.specs.Works.{work_of}
use Rattle.c_machine_work.proofs.work.Work.put_items.Given as goal

abbrev pub invariant-loop-rest : goal.invariant-loop-rest
invariant-loop-rest l = (l.rest ≤ length l.items) × (work_of l.self ≡ does (stmts_from (drop l.rest l.items)) (work_of l.initial.self))

abbrev pub decreases-loop-rest : goal.decreases-loop-rest
decreases-loop-rest l = l.rest
