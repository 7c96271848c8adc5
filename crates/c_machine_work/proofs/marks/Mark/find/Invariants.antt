use Rattle.std.proofs.Common.{◌≡◌, ◌-◌, ◌≤◌, length, drop}
use Rattle.c_machine_trees.specs.Statements.{stmts_from}
use Rattle.c_steps.specs.Marks.{behind, has}
use Rattle.c_machine_work.specs.Marks.{mark_of}
use Rattle.c_machine_work.proofs.marks.Mark.find.Given as goal

abbrev pub invariant-loop-k : goal.invariant-loop-k
invariant-loop-k l =
    (l.k ≤ length l.items)
    × (has (mark_of l.self) (stmts_from l.items) ≡ has (mark_of l.self) (stmts_from (drop l.k l.items)))
    × (behind (mark_of l.self) (stmts_from l.items) ≡ behind (mark_of l.self) (stmts_from (drop l.k l.items)))

abbrev pub decreases-loop-k : goal.decreases-loop-k
decreases-loop-k l = length l.items - l.k
