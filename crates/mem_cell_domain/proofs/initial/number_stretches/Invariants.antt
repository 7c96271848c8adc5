use Rattle.mem_cell_domain.specs.Starts.{AreRunning}
use Rattle.mem_cell_domain.proofs.initial.number_stretches.Given as goal

abbrev pub invariant-loop-at : goal.invariant-loop-at
invariant-loop-at l = AreRunning l.bytes l.stretches.items l.run
