use Rattle.c_syntax.specs.Program.{tprogram_tree}
use Rattle.c_machine.specs.Made.{IsFor}
use Rattle.table_programs.proofs.runs.steps.Given as goal

abbrev pub invariant-steps : goal.invariant-steps
invariant-steps l = IsFor l.machine (tprogram_tree l.program)
