use Rattle.csharp_held_laws.proofs.Runs as runs
use Rattle.csharp_held_laws.proofs.laws.runs_are_held.Goals as goal

pub returns-clause-code : goal.returns-clause-code
returns-clause-code c = runs.code_held

pub returns-clause-main : goal.returns-clause-main
returns-clause-main c = runs.runs_held
