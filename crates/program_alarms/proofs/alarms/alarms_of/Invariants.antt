use Rattle.program_alarms.proofs.alarms.alarms_of.Given as goal

abbrev pub ghosts-analyzed : goal.ghosts-analyzed
ghosts-analyzed a = record { list = a.steps.now }
