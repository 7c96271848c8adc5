use Rattle.tests_layers.proofs.matrices.counts_steps.Given as goal

abbrev pub ghosts-steps_of_closing : goal.ghosts-steps_of_closing
ghosts-steps_of_closing g a = record { name = a.blank.name; parts = a.blank.parts }
