use Rattle.bound_matrix.proofs.matrices.close_one.Given as goal

abbrev pub ghosts-close_one_uncounted : goal.ghosts-close_one_uncounted
ghosts-close_one_uncounted a = record { name = a.blank.name; parts = a.blank.parts }
