use Rattle.bound_matrix.proofs.matrices.close.Given as goal

abbrev pub ghosts-close_uncounted : goal.ghosts-close_uncounted
ghosts-close_uncounted a = record { name = a.blank.name; parts = a.blank.parts }
