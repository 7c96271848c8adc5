use Rattle.bound_matrix.proofs.matrices.Matrix.get.Given as goal

abbrev pub ghosts-get_uncounted : goal.ghosts-get_uncounted
ghosts-get_uncounted a = record { name = a.blank.name; parts = a.blank.parts }
