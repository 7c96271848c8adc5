use Rattle.bound_matrix.proofs.matrices.Matrix.lower.Given as goal

abbrev pub ghosts-lower_uncounted : goal.ghosts-lower_uncounted
ghosts-lower_uncounted a = record { name = a.blank.name; parts = a.blank.parts }
