use Rattle.bound_matrix.proofs.matrices.Matrix.raise.Given as goal

abbrev pub ghosts-raise_uncounted : goal.ghosts-raise_uncounted
ghosts-raise_uncounted a = record { name = a.blank.name; parts = a.blank.parts }
