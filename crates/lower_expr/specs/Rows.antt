-- Temporaries in whole rows.
use Rattle.std.specs.Prelude.{ℕ, ◌+◌, ◌/◌, List, ◌++◌, length, drop}
use Rattle.block_mem.specs.declared.types.Scalar.{Scalar}
use Rattle.lower_trees.specs.Temps.{rows}

-- temporaries, filled up to so many rows
abbrev pub with_rows : List Scalar → ℕ → List Scalar
with_rows temps count = temps ++ drop (length temps) (rows count)

-- the first row that begins behind these temporaries
abbrev pub first_row : List Scalar → ℕ
first_row temps = (length temps + 11) / 12
