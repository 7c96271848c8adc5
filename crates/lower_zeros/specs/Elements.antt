-- The byte of an array in the element that it lies in.
use Rattle.std.specs.Prelude.{ℕ, ◌%◌, Option, unwrap_or}
use Rattle.c_syntax.specs.Types.{CTypeTree, Array}

abbrev pub in_element : Option ℕ → CTypeTree → ℕ → ℕ
in_element size (Array of is_const n) byte = byte % unwrap_or size 1
in_element size ty byte = byte
