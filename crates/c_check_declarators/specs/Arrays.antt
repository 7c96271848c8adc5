-- Arrays of arrays.
use Rattle.std.specs.Prelude.{ℕ, Bool, false, List, [], ◌∷◌}
use Rattle.c_syntax.specs.Types.{CTypeTree, Array}

-- arrays of so many elements each, the outermost first, whose innermost elements are const or not
unfoldable pub arrays_of : List ℕ → CTypeTree → Bool → CTypeTree
arrays_of [] element is_const = element
arrays_of (n ∷ []) element is_const = Array element is_const n
arrays_of (n ∷ m ∷ rest) element is_const = Array (arrays_of (m ∷ rest) element is_const) false n
