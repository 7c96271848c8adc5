-- Lists of the objects of which temporaries are copies, by the temporaries' numbers.
use Rattle.std.specs.Prelude.{ℕ, Bool, true, false, List, [], ◌∷◌, map, Option, Some, None, slice_index_or}
use Rattle.csharp.specs.Trees.{CsExprTree}
use Rattle.csharp.specs.Trees as code
use Rattle.plain_runs.specs.Changes.{unless}

-- a temporary without an entry is no copy
abbrev pub copy_of : List (Option ℕ) → ℕ → Option ℕ
copy_of copies d = slice_index_or copies d None

-- some temporary is a copy
abbrev pub knows_copies : List (Option ℕ) → Bool
knows_copies [] = false
knows_copies (None ∷ copies) = knows_copies copies
knows_copies (Some x ∷ copies) = true

-- no temporary is a copy of the object any more
abbrev pub without : ℕ → List (Option ℕ) → List (Option ℕ)
without x copies = map (unless x) copies

abbrev pub without_all : List ℕ → List (Option ℕ) → List (Option ℕ)
without_all [] copies = copies
without_all (x ∷ xs) copies = without_all xs (without x copies)

-- the object of which an expression is a copy
abbrev pub source_in : List (Option ℕ) → CsExprTree → Option ℕ
source_in copies (code.Temp d) = copy_of copies d
source_in copies e = None
