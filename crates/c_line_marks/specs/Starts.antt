-- Line marks as they are kept: each name once, and for each mark how many names stand up to it.
use Rattle.std.specs.Prelude.{ℕ, suc, zero, ◌≤◌, nat_le, List, [], ◌∷◌, All, length, slice_get, unwrap_or, Option, Some, None, if◌then◌else◌}
use Rattle.std.specs.Option.{option_or}
use Rattle.std.specs.List.Sorted.{IsNonDecreasingBy}
use Rattle.c_syntax_written.specs.declared.token.Mark.{Mark}
use Rattle.c_line_marks.specs.declared.marks.Start.{Start}

-- the last of so many names
abbrev pub name_in : List (List ℕ) → ℕ → List ℕ
name_in names zero = []
name_in names (suc n) = unwrap_or (slice_get names n) []

abbrev pub mark_of : List (List ℕ) → Start → Mark
mark_of names start = record { line = start.line; presumed = start.presumed; name = name_in names start.names }

-- how many names stand up to the last mark
abbrev pub last_names_from : ℕ → List Start → ℕ
last_names_from n [] = n
last_names_from n (start ∷ starts) = last_names_from start.names starts

abbrev pub last_names : List Start → ℕ
last_names starts = last_names_from 0 starts

-- the last mark at a line or before it
unfoldable pub start_at : List Start → ℕ → Option Start
start_at [] line = None
start_at (start ∷ starts) line = option_or (start_at starts line) (if nat_le start.line line then Some start else None)

-- the lines never fall, and no mark has more names up to it than there are
pub record AreStarts (names : List (List ℕ)) (starts : List Start) : Type 0 where
  pub rising : IsNonDecreasingBy (λ start. start.line) starts
  pub within : All (λ start. start.names ≤ length names) starts
