-- What the line marks of a text presume of its places (C11 6.10.4; the form of a marker is this profile's).
use Rattle.std.specs.Prelude.{ℕ, ◌+◌, ◌-◌, nat_le, List, [], ◌∷◌, Option, Some, None, if◌then◌else◌}
use Rattle.std.specs.Option.{option_or}
use Rattle.c_syntax_written.specs.declared.token.Mark.{Mark}

-- the last mark whose line is this physical line, or one before it
unfoldable pub mark_at : List Mark → ℕ → Option Mark
mark_at [] line = None
mark_at (m ∷ marks) line = option_or (mark_at marks line) (if nat_le m.line line then Some m else None)

-- the line that follows the marker has the line that it tells, and those behind it are counted on
abbrev pub line_by : Option Mark → ℕ → ℕ
line_by None line = line
line_by (Some m) line = m.presumed + (line - m.line)

-- the presumed line of a physical line
abbrev pub presumed_line : List Mark → ℕ → ℕ
presumed_line marks line = line_by (mark_at marks line) line

-- an empty name stands for the word of the command that names the file
abbrev pub name_or_word : List ℕ → List ℕ → List ℕ
name_or_word [] word = word
name_or_word (b ∷ name) word = b ∷ name

abbrev pub name_by : Option Mark → List ℕ → List ℕ
name_by None word = word
name_by (Some m) word = name_or_word m.name word

-- the presumed file of a physical line, where the command names the file by this word
abbrev pub presumed_name : List Mark → List ℕ → ℕ → List ℕ
presumed_name marks word line = name_by (mark_at marks line) word

-- the name of the last mark: a marker without a name keeps that of the marker before
unfoldable pub last_name : List ℕ → List Mark → List ℕ
last_name name [] = name
last_name name (m ∷ marks) = last_name m.name marks
