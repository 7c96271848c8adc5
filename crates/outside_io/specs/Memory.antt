-- What the files and the sink in memory hold.
use Rattle.std.specs.Prelude.{◌≡◌, ◌⊎◌, ◌+◌, ◌<◌, ◌≤◌, ℕ, List, [], Option, Some, None, length, take, drop, find, position, unwrap_or, option_and_then, MatchOption}
use Rattle.std.specs.List.{slice_index_or}
use Rattle.std.specs.Option.{option_map, option_map_or}
use Rattle.std.specs.Str.{bytes_eq}
use Rattle.outside_io.specs.Io.{raised}

-- the numbers of the calls that are to fail, and how many calls were made
pub record CallCount : Type 0 where
  pub failing : List ℕ
  pub made : ℕ

-- a file: its name, its bytes, and how often it has failed
pub record HeldFile : Type 0 where
  pub name : List ℕ
  pub bytes : List ℕ
  pub faults : ℕ

-- the name that is open, and how many of its bytes were given
pub record OpenName : Type 0 where
  pub name : List ℕ
  pub given : ℕ

-- files in memory: the count of faults that the names without a file share, the name that is open,
-- the numbers of the calls that are to fail, and how many calls were made
pub record HeldFiles : Type 0 where
  pub files : List HeldFile
  pub absent_faults : ℕ
  pub current : Option OpenName
  pub failing : List ℕ
  pub calls : ℕ

-- the first file with a name, where there is one
abbrev pub file_named : List HeldFile → List ℕ → Option HeldFile
file_named files name = find (λ f. bytes_eq f.name name) files

-- the file of a name, where one is held
abbrev pub file_of : HeldFiles → List ℕ → Option HeldFile
file_of held name = file_named held.files name

-- the bytes of a name
abbrev pub told_of : HeldFiles → List ℕ → Option (List ℕ)
told_of held name = option_map (λ f. f.bytes) (file_of held name)

-- how often a name has failed
abbrev pub faults_of : HeldFiles → List ℕ → ℕ
faults_of held name = option_map_or (λ f. f.faults) (file_of held name) held.absent_faults

-- the file at a place
abbrev pub file_at : List HeldFile → ℕ → HeldFile
file_at files place = slice_index_or files place (record { name = []; bytes = []; faults = 0 })

-- a place is the first at which a file with a name stands
pub record IsFirst (files : List HeldFile) (name : List ℕ) (place : ℕ) : Type 0 where
  pub within : place < length files
  pub first : position (λ f. bytes_eq f.name name) files ≡ Some place
  pub named : (file_at files place).name ≡ name

-- a place is the first of its file's name, and so many bytes of the file can have been given
pub record IsOpenPlace (files : List HeldFile) (place given : ℕ) : Type 0 where
  pub first : IsFirst files (file_at files place).name place
  pub bytes : given ≤ length (file_at files place).bytes

-- a file after one more fault
abbrev pub after_fault : HeldFile → HeldFile
after_fault f = record { name = f.name; bytes = f.bytes; faults = raised f.faults }

-- a file that has these bytes in the place of its own
abbrev pub replaced : List ℕ → HeldFile → HeldFile
replaced bytes f = record { name = f.name; bytes = bytes; faults = f.faults }

-- a name is open
abbrev pub IsOpenIn : HeldFiles → List ℕ → Type 0
IsOpenIn held name = MatchOption held.current ⊥ (λ o. o.name ≡ name)

-- the bytes that were given since the last `begin`, while a name is open
abbrev pub given_of : HeldFiles → Option (List ℕ)
given_of held = option_and_then (λ o. option_map (λ bytes. take o.given bytes) (told_of held o.name)) held.current

-- the bytes of the open name that are not given yet
abbrev pub rest_of : HeldFiles → List ℕ
rest_of held = option_map_or (λ o. drop o.given (unwrap_or (told_of held o.name) [])) held.current []

-- this name is open, and none of its bytes were given
abbrev pub at_start : List ℕ → Option OpenName
at_start n = Some (record { name = n; given = 0 })

-- what is open, after so many more of its bytes were given
abbrev pub moved : ℕ → Option OpenName → Option OpenName
moved count = option_map (λ o. record { name = o.name; given = o.given + count })

-- two names have one count: they are one name, or none of them is held
abbrev pub ShareCount : HeldFiles → List ℕ → List ℕ → Type 0
ShareCount held one other = (one ≡ other) ⊎ ((file_of held one ≡ None) × (file_of held other ≡ None))

-- a fault of one name raised its count, and no other
pub record RaisesCount (old new : HeldFiles) (name : List ℕ) : Type 0 where
  pub own : (n : List ℕ) → ShareCount old name n → faults_of new n ≡ raised (faults_of old n)
  pub others : (n : List ℕ) → (ShareCount old name n → ⊥) → faults_of new n ≡ faults_of old n

-- a sink in memory: the bytes that it took, how many it can hold, the numbers of the calls that are
-- to fail, how many calls were made, and how often it has failed
pub record HeldBytes : Type 0 where
  pub bytes : List ℕ
  pub room : ℕ
  pub failing : List ℕ
  pub calls : ℕ
  pub faults : ℕ
