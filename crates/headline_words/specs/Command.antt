-- Command: which words are one, and what they ask for (this profile).
use Rattle.std.specs.Prelude.{◌==◌, ◌&&◌, ℕ, Bool, true, false, not, List, [], ◌∷◌, map, length, codes, String, string_bytes}
use Rattle.std.specs.Prelude.{Option, Some, None, is_some, option_map, option_and_then, if◌then◌else◌, nat_le}
use Rattle.std.specs.List.{list_all, list_any, before_first, after_first}
use Rattle.std.specs.Str.{bytes_eq}
use Rattle.std.specs.Str.Parse.{digits_value}
use Rattle.std.specs.declared.alloc.Global.{Global}
use Rattle.ramp_constants.specs.declared.kind.RampKind.{RampKind}
use Rattle.ramp_constants.specs.declared.kind.RampKind.TheVariants.{Powers, Constants}

abbrev pub Text : Type 0
Text = List ℕ

abbrev pub texts : List (String Global) → List Text
texts words = map string_bytes words

-- ---- one word

-- an option that has a value
pub data Key : Type 0 where
  unroll : Key
  narrow : Key
  ramp : Key

-- what a word is before `--`: that; `--state`; an option, with what stands behind its `=`; an option that there is not; or none
pub data Word : Type 0 where
  dashes : Word
  flag : Word
  key : Key → Option Text → Word
  unknown : Word
  plain : Word

abbrev pub is_equals : ℕ → Bool
is_equals b = b == 61

abbrev pub named : Text → Option Text → Word
named name v =
    if bytes_eq (codes "unroll") name then key unroll v
    else (if bytes_eq (codes "narrow") name then key narrow v
    else (if bytes_eq (codes "ramp") name then key ramp v
    else (if bytes_eq (codes "state") name && not (is_some v) then flag else unknown)))

-- by what stands behind `--`
abbrev pub long_word : Text → Word
long_word [] = dashes
long_word (b ∷ bs) =
    named (before_first is_equals (b ∷ bs)) (if list_any is_equals (b ∷ bs) then Some (after_first is_equals (b ∷ bs)) else None)

-- by what stands behind `-`, which alone is no option
abbrev pub dash_word : Text → Word
dash_word [] = plain
dash_word (b ∷ bs) = if b == 45 then long_word bs else unknown

abbrev pub word_of : Text → Word
word_of [] = plain
word_of (b ∷ bs) = if b == 45 then dash_word bs else plain

-- ---- all words

-- a part of a command: an option with its value, `--state`, or a file
pub data Part : Type 0 where
  value : Key → Text → Part
  state : Part
  file : Text → Part

abbrev pub with_part : Part → Option (List Part) → Option (List Part)
with_part p = option_map (λ ps. p ∷ ps)

-- by what the word is, the words behind it and their parts, and those where an option waits for its value
abbrev pub begun : Word → Text → List Text → Option (List Part) → (Key → Option (List Part)) → Option (List Part)
begun dashes w ws rest waits = Some (map file ws)
begun flag w ws rest waits = with_part state rest
begun (key k (Some v)) w ws rest waits = with_part (value k v) rest
begun (key k None) w ws rest waits = waits k
begun unknown w ws rest waits = None
begun plain w ws rest waits = with_part (file w) rest

-- an option is no value of another
abbrev pub valued : Word → Key → Text → Option (List Part) → Option (List Part)
valued plain k w rest = with_part (value k w) rest
valued word k w rest = None

-- the parts of the words, where an option waits for its value or none does
unfoldable pub parts_of : Option Key → List Text → Option (List Part)
parts_of None [] = Some []
parts_of (Some k) [] = None
parts_of None (w ∷ ws) = begun (word_of w) w ws (parts_of None ws) (λ k. parts_of (Some k) ws)
parts_of (Some k) (w ∷ ws) = valued (word_of w) k w (parts_of None ws)

-- ---- what is asked

abbrev pub is_key : Key → Key → Bool
is_key unroll unroll = true
is_key narrow narrow = true
is_key ramp ramp = true
is_key k j = false

abbrev pub is_like : Part → Part → Bool
is_like (value k v) (value j w) = is_key k j
is_like state state = true
is_like (file v) (file w) = true
is_like p q = false

-- each option stands there at most once, and at most one file
abbrev pub are_apart : List Part → Bool
are_apart [] = true
are_apart (p ∷ ps) = not (list_any (is_like p) ps) && are_apart ps

abbrev pub value_of : Key → List Part → Option Text
value_of k [] = None
value_of k (value j v ∷ ps) = if is_key k j then Some v else value_of k ps
value_of k (p ∷ ps) = value_of k ps

abbrev pub file_of : List Part → Option Text
file_of [] = None
file_of (file w ∷ ps) = Some w
file_of (p ∷ ps) = file_of ps

abbrev pub has_state : List Part → Bool
has_state = list_any (is_like state)

abbrev pub is_digit : ℕ → Bool
is_digit b = nat_le 48 b && nat_le b 57

-- one to five digits, of a number that is not above the most
abbrev pub number_in : ℕ → Text → Option ℕ
number_in most text =
    if nat_le 1 (length text) && (nat_le (length text) 5 && (list_all is_digit text && nat_le (digits_value 10 text) most))
    then Some (digits_value 10 text) else None

-- the number of an option, or what holds where it is not there
abbrev pub number_or : ℕ → ℕ → Option Text → Option ℕ
number_or most usual None = Some usual
number_or most usual (Some text) = number_in most text

-- the kind of ramp that a word names
abbrev pub ramp_in : Text → Option RampKind
ramp_in text =
    if bytes_eq text (codes "powers") then Some Powers
    else (if bytes_eq text (codes "constants") then Some Constants else None)

-- the ramp of the option, or that of the constants where it is not there
abbrev pub ramp_or : Option Text → Option RampKind
ramp_or None = Some Constants
ramp_or (Some text) = ramp_in text

-- a name that is not empty
abbrev pub name_in : Option Text → Option Text
name_in (Some (b ∷ bs)) = Some (b ∷ bs)
name_in other = None

-- the file that is analysed, the turns of a loop that are walked one by one, the steps of narrowing, the ramp of widening, and whether facts are told
pub record Asked : Type 0 where
  pub file : Text
  pub unroll : ℕ
  pub narrow : ℕ
  pub ramp : RampKind
  pub state : Bool

abbrev pub asked : Option Text → Option ℕ → Option ℕ → Option RampKind → Bool → Option Asked
asked (Some name) (Some u) (Some n) (Some kind) told = Some (record { file = name; unroll = u; narrow = n; ramp = kind; state = told })
asked name u n kind told = None

abbrev pub asked_by : List Part → Option Asked
asked_by ps = if are_apart ps
    then asked (name_in (file_of ps)) (number_or 10000 3 (value_of unroll ps)) (number_or 8 2 (value_of narrow ps)) (ramp_or (value_of ramp ps)) (has_state ps)
    else None

-- Command: `verac analyze`, whatever the program's own name, with options before or behind the file, each at most once
abbrev pub command_of : List Text → Option Asked
command_of (program ∷ word ∷ rest) = if bytes_eq word (codes "analyze") then option_and_then asked_by (parts_of None rest) else None
command_of words = None
