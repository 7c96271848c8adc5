-- The cut of a text into tokens (C11 5.1.1.2 phase 3, and 6.4), a relation on the whole text.
use Rattle.std.specs.Prelude.{◌≡◌, ◌≢◌, ◌⊎◌, ℕ, ◌+◌, ◌-◌, ◌<◌, ◌≤◌, ◌==◌, if◌then◌else◌}
use Rattle.std.specs.Prelude.{List, [], ◌∷◌, ◌++◌, map, length, slice_index, codes, AllPairs, Option, Some}
use Rattle.c_syntax_written.specs.declared.place.Pos.{Pos}
use Rattle.c_syntax_written.specs.declared.token.Keyword.{Keyword}
use Rattle.c_syntax_written.specs.declared.token.Punctuator.{Punctuator}
use Rattle.c_syntax_written.specs.declared.token.Token.{Token}
use Rattle.c_syntax_written.specs.declared.token.Token.TheVariants as kinds
use Rattle.c_syntax_written.specs.declared.token.Placed.{Placed}
use Rattle.c_syntax_written.specs.declared.token.Tokens.{Tokens}
use Rattle.c_lexer.specs.Spelling.{keyword_text, punctuator_text, IsConstant, IsLiteral, IsOneCharacter, char_value}

-- a letter or the underscore (C11 6.4.2.1)
abbrev pub IsLetter : ℕ → Type 0
IsLetter b = ((65 ≤ b) × (b ≤ 90)) ⊎ (((97 ≤ b) × (b ≤ 122)) ⊎ (b ≡ 95))

-- a decimal digit (C11 6.4.2.1)
abbrev pub IsDigit : ℕ → Type 0
IsDigit b = (48 ≤ b) × (b ≤ 57)

-- what a word goes on with (C11 6.4.2.1)
abbrev pub IsWordByte : ℕ → Type 0
IsWordByte b = IsLetter b ⊎ IsDigit b

-- a white byte (C11 6.4): a tab, a line end, a vertical tab, a form feed, a carriage return, a space
abbrev pub IsBlank : ℕ → Type 0
IsBlank b = ((9 ≤ b) × (b ≤ 13)) ⊎ (b ≡ 32)

-- a word: a letter, then letters and digits (C11 6.4.2.1)
pub record IsWord (s : List ℕ) : Type 0 where
  pub some : 0 < length s
  pub first : IsLetter (slice_index s 0)
  pub bytes : (k : ℕ) → k < length s → IsWordByte (slice_index s k)

-- the letter before the exponent of a number: e, E, p or P (C11 6.4.8)
abbrev pub IsExponent : ℕ → Type 0
IsExponent b = (b ≡ 101) ⊎ ((b ≡ 69) ⊎ ((b ≡ 112) ⊎ (b ≡ 80)))

-- a byte of a number, after this one: a letter, a digit, a point, or a sign after an exponent's letter (C11 6.4.8)
abbrev pub GoesOn : ℕ → ℕ → Type 0
GoesOn before b = IsWordByte b ⊎ ((b ≡ 46) ⊎ (((b ≡ 43) ⊎ (b ≡ 45)) × IsExponent before))

-- a number begins: a digit, or a point and a digit (C11 6.4.8)
abbrev pub BeginsNumber : List ℕ → Type 0
BeginsNumber s = ((0 < length s) × IsDigit (slice_index s 0)) ⊎ ((1 < length s) × (slice_index s 0 ≡ 46) × IsDigit (slice_index s 1))

-- the form of a number (C11 6.4.8)
pub record IsNumber (s : List ℕ) : Type 0 where
  pub begins : BeginsNumber s
  pub bytes : (k : ℕ) → k + 1 < length s → GoesOn (slice_index s k) (slice_index s (k + 1))

-- the bytes spell this token: a word, a number, a character, a string or a punctuator
abbrev pub IsToken : List ℕ → Token → Type 0
IsToken s (kinds.Word name) = IsWord s × (s ≡ name) × ((k : Keyword) → s ≢ keyword_text k)
IsToken s (kinds.Keyword k) = s ≡ keyword_text k
IsToken s (kinds.Number c) = IsNumber s × IsConstant s c
IsToken s (kinds.Character n) = (v : ℕ) × IsOneCharacter (Some v) s × (n ≡ char_value v)
IsToken s (kinds.Text vs) = IsLiteral 34 (map Some vs) s
IsToken s (kinds.Punctuator p) = s ≡ punctuator_text p

-- the bytes have the form of a token, also those of a number that is no constant, and of a literal with characters that are not allowed
abbrev pub HasForm : List ℕ → Type 0
HasForm s =
    IsWord s
    ⊎ (IsNumber s
    ⊎ (((vs : List (Option ℕ)) × IsLiteral 39 vs s)
    ⊎ (((vs : List (Option ℕ)) × IsLiteral 34 vs s)
    ⊎ ((p : Punctuator) × (s ≡ punctuator_text p)))))

-- a comment from a slash and a star to the next star and slash (C11 6.4.9)
pub record IsComment (s : List ℕ) : Type 0 where
  pub long : 4 ≤ length s
  pub slash : slice_index s 0 ≡ 47
  pub star : slice_index s 1 ≡ 42
  pub end_star : slice_index s (length s - 2) ≡ 42
  pub end_slash : slice_index s (length s - 1) ≡ 47
  pub next : (k : ℕ) → 2 ≤ k → k + 2 < length s → slice_index s k ≡ 42 → slice_index s (k + 1) ≡ 47 → ⊥

-- a comment from two slashes to before the end of its line (C11 6.4.9), and what follows it
pub record IsLine (s rest : List ℕ) : Type 0 where
  pub long : 2 ≤ length s
  pub slash : slice_index s 0 ≡ 47
  pub second : slice_index s 1 ≡ 47
  pub one_line : (k : ℕ) → k < length s → slice_index s k ≢ 10
  pub ends : 0 < length rest → slice_index rest 0 ≡ 10

-- a backslash directly before a line end or the end of the file, or before a carriage return there, at n bytes of the line
abbrev pub IsSplicedAt : List ℕ → ℕ → Type 0
IsSplicedAt s n = (slice_index s n ≡ 92) × ((n + 1 ≡ length s) ⊎ ((n + 2 ≡ length s) × (slice_index s (n + 1) ≡ 13)))

-- white space (C11 6.4), and what follows it: a white byte, a backslash directly before a line end, a comment
pub data IsWhite : List ℕ → List ℕ → Type 0 where
  blank : {rest : List ℕ} (b : ℕ) → IsBlank b → IsWhite (b ∷ []) rest
  splice : {rest : List ℕ} → IsWhite (92 ∷ 10 ∷ []) rest
  long_splice : {rest : List ℕ} → IsWhite (92 ∷ 13 ∷ 10 ∷ []) rest
  comment : {s rest : List ℕ} → IsComment s → IsWhite s rest
  line : {s rest : List ℕ} → IsLine s rest → ((n : ℕ) → IsSplicedAt s n → ⊥) → IsWhite s rest

-- a comment begins here, ended or not (C11 6.4.9)
pub record BeginsComment (text : List ℕ) : Type 0 where
  pub long : 2 ≤ length text
  pub slash : slice_index text 0 ≡ 47
  pub second : (slice_index text 1 ≡ 47) ⊎ (slice_index text 1 ≡ 42)

-- the bytes are the longest at their place that have the form of a token (C11 6.4), where no comment begins
pub record IsLongest (s rest : List ℕ) : Type 0 where
  pub form : HasForm s
  pub longest : (a b : List ℕ) → s ++ rest ≡ a ++ b → HasForm a → length a ≤ length s
  pub no_comment : BeginsComment (s ++ rest) → ⊥

-- a word that is the encoding prefix of the literal that follows (C11 6.4.4.4 and 6.4.5), which this profile leaves out
pub record IsPrefix (s rest : List ℕ) : Type 0 where
  pub word : (s ≡ codes "L") ⊎ ((s ≡ codes "u") ⊎ ((s ≡ codes "U") ⊎ (s ≡ codes "u8")))
  pub quote : (slice_index rest 0 ≡ 39) ⊎ (slice_index rest 0 ≡ 34)

-- the token is the longest at its place, and no prefix of a literal
pub record IsNext (s rest : List ℕ) (t : Token) : Type 0 where
  pub spells : IsToken s t
  pub is_longest : IsLongest s rest
  pub no_prefix : IsPrefix s rest → ⊥

-- the place after a byte: a line ends with byte 10
abbrev pub step : Pos → ℕ → Pos
step at b = if b == 10 then record { file = at.file; line = at.line + 1; col = 1 } else record { file = at.file; line = at.line; col = at.col + 1 }

-- the place after these bytes
unfoldable pub moved_of : Pos → List ℕ → Pos
moved_of at [] = at
moved_of at (b ∷ s) = moved_of (step at b) s

-- from a place on, the text is white space and these tokens in turn, up to the last part, which is at the place to
pub data Front : List ℕ → Pos → List Placed → List ℕ → Pos → Type 0 where
  here : {text : List ℕ} {at : Pos} → Front text at [] text at
  white : {text last : List ℕ} {at to : Pos} {ts : List Placed} (s rest : List ℕ)
      → text ≡ s ++ rest → IsWhite s rest → Front rest (moved_of at s) ts last to → Front text at ts last to
  token : {text last : List ℕ} {at to : Pos} {ts : List Placed} {t : Token} (s rest : List ℕ)
      → text ≡ s ++ rest → IsNext s rest t → Front rest (moved_of at s) ts last to
      → Front text at (record { pos = at; token = t } ∷ ts) last to

-- the first place of a file
abbrev pub start_of : ℕ → Pos
start_of file = record { file = file; line = 1; col = 1 }

-- the text of the file with this number is cut into these tokens
pub record IsCut (file : ℕ) (text : List ℕ) (tokens : Tokens) : Type 0 where
  pub front : Front text (start_of file) tokens.list [] tokens.end
  pub marks : tokens.marks ≡ []

-- one place is before another of the same file
abbrev pub IsBefore : Pos → Pos → Type 0
IsBefore p q = (p.line < q.line) ⊎ ((p.line ≡ q.line) × (p.col < q.col))

-- the place of each token is before those of the tokens after it
abbrev pub StandInOrder : List Placed → Type 0
StandInOrder ts = AllPairs (λ t u. IsBefore t.pos u.pos) ts
