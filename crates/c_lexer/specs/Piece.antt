-- What stands at the front of a text, as the code that looks at it answers.
use Rattle.std.specs.Prelude.{◌≡◌, ◌≢◌, ◌⊎◌, ℕ, ◌+◌, ◌^◌, ◌<◌, ◌≤◌, ◌==◌, Bool}
use Rattle.std.specs.Prelude.{List, [], ◌∷◌, ◌++◌, map, length, slice_index, take, drop, Option, Some, None, IsSome}
use Rattle.c_syntax_written.specs.declared.token.Constant.{Constant}
use Rattle.c_syntax_written.specs.declared.token.Punctuator.{Punctuator}
use Rattle.c_syntax_written.specs.Constant.{constant_type}
use Rattle.c_lexer.specs.Spelling.{punctuator_text, IsLong, IsSuffix, IsInteger, IsConstant, IsEscape, Reads, IsLiteral, IsOneCharacter}
use Rattle.c_lexer.specs.Cut.{IsWordByte, IsBlank, GoesOn, BeginsNumber, IsWhite, IsNext}
use Rattle.c_lexer.specs.Uncut.{Refuses, IsBadEscape, OpensLine}
use Rattle.c_lexer.specs.declared.reason.Reason.{Reason}
use Rattle.c_lexer.specs.declared.reason.Reason.TheVariants as reasons
use Rattle.c_lexer.specs.declared.number.Spelled.{Spelled}
use Rattle.c_lexer.specs.declared.number.Spelled.TheVariants as spellings
use Rattle.c_lexer.specs.declared.literal.Characters.{Characters}
use Rattle.c_lexer.specs.declared.literal.Characters.TheVariants as texts
use Rattle.c_lexer.specs.declared.literal.OneCharacter.{OneCharacter}
use Rattle.c_lexer.specs.declared.literal.OneCharacter.TheVariants as ones
use Rattle.c_lexer.specs.declared.piece.Piece.{Piece}
use Rattle.c_lexer.specs.declared.piece.Piece.TheVariants as pieces

-- so many letters and digits stand at the front, and no more
pub record IsWordRun (text : List ℕ) (n : ℕ) : Type 0 where
  pub within : n ≤ length text
  pub all : (k : ℕ) → k < n → IsWordByte (slice_index text k)
  pub no_more : n < length text → IsWordByte (slice_index text n) → ⊥

-- a number goes on for so many bytes, and no more
pub record IsNumberRun (text : List ℕ) (n : ℕ) : Type 0 where
  pub within : n ≤ length text
  pub some : 1 ≤ n
  pub all : (k : ℕ) → k + 1 < n → GoesOn (slice_index text k) (slice_index text (k + 1))
  pub no_more : (k : ℕ) → n ≡ k + 1 → n < length text → GoesOn (slice_index text k) (slice_index text n) → ⊥

-- the punctuator stands at the front, with so many bytes
abbrev pub HasPunctuator : List ℕ → ℕ → Punctuator → Type 0
HasPunctuator text n p = (rest : List ℕ) × (text ≡ punctuator_text p ++ rest) × (length (punctuator_text p) ≡ n)

-- the punctuator stands at the front, and no longer one does
pub record IsLongestPunctuator (text : List ℕ) (p : Punctuator) : Type 0 where
  pub rest : List ℕ
  pub is : text ≡ punctuator_text p ++ rest
  pub longest : (q : Punctuator) (b : List ℕ) → text ≡ punctuator_text q ++ b → length (punctuator_text q) ≤ length (punctuator_text p)

-- this stands at the front; a # alone may begin a directive
abbrev pub IsPiece : List ℕ → Piece → Type 0
IsPiece text (pieces.White n) = (0 < n) × (n ≤ length text) × IsWhite (take n text) (drop n text)
IsPiece text (pieces.Token t n) = (0 < n) × (n ≤ length text) × IsNext (take n text) (drop n text) t
IsPiece text (pieces.Refused reason n) = (n ≤ length text) × ((before : List ℕ) → Refuses before text reason n)
IsPiece text pieces.Hash = (0 < length text) × (slice_index text 0 ≡ 35)

-- a suffix has a u or not, and these letters beside it
pub record IsWithoutU (s : List ℕ) (u : Bool) (l : List ℕ) : Type 0 where
  pub only : (v : Bool) (n : ℕ) → IsSuffix s v n → (v ≡ u) × IsLong l n
  pub back : (n : ℕ) → IsLong l n → IsSuffix s u n

-- what a number is
abbrev pub IsSpelled : List ℕ → Spelled → Type 0
IsSpelled s (spellings.Constant c) = IsConstant s c
IsSpelled s spellings.TooWide = IsInteger s × ((c : Constant) → IsConstant s c → ⊥)
IsSpelled s spellings.NoInteger = IsInteger s → ⊥

-- the constant of this value, base and suffix, where a type of its row holds it
abbrev pub IsHeld : ℕ → ℕ → Bool → ℕ → Spelled → Type 0
IsHeld v base u n (spellings.Constant c) =
    (v < 2 ^ 64) × (c.value ≡ v) × (c.decimal ≡ (base == 10)) × (c.unsigned ≡ u) × (c.longs ≡ n) × IsSome (constant_type c)
IsHeld v base u n spellings.TooWide =
    (c : Constant) → v < 2 ^ 64 → c.value ≡ v → c.decimal ≡ (base == 10) → c.unsigned ≡ u → c.longs ≡ n → IsSome (constant_type c) → ⊥
IsHeld v base u n spellings.NoInteger = ⊥

-- no character of a literal with this quote stands at the front
abbrev pub Stops : ℕ → List ℕ → Type 0
Stops quote [] = Unit {0}
Stops quote (b ∷ text) = (b ≡ quote) ⊎ ((b ≡ 10) ⊎ ((b ≡ 92) × (IsEscape text → ⊥)))

-- one character of a literal stands at the front, with this value, and what follows it
pub record IsCharacter (quote : ℕ) (text : List ℕ) (v : Option ℕ) (after : List ℕ) : Type 0 where
  pub reads : Reads quote text (v ∷ []) after
  pub shorter : length after < length text

-- a literal of n bytes stands at the front
pub record IsClosedAt (quote : ℕ) (text : List ℕ) (n : ℕ) : Type 0 where
  pub some : 2 ≤ n
  pub within : n ≤ length text
  pub vs : List (Option ℕ)
  pub literal : IsLiteral quote vs (take n text)

-- the characters of a string literal, or the place of the first escape that is not allowed
abbrev pub HasCharacters : List ℕ → Characters → Type 0
HasCharacters s (texts.All vs) = IsLiteral 34 (map Some vs.items) s
HasCharacters s (texts.Bad n) = (n ≤ length s) × IsBadEscape 34 s n

-- the character of a character constant
abbrev pub OneOf : List ℕ → OneCharacter → Type 0
OneOf s (ones.Value v) = IsOneCharacter (Some v) s
OneOf s ones.Bad = IsOneCharacter None s
OneOf s ones.NotOne = (v : Option ℕ) → IsOneCharacter v s → ⊥

-- a byte that begins no white byte, no word, no number, no literal, no splice and no directive
pub record IsOther (text : List ℕ) : Type 0 where
  pub no_blank : IsBlank (slice_index text 0) → ⊥
  pub no_word : IsWordByte (slice_index text 0) → ⊥
  pub no_number : BeginsNumber text → ⊥
  pub no_string : slice_index text 0 ≢ 34
  pub no_character : slice_index text 0 ≢ 39
  pub no_splice : slice_index text 0 ≢ 92
  pub no_hash : slice_index text 0 ≢ 35

-- why a # behind these bytes is refused
abbrev pub HashReason : List ℕ → Reason → Type 0
HashReason before reasons.BadByte = OpensLine before → ⊥
HashReason before reasons.Directive = OpensLine before
HashReason before _ = ⊥
