-- The first place of a text that is refused, and why, a relation on the whole text.
use Rattle.std.specs.Prelude.{◌≡◌, ◌⊎◌, ℕ, ◌+◌, ◌<◌, ◌≤◌, List, ◌∷◌, ◌++◌, map, length, take, slice_index, Option, Some, None}
use Rattle.c_syntax_written.specs.declared.place.Pos.{Pos}
use Rattle.c_syntax_written.specs.declared.token.Constant.{Constant}
use Rattle.c_syntax_written.specs.declared.token.Placed.{Placed}
use Rattle.c_lexer.specs.declared.reason.Reason.{Reason}
use Rattle.c_lexer.specs.declared.reason.Reason.TheVariants as reasons
use Rattle.c_lexer.specs.declared.cut.LexError.{LexError}
use Rattle.c_lexer.specs.declared.cut.LexError.TheVariants as errors
use Rattle.c_lexer.specs.Spelling.{IsInteger, IsConstant, IsEscape, escape_value, Reads, IsLiteral, IsOneCharacter}
use Rattle.c_lexer.specs.Cut.{IsBlank, IsNumber, HasForm, IsComment, IsLine, IsSplicedAt, IsWhite, BeginsComment, IsLongest, IsPrefix}
use Rattle.c_lexer.specs.Cut.{Front, start_of, moved_of, IsBefore}

-- what follows is the first of its physical line but for white bytes: each byte before it is white, or has a line end after it
abbrev pub OpensLine : List ℕ → Type 0
OpensLine before = (k : ℕ) → k < length before → IsBlank (slice_index before k) ⊎ ((j : ℕ) × (k ≤ j) × (j < length before) × (slice_index before j ≡ 10))

-- a directive begins: a # that is first of its line (C11 6.10)
pub record BeginsDirective (before text : List ℕ) : Type 0 where
  pub some : 0 < length text
  pub hash : slice_index text 0 ≡ 35
  pub opens : OpensLine before

-- a comment begins that does not end (C11 6.4.9)
pub record IsOpenComment (text : List ℕ) : Type 0 where
  pub long : 2 ≤ length text
  pub slash : slice_index text 0 ≡ 47
  pub star : slice_index text 1 ≡ 42
  pub open_end : (s rest : List ℕ) → text ≡ s ++ rest → IsComment s → ⊥

-- a literal begins that meets a line end or the end of the file (C11 6.4.4.4 and 6.4.5)
pub record IsOpenLiteral (quote : ℕ) (text : List ℕ) : Type 0 where
  pub some : 0 < length text
  pub first : slice_index text 0 ≡ quote
  pub open_end : (s rest : List ℕ) (vs : List (Option ℕ)) → text ≡ s ++ rest → IsLiteral quote vs s → ⊥

-- no token, no white space, and nothing that another row of the refusals names begins here
pub record BeginsNothing (before text : List ℕ) : Type 0 where
  pub some : 0 < length text
  pub no_form : (s rest : List ℕ) → text ≡ s ++ rest → HasForm s → ⊥
  pub no_white : (s rest : List ℕ) → text ≡ s ++ rest → IsWhite s rest → ⊥
  pub no_comment : BeginsComment text → ⊥
  pub no_character : IsOpenLiteral 39 text → ⊥
  pub no_string : IsOpenLiteral 34 text → ⊥
  pub no_directive : BeginsDirective before text → ⊥

-- a comment of one line begins, which ends in a backslash at n bytes
pub record IsSplicedLine (text : List ℕ) (n : ℕ) : Type 0 where
  pub s : List ℕ
  pub rest : List ℕ
  pub is : text ≡ s ++ rest
  pub line : IsLine s rest
  pub spliced : IsSplicedAt s n

-- in a literal with this quote a backslash begins, at n bytes, the first escape that is not allowed
pub record IsBadEscape (quote : ℕ) (s : List ℕ) (n : ℕ) : Type 0 where
  pub body : List ℕ
  pub is : s ≡ quote ∷ body
  pub before : List ℕ
  pub escape : List ℕ
  pub reads : Reads quote body (map Some before) (92 ∷ escape)
  pub an_escape : IsEscape escape
  pub no_value : escape_value escape ≡ None
  pub place : n + (length escape + 1) ≡ length s

-- what has the form of a token is refused, at n bytes
abbrev pub IsMalformed : List ℕ → List ℕ → Reason → ℕ → Type 0
IsMalformed s rest reasons.BadNumber n = IsNumber s × (IsInteger s → ⊥) × (n ≡ 0)
IsMalformed s rest reasons.TooWide n = IsNumber s × IsInteger s × ((c : Constant) → IsConstant s c → ⊥) × (n ≡ 0)
IsMalformed s rest reasons.BadEscape n =
    (IsPrefix s rest × (n ≡ 0))
    ⊎ ((((vs : List (Option ℕ)) × IsLiteral 39 vs s) × ((v : Option ℕ) → IsOneCharacter v s → ⊥) × (n ≡ 0))
    ⊎ ((IsOneCharacter None s × (n ≡ 1))
    ⊎ (((vs : List (Option ℕ)) × IsLiteral 34 vs s) × IsBadEscape 34 s n)))
IsMalformed s rest _ n = ⊥

-- the row of the refusals refuses the place at n bytes of a text, all before which is cut; inside a literal and inside a comment of one line it is a backslash
abbrev pub Refuses : List ℕ → List ℕ → Reason → ℕ → Type 0
Refuses before text reasons.BadByte n = (BeginsNothing before text × (n ≡ 0)) ⊎ IsSplicedLine text n
Refuses before text reasons.Unterminated n = (IsOpenComment text ⊎ (IsOpenLiteral 39 text ⊎ IsOpenLiteral 34 text)) × (n ≡ 0)
Refuses before text reasons.Directive n = BeginsDirective before text × (n ≡ 0)
Refuses before text reason n = (s : List ℕ) × (rest : List ℕ) × (text ≡ s ++ rest) × IsLongest s rest × IsMalformed s rest reason n

-- a row of the refusals refuses this place
pub record IsRefusedAt (file : ℕ) (text : List ℕ) (pos : Pos) (reason : Reason) : Type 0 where
  pub ts : List Placed
  pub before : List ℕ
  pub rest : List ℕ
  pub at : Pos
  pub n : ℕ
  pub is : text ≡ before ++ rest
  pub front : Front text (start_of file) ts rest at
  pub refuses : Refuses before rest reason n
  pub place : pos ≡ moved_of at (take n rest)

-- the rows of the refusals in their order
abbrev pub row_of : Reason → ℕ
row_of reasons.BadByte = 1
row_of reasons.Unterminated = 2
row_of reasons.BadNumber = 3
row_of reasons.TooWide = 4
row_of reasons.BadEscape = 5
row_of reasons.Directive = 6

-- the first place that is refused, and the first row that refuses it
pub record IsUncut (file : ℕ) (text : List ℕ) (pos : Pos) (reason : Reason) : Type 0 where
  pub refused : IsRefusedAt file text pos reason
  pub first_place : (p : Pos) (r : Reason) → IsRefusedAt file text p r → IsBefore p pos → ⊥
  pub first_row : (r : Reason) → IsRefusedAt file text pos r → row_of reason ≤ row_of r

-- the error that tells of a refusal
abbrev pub error_at : Reason → Pos → LexError
error_at reasons.BadByte p = errors.BadByte p
error_at reasons.Unterminated p = errors.Unterminated p
error_at reasons.BadNumber p = errors.BadNumber p
error_at reasons.TooWide p = errors.TooWide p
error_at reasons.BadEscape p = errors.BadEscape p
error_at reasons.Directive p = errors.Directive p

-- the error is out of memory, or tells of the first place that is refused
abbrev pub TellsUncut : ℕ → List ℕ → LexError → Type 0
TellsUncut file text e = (e ≡ errors.NoMemory) ⊎ ((pos : Pos) × (reason : Reason) × (e ≡ error_at reason pos) × IsUncut file text pos reason)
