-- What tokens stand at a place of a production, and how its operators and words are written.
use Rattle.std.specs.Prelude.{◌≡◌, ℕ, ◌-◌, ◌%◌, ℤ, pos, negsuc, Bool, true, false, List, []}
use Rattle.std.specs.List.{list_any}
use Rattle.std.specs.Str.{bytes_eq}
use Rattle.c_syntax_written.specs.declared.step.StepWay.{StepWay}
use Rattle.c_syntax_written.specs.declared.step.StepWay.TheVariants as ways
use Rattle.c_syntax_written.specs.declared.token.Constant.{Constant}
use Rattle.c_syntax_written.specs.declared.token.Keyword.{Keyword}
use Rattle.c_syntax_written.specs.declared.token.Keyword.TheVariants as keywords
use Rattle.c_syntax_written.specs.declared.token.Punctuator.{Punctuator}
use Rattle.c_syntax_written.specs.declared.token.Punctuator.TheVariants as signs
use Rattle.c_syntax_written.specs.declared.token.Token.{Token}
use Rattle.c_syntax_written.specs.declared.token.Token.TheVariants as kinds
use Rattle.c_syntax_written.specs.declared.written.AssignOp.{AssignOp}
use Rattle.c_syntax_written.specs.declared.written.AssignOp.TheVariants as assigns
use Rattle.c_syntax_written.specs.declared.written.BinaryOp.TheVariants as binaries
use Rattle.c_syntax_written.specs.declared.written.StorageWord.{StorageWord}
use Rattle.c_syntax_written.specs.declared.written.StorageWord.TheVariants as storages
use Rattle.c_syntax_written.specs.declared.written.TypeWord.{TypeWord}
use Rattle.c_syntax_written.specs.declared.written.TypeWord.TheVariants as type_words
use Rattle.c_syntax_written.specs.declared.written.UnaryOp.{UnaryOp}
use Rattle.c_syntax_written.specs.declared.written.UnaryOp.TheVariants as unaries
use Rattle.c_grammar.specs.declared.class.Class.{Class}
use Rattle.c_grammar.specs.declared.class.Class.TheVariants.{Keyword as keyword, Sign as sign, Word as word, AnyWord as any_word, TypeName as type_name, Number as number, Character as character, Text as text}
use Rattle.c_grammar.specs.declared.parts.Level.{Level}
use Rattle.c_grammar.specs.declared.parts.Level.TheVariants.{Commas, Ors, Ands, BitOrs, BitXors, BitAnds, Equalities, Relations, Shifts, Sums, Products}
use Rattle.c_grammar.specs.declared.parts.Joint.{Joint}
use Rattle.c_grammar.specs.declared.parts.Joint.TheVariants.{Comma as comma, Binary as binary}
use Rattle.c_grammar.specs.declared.parts.Closing.{Closing}
use Rattle.c_grammar.specs.declared.parts.Closing.TheVariants.{BySemicolon as by_semicolon, ByParenthesis as by_parenthesis, ByBracket as by_bracket, ByColon as by_colon}
use Rattle.c_grammar.specs.Parts.{Scene}

-- the name is a typedef name in force
unfoldable pub names_type : Scene → List ℕ → Bool
names_type w name = list_any (bytes_eq name) w.types

-- a word whose name passes the test
abbrev pub IsWordWhere : (List ℕ → Type 0) → Token → Type 0
IsWordWhere test (kinds.Word name) = test name
IsWordWhere test (kinds.Keyword k) = ⊥
IsWordWhere test (kinds.Number c) = ⊥
IsWordWhere test (kinds.Character n) = ⊥
IsWordWhere test (kinds.Text bytes) = ⊥
IsWordWhere test (kinds.Punctuator p) = ⊥

abbrev pub IsNumberToken : Token → Type 0
IsNumberToken (kinds.Word name) = ⊥
IsNumberToken (kinds.Keyword k) = ⊥
IsNumberToken (kinds.Number c) = Unit {0}
IsNumberToken (kinds.Character n) = ⊥
IsNumberToken (kinds.Text bytes) = ⊥
IsNumberToken (kinds.Punctuator p) = ⊥

abbrev pub IsCharacterToken : Token → Type 0
IsCharacterToken (kinds.Word name) = ⊥
IsCharacterToken (kinds.Keyword k) = ⊥
IsCharacterToken (kinds.Number c) = ⊥
IsCharacterToken (kinds.Character n) = Unit {0}
IsCharacterToken (kinds.Text bytes) = ⊥
IsCharacterToken (kinds.Punctuator p) = ⊥

abbrev pub IsTextToken : Token → Type 0
IsTextToken (kinds.Word name) = ⊥
IsTextToken (kinds.Keyword k) = ⊥
IsTextToken (kinds.Number c) = ⊥
IsTextToken (kinds.Character n) = ⊥
IsTextToken (kinds.Text bytes) = Unit {0}
IsTextToken (kinds.Punctuator p) = ⊥

-- the token is of the class
abbrev pub Fits : Scene → Class → Token → Type 0
Fits w (keyword k) t = t ≡ kinds.Keyword k
Fits w (sign p) t = t ≡ kinds.Punctuator p
Fits w word t = IsWordWhere (λ name. names_type w name ≡ false) t
Fits w any_word t = IsWordWhere (λ name. Unit {0}) t
Fits w type_name t = IsWordWhere (λ name. names_type w name ≡ true) t
Fits w number t = IsNumberToken t
Fits w character t = IsCharacterToken t
Fits w text t = IsTextToken t

-- the name of a word
abbrev pub name_of : Token → List ℕ
name_of (kinds.Word name) = name
name_of _ = []

-- the constant of a number
abbrev pub constant_of : Token → Constant
constant_of (kinds.Number c) = c
constant_of _ = record { value = 0; decimal = false; unsigned = false; longs = 0 }

-- the lowest byte of a number, in two's complement
abbrev pub low_byte : ℤ → ℕ
low_byte (pos n) = n % 256
low_byte (negsuc n) = 255 - n % 256

-- the byte of a character constant
abbrev pub byte_of : Token → ℕ
byte_of (kinds.Character n) = low_byte n
byte_of _ = 0

-- the bytes of a string
abbrev pub bytes_of : Token → List ℕ
bytes_of (kinds.Text bytes) = bytes
bytes_of _ = []

-- how a unary operator is written (C11 6.5.3)
abbrev pub unary_sign : UnaryOp → Punctuator
unary_sign unaries.AddressOf = signs.Ampersand
unary_sign unaries.Deref = signs.Star
unary_sign unaries.Plus = signs.Plus
unary_sign unaries.Minus = signs.Minus
unary_sign unaries.Complement = signs.Tilde
unary_sign unaries.Not = signs.Exclamation

abbrev pub step_sign : StepWay → Punctuator
step_sign ways.Up = signs.Increment
step_sign ways.Down = signs.Decrement

-- how a joint is written (C11 6.5.5 to 6.5.14, and 6.5.17)
abbrev pub joint_sign : Joint → Punctuator
joint_sign comma = signs.Comma
joint_sign (binary binaries.Multiply) = signs.Star
joint_sign (binary binaries.Divide) = signs.Slash
joint_sign (binary binaries.Remainder) = signs.Percent
joint_sign (binary binaries.Plus) = signs.Plus
joint_sign (binary binaries.Minus) = signs.Minus
joint_sign (binary binaries.ShiftLeft) = signs.ShiftLeft
joint_sign (binary binaries.ShiftRight) = signs.ShiftRight
joint_sign (binary binaries.Less) = signs.Less
joint_sign (binary binaries.Greater) = signs.Greater
joint_sign (binary binaries.AtMost) = signs.LessEqual
joint_sign (binary binaries.AtLeast) = signs.GreaterEqual
joint_sign (binary binaries.Equal) = signs.Equal
joint_sign (binary binaries.Unequal) = signs.NotEqual
joint_sign (binary binaries.BitAnd) = signs.Ampersand
joint_sign (binary binaries.BitXor) = signs.Caret
joint_sign (binary binaries.BitOr) = signs.Bar
joint_sign (binary binaries.And) = signs.And
joint_sign (binary binaries.Or) = signs.Or

-- how what ends an expression or a type name is written
abbrev pub closing_sign : Closing → Punctuator
closing_sign by_semicolon = signs.Semicolon
closing_sign by_parenthesis = signs.RightParenthesis
closing_sign by_bracket = signs.RightBracket
closing_sign by_colon = signs.Colon

-- the rank of a joint
abbrev pub level_of : Joint → Level
level_of comma = Commas
level_of (binary binaries.Multiply) = Products
level_of (binary binaries.Divide) = Products
level_of (binary binaries.Remainder) = Products
level_of (binary binaries.Plus) = Sums
level_of (binary binaries.Minus) = Sums
level_of (binary binaries.ShiftLeft) = Shifts
level_of (binary binaries.ShiftRight) = Shifts
level_of (binary binaries.Less) = Relations
level_of (binary binaries.Greater) = Relations
level_of (binary binaries.AtMost) = Relations
level_of (binary binaries.AtLeast) = Relations
level_of (binary binaries.Equal) = Equalities
level_of (binary binaries.Unequal) = Equalities
level_of (binary binaries.BitAnd) = BitAnds
level_of (binary binaries.BitXor) = BitXors
level_of (binary binaries.BitOr) = BitOrs
level_of (binary binaries.And) = Ands
level_of (binary binaries.Or) = Ors

-- how the operator of an `op=` is written (C11 6.5.16)
abbrev pub assign_sign : AssignOp → Punctuator
assign_sign assigns.Multiply = signs.MultiplyAssign
assign_sign assigns.Divide = signs.DivideAssign
assign_sign assigns.Remainder = signs.RemainderAssign
assign_sign assigns.Plus = signs.AddAssign
assign_sign assigns.Minus = signs.SubtractAssign
assign_sign assigns.ShiftLeft = signs.ShiftLeftAssign
assign_sign assigns.ShiftRight = signs.ShiftRightAssign
assign_sign assigns.BitAnd = signs.AndAssign
assign_sign assigns.BitXor = signs.XorAssign
assign_sign assigns.BitOr = signs.OrAssign

-- how a storage word is written (C11 6.7.1)
abbrev pub storage_word : StorageWord → Keyword
storage_word storages.Typedef = keywords.Typedef
storage_word storages.Extern = keywords.Extern
storage_word storages.Static = keywords.Static
storage_word storages.Auto = keywords.Auto
storage_word storages.Register = keywords.Register

-- how a type word is written (C11 6.7.2)
abbrev pub type_word : TypeWord → Keyword
type_word type_words.Void = keywords.Void
type_word type_words.Char = keywords.Char
type_word type_words.Short = keywords.Short
type_word type_words.Int = keywords.Int
type_word type_words.Long = keywords.Long
type_word type_words.Signed = keywords.Signed
type_word type_words.Unsigned = keywords.Unsigned
