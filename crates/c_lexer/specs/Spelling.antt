-- How keywords, punctuators, integer constants and literals are spelled (C11 6.4).
use Rattle.std.specs.Prelude.{◌≡◌, ◌≢◌, ◌⊎◌, ℕ, ◌+◌, ◌-◌, ◌*◌, ◌^◌, ◌<◌, ◌≤◌, ◌==◌, ◌||◌, ℤ, pos, ◌-ℤ◌, if◌then◌else◌, Bool, true, false}
use Rattle.std.specs.Prelude.{List, [], ◌∷◌, ◌++◌, length, drop, take, slice_index, codes, nat_lt, nat_le, Option, Some, None, IsSome}
use Rattle.c_syntax_written.specs.declared.token.Keyword.{Keyword}
use Rattle.c_syntax_written.specs.declared.token.Keyword.TheVariants as keywords
use Rattle.c_syntax_written.specs.declared.token.Punctuator.{Punctuator}
use Rattle.c_syntax_written.specs.declared.token.Punctuator.TheVariants as punctuators
use Rattle.c_syntax_written.specs.declared.token.Constant.{Constant}
use Rattle.c_syntax_written.specs.Constant.{constant_type}

-- the spelling of a keyword (C11 6.4.1)
abbrev pub keyword_text : Keyword → List ℕ
keyword_text keywords.Auto = codes "auto"
keyword_text keywords.Break = codes "break"
keyword_text keywords.Case = codes "case"
keyword_text keywords.Char = codes "char"
keyword_text keywords.Const = codes "const"
keyword_text keywords.Continue = codes "continue"
keyword_text keywords.Default = codes "default"
keyword_text keywords.Do = codes "do"
keyword_text keywords.Double = codes "double"
keyword_text keywords.Else = codes "else"
keyword_text keywords.Enum = codes "enum"
keyword_text keywords.Extern = codes "extern"
keyword_text keywords.Float = codes "float"
keyword_text keywords.For = codes "for"
keyword_text keywords.Goto = codes "goto"
keyword_text keywords.If = codes "if"
keyword_text keywords.Inline = codes "inline"
keyword_text keywords.Int = codes "int"
keyword_text keywords.Long = codes "long"
keyword_text keywords.Register = codes "register"
keyword_text keywords.Restrict = codes "restrict"
keyword_text keywords.Return = codes "return"
keyword_text keywords.Short = codes "short"
keyword_text keywords.Signed = codes "signed"
keyword_text keywords.Sizeof = codes "sizeof"
keyword_text keywords.Static = codes "static"
keyword_text keywords.Struct = codes "struct"
keyword_text keywords.Switch = codes "switch"
keyword_text keywords.Typedef = codes "typedef"
keyword_text keywords.Union = codes "union"
keyword_text keywords.Unsigned = codes "unsigned"
keyword_text keywords.Void = codes "void"
keyword_text keywords.Volatile = codes "volatile"
keyword_text keywords.While = codes "while"
keyword_text keywords.AlignAs = codes "_Alignas"
keyword_text keywords.AlignOf = codes "_Alignof"
keyword_text keywords.Atomic = codes "_Atomic"
keyword_text keywords.Bool = codes "_Bool"
keyword_text keywords.Complex = codes "_Complex"
keyword_text keywords.Generic = codes "_Generic"
keyword_text keywords.Imaginary = codes "_Imaginary"
keyword_text keywords.NoReturn = codes "_Noreturn"
keyword_text keywords.StaticAssert = codes "_Static_assert"
keyword_text keywords.ThreadLocal = codes "_Thread_local"

-- the spelling of a punctuator (C11 6.4.6)
abbrev pub punctuator_text : Punctuator → List ℕ
punctuator_text punctuators.LeftBracket = codes "["
punctuator_text punctuators.RightBracket = codes "]"
punctuator_text punctuators.LeftParenthesis = codes "("
punctuator_text punctuators.RightParenthesis = codes ")"
punctuator_text punctuators.LeftBrace = codes "{"
punctuator_text punctuators.RightBrace = codes "}"
punctuator_text punctuators.Dot = codes "."
punctuator_text punctuators.Arrow = codes "->"
punctuator_text punctuators.Increment = codes "++"
punctuator_text punctuators.Decrement = codes "--"
punctuator_text punctuators.Ampersand = codes "&"
punctuator_text punctuators.Star = codes "*"
punctuator_text punctuators.Plus = codes "+"
punctuator_text punctuators.Minus = codes "-"
punctuator_text punctuators.Tilde = codes "~"
punctuator_text punctuators.Exclamation = codes "!"
punctuator_text punctuators.Slash = codes "/"
punctuator_text punctuators.Percent = codes "%"
punctuator_text punctuators.ShiftLeft = codes "<<"
punctuator_text punctuators.ShiftRight = codes ">>"
punctuator_text punctuators.Less = codes "<"
punctuator_text punctuators.Greater = codes ">"
punctuator_text punctuators.LessEqual = codes "<="
punctuator_text punctuators.GreaterEqual = codes ">="
punctuator_text punctuators.Equal = codes "=="
punctuator_text punctuators.NotEqual = codes "!="
punctuator_text punctuators.Caret = codes "^"
punctuator_text punctuators.Bar = codes "|"
punctuator_text punctuators.And = codes "&&"
punctuator_text punctuators.Or = codes "||"
punctuator_text punctuators.Question = codes "?"
punctuator_text punctuators.Colon = codes ":"
punctuator_text punctuators.Semicolon = codes ";"
punctuator_text punctuators.Ellipsis = codes "..."
punctuator_text punctuators.Assign = codes "="
punctuator_text punctuators.MultiplyAssign = codes "*="
punctuator_text punctuators.DivideAssign = codes "/="
punctuator_text punctuators.RemainderAssign = codes "%="
punctuator_text punctuators.AddAssign = codes "+="
punctuator_text punctuators.SubtractAssign = codes "-="
punctuator_text punctuators.ShiftLeftAssign = codes "<<="
punctuator_text punctuators.ShiftRightAssign = codes ">>="
punctuator_text punctuators.AndAssign = codes "&="
punctuator_text punctuators.XorAssign = codes "^="
punctuator_text punctuators.OrAssign = codes "|="
punctuator_text punctuators.Comma = codes ","

-- the value of a hexadecimal digit (C11 6.4.4.1), and 16 for any other byte
unfoldable pub digit_value : ℕ → ℕ
digit_value b =
    if nat_lt b 48 then 16 else
    (if nat_lt b 58 then b - 48 else
    (if nat_lt b 65 then 16 else
    (if nat_lt b 71 then b - 55 else
    (if nat_lt b 97 then 16 else
    (if nat_lt b 103 then b - 87 else 16)))))

-- the digits to this base at the front of a text
abbrev pub digits_of : ℕ → List ℕ → List ℕ
digits_of base [] = []
digits_of base (b ∷ s) = if nat_lt (digit_value b) base then b ∷ digits_of base s else []

-- the number that digits to this base give, after those read before
abbrev pub value_from : ℕ → ℕ → List ℕ → ℕ
value_from base v [] = v
value_from base v (b ∷ s) = value_from base (base * v + digit_value b) s

-- an x or X follows a 0 (C11 6.4.4.1)
abbrev pub IsHexadecimal : List ℕ → Type 0
IsHexadecimal s = (slice_index s 0 ≡ 48) × ((slice_index s 1 ≡ 120) ⊎ (slice_index s 1 ≡ 88))

-- the base of a constant (C11 6.4.4.1): 16 after 0x or 0X, 8 after another 0, and else 10
unfoldable pub base_of : List ℕ → ℕ
base_of s = if slice_index s 0 == 48 then (if (slice_index s 1 == 120) || (slice_index s 1 == 88) then 16 else 8) else 10

-- a constant without its 0x
abbrev pub without_prefix : List ℕ → List ℕ
without_prefix s = if base_of s == 16 then drop 2 s else s

-- the digits of a constant, without its 0x
abbrev pub constant_digits : List ℕ → List ℕ
constant_digits s = digits_of (base_of s) (without_prefix s)

-- what follows the digits of a constant
abbrev pub constant_suffix : List ℕ → List ℕ
constant_suffix s = drop (length (constant_digits s)) (without_prefix s)

-- the number that the digits of a constant give
abbrev pub number_of : List ℕ → ℕ
number_of s = value_from (base_of s) 0 (constant_digits s)

-- a u or U
abbrev pub IsUnsignedLetter : ℕ → Type 0
IsUnsignedLetter b = (b ≡ 117) ⊎ (b ≡ 85)

-- so many letters l, of one case (C11 6.4.4.1)
abbrev pub IsLong : List ℕ → ℕ → Type 0
IsLong s n =
    ((s ≡ []) × (n ≡ 0))
    ⊎ ((((s ≡ codes "l") ⊎ (s ≡ codes "L")) × (n ≡ 1))
    ⊎ (((s ≡ codes "ll") ⊎ (s ≡ codes "LL")) × (n ≡ 2)))

-- an integer suffix (C11 6.4.4.1): letters l, and a u before or after them, or none
abbrev pub IsSuffix : List ℕ → Bool → ℕ → Type 0
IsSuffix s false n = IsLong s n
IsSuffix s true n = (u : ℕ) × (l : List ℕ) × IsUnsignedLetter u × IsLong l n × ((s ≡ u ∷ l) ⊎ (s ≡ l ++ u ∷ []))

-- the spelling of an integer constant of any value (C11 6.4.4.1)
pub record IsInteger (s : List ℕ) : Type 0 where
  pub some : 0 < length (constant_digits s)
  pub ends : (unsigned : Bool) × (longs : ℕ) × IsSuffix (constant_suffix s) unsigned longs

-- an integer constant (C11 6.4.4.1) below 2^64 that a type of its row holds
pub record IsConstant (s : List ℕ) (c : Constant) : Type 0 where
  pub some : 0 < length (constant_digits s)
  pub ends : IsSuffix (constant_suffix s) c.unsigned c.longs
  pub is : c.value ≡ number_of s
  pub decimal : c.decimal ≡ (base_of s == 10)
  pub fits : number_of s < 2 ^ 64
  pub typed : IsSome (constant_type c)

-- the value of a simple escape, by the byte after its backslash (C11 6.4.4.4)
unfoldable pub simple_escape : ℕ → Option ℕ
simple_escape b =
    if (b == 39) || ((b == 34) || ((b == 63) || (b == 92))) then Some b
    else (if b == 97 then Some 7
    else (if b == 98 then Some 8
    else (if b == 102 then Some 12
    else (if b == 110 then Some 10
    else (if b == 114 then Some 13
    else (if b == 116 then Some 9
    else (if b == 118 then Some 11
    else None)))))))

-- the number that the digits of an escape give, where there are some and it is at most 255
abbrev pub byte_of : ℕ → List ℕ → Option ℕ
byte_of base [] = None
byte_of base (b ∷ s) = if nat_le (value_from base 0 (b ∷ s)) 255 then Some (value_from base 0 (b ∷ s)) else None

-- the octal digits of an escape, by what follows its backslash: three at most (C11 6.4.4.4)
abbrev pub octal_digits : List ℕ → List ℕ
octal_digits s = digits_of 8 (take 3 s)

-- how many bytes of an escape follow its backslash, also of one that is not allowed (C11 6.4.4.4)
unfoldable pub escape_length : List ℕ → ℕ
escape_length s =
    if nat_lt 0 (length (octal_digits s)) then length (octal_digits s)
    else (if slice_index s 0 == 120 then 1 + length (digits_of 16 (drop 1 s)) else 1)

-- the value of an escape, by what follows its backslash, where it is allowed (C11 6.4.4.4)
unfoldable pub escape_value : List ℕ → Option ℕ
escape_value s =
    if nat_lt 0 (length (octal_digits s)) then byte_of 8 (octal_digits s)
    else (if slice_index s 0 == 120 then byte_of 16 (digits_of 16 (drop 1 s)) else simple_escape (slice_index s 0))

-- an escape, allowed or not, follows the backslash: any byte but a line end
pub record IsEscape (s : List ℕ) : Type 0 where
  pub some : 0 < length s
  pub on_line : slice_index s 0 ≢ 10

-- after its quote, from one character on, the text of a literal is these characters up to the last part; an escape that is not allowed has no value
pub data Reads : ℕ → List ℕ → List (Option ℕ) → List ℕ → Type 0 where
  here : {quote : ℕ} {text : List ℕ} → Reads quote text [] text
  plain : {quote b : ℕ} {text last : List ℕ} {vs : List (Option ℕ)}
      → b ≢ quote → b ≢ 92 → b ≢ 10 → Reads quote text vs last → Reads quote (b ∷ text) (Some b ∷ vs) last
  escape : {quote : ℕ} {text last : List ℕ} {vs : List (Option ℕ)}
      → IsEscape text → Reads quote (drop (escape_length text) text) vs last → Reads quote (92 ∷ text) (escape_value text ∷ vs) last

-- a literal with this quote and these characters
abbrev pub IsLiteral : ℕ → List (Option ℕ) → List ℕ → Type 0
IsLiteral quote vs s = (body : List ℕ) × (s ≡ quote ∷ body) × Reads quote body vs (quote ∷ [])

-- the value of a char with this byte
unfoldable pub char_value : ℕ → ℤ
char_value b = if nat_lt b 128 then pos b else pos b -ℤ pos 256

-- a character constant with one character, and no byte above 127
pub record IsOneCharacter (v : Option ℕ) (s : List ℕ) : Type 0 where
  pub literal : IsLiteral 39 (v ∷ []) s
  pub low : (k : ℕ) → k < length s → slice_index s k ≤ 127
