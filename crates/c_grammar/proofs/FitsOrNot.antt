-- Whether a token is of a class.
use Rattle.std.proofs.Common.{◌≡◌, ℕ, Bool, true, false, Some, refl, sym, ap, ◌∙◌, ◌⊎◌, inl, inr}
use Rattle.std.proofs.lemmas.Bool.{cases_Bool, cases_eq}
use Rattle.c_syntax_written.specs.declared.token.Keyword.{Keyword}
use Rattle.c_syntax_written.specs.declared.token.Keyword.TheVariants as keywords
use Rattle.c_syntax_written.specs.declared.token.Punctuator.{Punctuator}
use Rattle.c_syntax_written.specs.declared.token.Punctuator.TheVariants as signs
use Rattle.c_syntax_written.specs.declared.token.Token.{Token}
use Rattle.c_syntax_written.specs.declared.token.Token.TheVariants as kinds
use Rattle.c_grammar.specs.Parts.{Scene}
use Rattle.c_grammar.specs.declared.class.Class.{Class}
use Rattle.c_grammar.specs.declared.class.Class.TheVariants.{Keyword as keyword, Sign as sign, Word as word, AnyWord as any_word, TypeName as type_name, Number as number, Character as character, Text as text}
use Rattle.c_grammar.specs.Classes.{Fits, names_type}
use Rattle.c_grammar.proofs.Sweep.{nth, keyword_list, sign_list}

abbrev keyword_place : Keyword → ℕ
keyword_place keywords.Auto = 0
keyword_place keywords.Break = 1
keyword_place keywords.Case = 2
keyword_place keywords.Char = 3
keyword_place keywords.Const = 4
keyword_place keywords.Continue = 5
keyword_place keywords.Default = 6
keyword_place keywords.Do = 7
keyword_place keywords.Double = 8
keyword_place keywords.Else = 9
keyword_place keywords.Enum = 10
keyword_place keywords.Extern = 11
keyword_place keywords.Float = 12
keyword_place keywords.For = 13
keyword_place keywords.Goto = 14
keyword_place keywords.If = 15
keyword_place keywords.Inline = 16
keyword_place keywords.Int = 17
keyword_place keywords.Long = 18
keyword_place keywords.Register = 19
keyword_place keywords.Restrict = 20
keyword_place keywords.Return = 21
keyword_place keywords.Short = 22
keyword_place keywords.Signed = 23
keyword_place keywords.Sizeof = 24
keyword_place keywords.Static = 25
keyword_place keywords.Struct = 26
keyword_place keywords.Switch = 27
keyword_place keywords.Typedef = 28
keyword_place keywords.Union = 29
keyword_place keywords.Unsigned = 30
keyword_place keywords.Void = 31
keyword_place keywords.Volatile = 32
keyword_place keywords.While = 33
keyword_place keywords.AlignAs = 34
keyword_place keywords.AlignOf = 35
keyword_place keywords.Atomic = 36
keyword_place keywords.Bool = 37
keyword_place keywords.Complex = 38
keyword_place keywords.Generic = 39
keyword_place keywords.Imaginary = 40
keyword_place keywords.NoReturn = 41
keyword_place keywords.StaticAssert = 42
keyword_place keywords.ThreadLocal = 43

keyword_at : (k : Keyword) → nth keyword_list (keyword_place k) ≡ Some k
keyword_at keywords.Auto = refl
keyword_at keywords.Break = refl
keyword_at keywords.Case = refl
keyword_at keywords.Char = refl
keyword_at keywords.Const = refl
keyword_at keywords.Continue = refl
keyword_at keywords.Default = refl
keyword_at keywords.Do = refl
keyword_at keywords.Double = refl
keyword_at keywords.Else = refl
keyword_at keywords.Enum = refl
keyword_at keywords.Extern = refl
keyword_at keywords.Float = refl
keyword_at keywords.For = refl
keyword_at keywords.Goto = refl
keyword_at keywords.If = refl
keyword_at keywords.Inline = refl
keyword_at keywords.Int = refl
keyword_at keywords.Long = refl
keyword_at keywords.Register = refl
keyword_at keywords.Restrict = refl
keyword_at keywords.Return = refl
keyword_at keywords.Short = refl
keyword_at keywords.Signed = refl
keyword_at keywords.Sizeof = refl
keyword_at keywords.Static = refl
keyword_at keywords.Struct = refl
keyword_at keywords.Switch = refl
keyword_at keywords.Typedef = refl
keyword_at keywords.Union = refl
keyword_at keywords.Unsigned = refl
keyword_at keywords.Void = refl
keyword_at keywords.Volatile = refl
keyword_at keywords.While = refl
keyword_at keywords.AlignAs = refl
keyword_at keywords.AlignOf = refl
keyword_at keywords.Atomic = refl
keyword_at keywords.Bool = refl
keyword_at keywords.Complex = refl
keyword_at keywords.Generic = refl
keyword_at keywords.Imaginary = refl
keyword_at keywords.NoReturn = refl
keyword_at keywords.StaticAssert = refl
keyword_at keywords.ThreadLocal = refl

abbrev sign_place : Punctuator → ℕ
sign_place signs.LeftBracket = 0
sign_place signs.RightBracket = 1
sign_place signs.LeftParenthesis = 2
sign_place signs.RightParenthesis = 3
sign_place signs.LeftBrace = 4
sign_place signs.RightBrace = 5
sign_place signs.Dot = 6
sign_place signs.Arrow = 7
sign_place signs.Increment = 8
sign_place signs.Decrement = 9
sign_place signs.Ampersand = 10
sign_place signs.Star = 11
sign_place signs.Plus = 12
sign_place signs.Minus = 13
sign_place signs.Tilde = 14
sign_place signs.Exclamation = 15
sign_place signs.Slash = 16
sign_place signs.Percent = 17
sign_place signs.ShiftLeft = 18
sign_place signs.ShiftRight = 19
sign_place signs.Less = 20
sign_place signs.Greater = 21
sign_place signs.LessEqual = 22
sign_place signs.GreaterEqual = 23
sign_place signs.Equal = 24
sign_place signs.NotEqual = 25
sign_place signs.Caret = 26
sign_place signs.Bar = 27
sign_place signs.And = 28
sign_place signs.Or = 29
sign_place signs.Question = 30
sign_place signs.Colon = 31
sign_place signs.Semicolon = 32
sign_place signs.Ellipsis = 33
sign_place signs.Assign = 34
sign_place signs.MultiplyAssign = 35
sign_place signs.DivideAssign = 36
sign_place signs.RemainderAssign = 37
sign_place signs.AddAssign = 38
sign_place signs.SubtractAssign = 39
sign_place signs.ShiftLeftAssign = 40
sign_place signs.ShiftRightAssign = 41
sign_place signs.AndAssign = 42
sign_place signs.XorAssign = 43
sign_place signs.OrAssign = 44
sign_place signs.Comma = 45

sign_at : (p : Punctuator) → nth sign_list (sign_place p) ≡ Some p
sign_at signs.LeftBracket = refl
sign_at signs.RightBracket = refl
sign_at signs.LeftParenthesis = refl
sign_at signs.RightParenthesis = refl
sign_at signs.LeftBrace = refl
sign_at signs.RightBrace = refl
sign_at signs.Dot = refl
sign_at signs.Arrow = refl
sign_at signs.Increment = refl
sign_at signs.Decrement = refl
sign_at signs.Ampersand = refl
sign_at signs.Star = refl
sign_at signs.Plus = refl
sign_at signs.Minus = refl
sign_at signs.Tilde = refl
sign_at signs.Exclamation = refl
sign_at signs.Slash = refl
sign_at signs.Percent = refl
sign_at signs.ShiftLeft = refl
sign_at signs.ShiftRight = refl
sign_at signs.Less = refl
sign_at signs.Greater = refl
sign_at signs.LessEqual = refl
sign_at signs.GreaterEqual = refl
sign_at signs.Equal = refl
sign_at signs.NotEqual = refl
sign_at signs.Caret = refl
sign_at signs.Bar = refl
sign_at signs.And = refl
sign_at signs.Or = refl
sign_at signs.Question = refl
sign_at signs.Colon = refl
sign_at signs.Semicolon = refl
sign_at signs.Ellipsis = refl
sign_at signs.Assign = refl
sign_at signs.MultiplyAssign = refl
sign_at signs.DivideAssign = refl
sign_at signs.RemainderAssign = refl
sign_at signs.AddAssign = refl
sign_at signs.SubtractAssign = refl
sign_at signs.ShiftLeftAssign = refl
sign_at signs.ShiftRightAssign = refl
sign_at signs.AndAssign = refl
sign_at signs.XorAssign = refl
sign_at signs.OrAssign = refl
sign_at signs.Comma = refl

-- it is so, or is not
abbrev pub Decided : Type 0 → Type 0
Decided A = A ⊎ (A → ⊥)

same_keyword : (j k : Keyword) → keyword_place j ≡ keyword_place k → j ≡ k
same_keyword j k e = let f : Some j ≡ Some k = sym (keyword_at j) ∙ ap (λ n. nth keyword_list n) e ∙ keyword_at k in cc

same_sign : (p q : Punctuator) → sign_place p ≡ sign_place q → p ≡ q
same_sign p q e = let f : Some p ≡ Some q = sym (sign_at p) ∙ ap (λ n. nth sign_list n) e ∙ sign_at q in cc

is_keyword : (j k : Keyword) → Decided (kinds.Keyword j ≡ kinds.Keyword k)
is_keyword j k = elim (cases_eq (keyword_place j) (keyword_place k)) [ inl e ↦ inl (ap (λ v. kinds.Keyword v) (same_keyword j k e)) | inr h ↦ inr (λ e. let f : j ≡ k = cc in h (ap (λ v. keyword_place v) f)) ]

is_sign : (p q : Punctuator) → Decided (kinds.Punctuator p ≡ kinds.Punctuator q)
is_sign p q = elim (cases_eq (sign_place p) (sign_place q)) [ inl e ↦ inl (ap (λ v. kinds.Punctuator v) (same_sign p q e)) | inr h ↦ inr (λ e. let f : p ≡ q = cc in h (ap (λ v. sign_place v) f)) ]

is_true : (b : Bool) → Decided (b ≡ true)
is_true b = elim (cases_Bool b) [ inl e ↦ inl e | inr e ↦ inr (λ f. cc) ]

is_false : (b : Bool) → Decided (b ≡ false)
is_false b = elim (cases_Bool b) [ inl e ↦ inr (λ f. cc) | inr e ↦ inl e ]

never : {A : Type 0} → (A → ⊥) → Decided A
never h = inr h

fits_keyword : (w : Scene) (k : Keyword) (t : Token) → Decided (Fits w (keyword k) t)
fits_keyword w k (kinds.Keyword j) = is_keyword j k
fits_keyword w k _ = inr (λ e. cc)

fits_sign : (w : Scene) (p : Punctuator) (t : Token) → Decided (Fits w (sign p) t)
fits_sign w p (kinds.Punctuator q) = is_sign q p
fits_sign w p _ = inr (λ e. cc)

pub fits : (w : Scene) (c : Class) (t : Token) → Decided (Fits w c t)
fits w (keyword k) t = fits_keyword w k t
fits w (sign p) t = fits_sign w p t
fits w word (kinds.Word name) = is_false (names_type w name)
fits w word _ = inr (λ e. e)
fits w any_word (kinds.Word name) = inl tt
fits w any_word _ = inr (λ e. e)
fits w type_name (kinds.Word name) = is_true (names_type w name)
fits w type_name _ = inr (λ e. e)
fits w number (kinds.Number c) = inl tt
fits w number _ = inr (λ e. e)
fits w character (kinds.Character n) = inl tt
fits w character _ = inr (λ e. e)
fits w text (kinds.Text bytes) = inl tt
fits w text _ = inr (λ e. e)
