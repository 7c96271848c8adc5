-- What holds of each keyword and each punctuator in their lists holds of all of them.
use Rattle.std.proofs.Common.{◌≡◌, refl, sym, ℕ, zero, suc, Bool, true, false, ◌&&◌, List, [], ◌∷◌, Option, Some, None, true≢false}
use Rattle.c_syntax_written.specs.declared.token.Keyword.{Keyword}
use Rattle.c_syntax_written.specs.declared.token.Keyword.TheVariants as keywords
use Rattle.c_syntax_written.specs.declared.token.Punctuator.{Punctuator}
use Rattle.c_syntax_written.specs.declared.token.Punctuator.TheVariants as signs

pub and_left : (a b : Bool) → (a && b) ≡ true → a ≡ true
and_left true b h = refl
and_left false b h = h

pub and_right : (a b : Bool) → (a && b) ≡ true → b ≡ true
and_right true b h = h
and_right false b h = absurd (true≢false (sym h))

abbrev pub every : {A : Type 0} → (A → Bool) → List A → Bool
every f [] = true
every f (x ∷ xs) = f x && every f xs

abbrev pub nth : {A : Type 0} → List A → ℕ → Option A
nth [] n = None
nth (x ∷ xs) zero = Some x
nth (x ∷ xs) (suc n) = nth xs n

abbrev pub HoldsOf : {A : Type 0} → (A → Bool) → Option A → Type 0
HoldsOf f (Some x) = f x ≡ true
HoldsOf f None = Unit {0}

pub every_nth : {A : Type 0} (f : A → Bool) (xs : List A) → every f xs ≡ true → (n : ℕ) → HoldsOf f (nth xs n)
every_nth f [] h n = tt
every_nth f (x ∷ xs) h zero = and_left (f x) (every f xs) h
every_nth f (x ∷ xs) h (suc n) = every_nth f xs (and_right (f x) (every f xs) h) n

abbrev pub keyword_list : List Keyword
keyword_list = keywords.Auto ∷ keywords.Break ∷ keywords.Case ∷ keywords.Char ∷ keywords.Const ∷ keywords.Continue ∷ keywords.Default ∷ keywords.Do ∷ keywords.Double ∷ keywords.Else ∷ keywords.Enum ∷ keywords.Extern ∷ keywords.Float ∷ keywords.For ∷ keywords.Goto ∷ keywords.If ∷ keywords.Inline ∷ keywords.Int ∷ keywords.Long ∷ keywords.Register ∷ keywords.Restrict ∷ keywords.Return ∷ keywords.Short ∷ keywords.Signed ∷ keywords.Sizeof ∷ keywords.Static ∷ keywords.Struct ∷ keywords.Switch ∷ keywords.Typedef ∷ keywords.Union ∷ keywords.Unsigned ∷ keywords.Void ∷ keywords.Volatile ∷ keywords.While ∷ keywords.AlignAs ∷ keywords.AlignOf ∷ keywords.Atomic ∷ keywords.Bool ∷ keywords.Complex ∷ keywords.Generic ∷ keywords.Imaginary ∷ keywords.NoReturn ∷ keywords.StaticAssert ∷ keywords.ThreadLocal ∷ []

abbrev pub sign_list : List Punctuator
sign_list = signs.LeftBracket ∷ signs.RightBracket ∷ signs.LeftParenthesis ∷ signs.RightParenthesis ∷ signs.LeftBrace ∷ signs.RightBrace ∷ signs.Dot ∷ signs.Arrow ∷ signs.Increment ∷ signs.Decrement ∷ signs.Ampersand ∷ signs.Star ∷ signs.Plus ∷ signs.Minus ∷ signs.Tilde ∷ signs.Exclamation ∷ signs.Slash ∷ signs.Percent ∷ signs.ShiftLeft ∷ signs.ShiftRight ∷ signs.Less ∷ signs.Greater ∷ signs.LessEqual ∷ signs.GreaterEqual ∷ signs.Equal ∷ signs.NotEqual ∷ signs.Caret ∷ signs.Bar ∷ signs.And ∷ signs.Or ∷ signs.Question ∷ signs.Colon ∷ signs.Semicolon ∷ signs.Ellipsis ∷ signs.Assign ∷ signs.MultiplyAssign ∷ signs.DivideAssign ∷ signs.RemainderAssign ∷ signs.AddAssign ∷ signs.SubtractAssign ∷ signs.ShiftLeftAssign ∷ signs.ShiftRightAssign ∷ signs.AndAssign ∷ signs.XorAssign ∷ signs.OrAssign ∷ signs.Comma ∷ []

pub keyword_sweep : (f : Keyword → Bool) → every f keyword_list ≡ true → (k : Keyword) → f k ≡ true
keyword_sweep f h keywords.Auto = every_nth f keyword_list h 0
keyword_sweep f h keywords.Break = every_nth f keyword_list h 1
keyword_sweep f h keywords.Case = every_nth f keyword_list h 2
keyword_sweep f h keywords.Char = every_nth f keyword_list h 3
keyword_sweep f h keywords.Const = every_nth f keyword_list h 4
keyword_sweep f h keywords.Continue = every_nth f keyword_list h 5
keyword_sweep f h keywords.Default = every_nth f keyword_list h 6
keyword_sweep f h keywords.Do = every_nth f keyword_list h 7
keyword_sweep f h keywords.Double = every_nth f keyword_list h 8
keyword_sweep f h keywords.Else = every_nth f keyword_list h 9
keyword_sweep f h keywords.Enum = every_nth f keyword_list h 10
keyword_sweep f h keywords.Extern = every_nth f keyword_list h 11
keyword_sweep f h keywords.Float = every_nth f keyword_list h 12
keyword_sweep f h keywords.For = every_nth f keyword_list h 13
keyword_sweep f h keywords.Goto = every_nth f keyword_list h 14
keyword_sweep f h keywords.If = every_nth f keyword_list h 15
keyword_sweep f h keywords.Inline = every_nth f keyword_list h 16
keyword_sweep f h keywords.Int = every_nth f keyword_list h 17
keyword_sweep f h keywords.Long = every_nth f keyword_list h 18
keyword_sweep f h keywords.Register = every_nth f keyword_list h 19
keyword_sweep f h keywords.Restrict = every_nth f keyword_list h 20
keyword_sweep f h keywords.Return = every_nth f keyword_list h 21
keyword_sweep f h keywords.Short = every_nth f keyword_list h 22
keyword_sweep f h keywords.Signed = every_nth f keyword_list h 23
keyword_sweep f h keywords.Sizeof = every_nth f keyword_list h 24
keyword_sweep f h keywords.Static = every_nth f keyword_list h 25
keyword_sweep f h keywords.Struct = every_nth f keyword_list h 26
keyword_sweep f h keywords.Switch = every_nth f keyword_list h 27
keyword_sweep f h keywords.Typedef = every_nth f keyword_list h 28
keyword_sweep f h keywords.Union = every_nth f keyword_list h 29
keyword_sweep f h keywords.Unsigned = every_nth f keyword_list h 30
keyword_sweep f h keywords.Void = every_nth f keyword_list h 31
keyword_sweep f h keywords.Volatile = every_nth f keyword_list h 32
keyword_sweep f h keywords.While = every_nth f keyword_list h 33
keyword_sweep f h keywords.AlignAs = every_nth f keyword_list h 34
keyword_sweep f h keywords.AlignOf = every_nth f keyword_list h 35
keyword_sweep f h keywords.Atomic = every_nth f keyword_list h 36
keyword_sweep f h keywords.Bool = every_nth f keyword_list h 37
keyword_sweep f h keywords.Complex = every_nth f keyword_list h 38
keyword_sweep f h keywords.Generic = every_nth f keyword_list h 39
keyword_sweep f h keywords.Imaginary = every_nth f keyword_list h 40
keyword_sweep f h keywords.NoReturn = every_nth f keyword_list h 41
keyword_sweep f h keywords.StaticAssert = every_nth f keyword_list h 42
keyword_sweep f h keywords.ThreadLocal = every_nth f keyword_list h 43

pub sign_sweep : (f : Punctuator → Bool) → every f sign_list ≡ true → (p : Punctuator) → f p ≡ true
sign_sweep f h signs.LeftBracket = every_nth f sign_list h 0
sign_sweep f h signs.RightBracket = every_nth f sign_list h 1
sign_sweep f h signs.LeftParenthesis = every_nth f sign_list h 2
sign_sweep f h signs.RightParenthesis = every_nth f sign_list h 3
sign_sweep f h signs.LeftBrace = every_nth f sign_list h 4
sign_sweep f h signs.RightBrace = every_nth f sign_list h 5
sign_sweep f h signs.Dot = every_nth f sign_list h 6
sign_sweep f h signs.Arrow = every_nth f sign_list h 7
sign_sweep f h signs.Increment = every_nth f sign_list h 8
sign_sweep f h signs.Decrement = every_nth f sign_list h 9
sign_sweep f h signs.Ampersand = every_nth f sign_list h 10
sign_sweep f h signs.Star = every_nth f sign_list h 11
sign_sweep f h signs.Plus = every_nth f sign_list h 12
sign_sweep f h signs.Minus = every_nth f sign_list h 13
sign_sweep f h signs.Tilde = every_nth f sign_list h 14
sign_sweep f h signs.Exclamation = every_nth f sign_list h 15
sign_sweep f h signs.Slash = every_nth f sign_list h 16
sign_sweep f h signs.Percent = every_nth f sign_list h 17
sign_sweep f h signs.ShiftLeft = every_nth f sign_list h 18
sign_sweep f h signs.ShiftRight = every_nth f sign_list h 19
sign_sweep f h signs.Less = every_nth f sign_list h 20
sign_sweep f h signs.Greater = every_nth f sign_list h 21
sign_sweep f h signs.LessEqual = every_nth f sign_list h 22
sign_sweep f h signs.GreaterEqual = every_nth f sign_list h 23
sign_sweep f h signs.Equal = every_nth f sign_list h 24
sign_sweep f h signs.NotEqual = every_nth f sign_list h 25
sign_sweep f h signs.Caret = every_nth f sign_list h 26
sign_sweep f h signs.Bar = every_nth f sign_list h 27
sign_sweep f h signs.And = every_nth f sign_list h 28
sign_sweep f h signs.Or = every_nth f sign_list h 29
sign_sweep f h signs.Question = every_nth f sign_list h 30
sign_sweep f h signs.Colon = every_nth f sign_list h 31
sign_sweep f h signs.Semicolon = every_nth f sign_list h 32
sign_sweep f h signs.Ellipsis = every_nth f sign_list h 33
sign_sweep f h signs.Assign = every_nth f sign_list h 34
sign_sweep f h signs.MultiplyAssign = every_nth f sign_list h 35
sign_sweep f h signs.DivideAssign = every_nth f sign_list h 36
sign_sweep f h signs.RemainderAssign = every_nth f sign_list h 37
sign_sweep f h signs.AddAssign = every_nth f sign_list h 38
sign_sweep f h signs.SubtractAssign = every_nth f sign_list h 39
sign_sweep f h signs.ShiftLeftAssign = every_nth f sign_list h 40
sign_sweep f h signs.ShiftRightAssign = every_nth f sign_list h 41
sign_sweep f h signs.AndAssign = every_nth f sign_list h 42
sign_sweep f h signs.XorAssign = every_nth f sign_list h 43
sign_sweep f h signs.OrAssign = every_nth f sign_list h 44
sign_sweep f h signs.Comma = every_nth f sign_list h 45
