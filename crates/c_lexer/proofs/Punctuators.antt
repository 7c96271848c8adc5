-- The spellings of punctuators and keywords, one by one.
use Rattle.std.proofs.Common.{◌≡◌, ℕ, zero, suc, ◌+◌, ◌*◌, ◌<◌, ◌≤◌, ◌⊎◌, inl, inr, List, [], ◌∷◌, length, get_or, refl, sym, ap, ◌∙◌, arith, nat_eq, if◌then◌else◌}
use Rattle.c_syntax_written.specs.declared.token.Keyword.{Keyword}
use Rattle.c_syntax_written.specs.declared.token.Keyword.TheVariants as keywords
use Rattle.c_syntax_written.specs.declared.token.Punctuator.{Punctuator}
use Rattle.c_syntax_written.specs.declared.token.Punctuator.TheVariants as punctuators
use Rattle.c_lexer.specs.Spelling.{keyword_text, punctuator_text}
use Rattle.c_lexer.specs.Cut.{IsLetter, IsWord}

-- a byte that a punctuator begins with
abbrev pub IsPunctuatorByte : ℕ → Type 0
IsPunctuatorByte b = (b ≡ 33) ⊎ (((37 ≤ b) × (b ≤ 38)) ⊎ (((40 ≤ b) × (b ≤ 47)) ⊎ (((58 ≤ b) × (b ≤ 63)) ⊎ ((b ≡ 91) ⊎ (((93 ≤ b) × (b ≤ 94)) ⊎ ((123 ≤ b) × (b ≤ 126)))))))

pub punctuator_first : (p : Punctuator) → IsPunctuatorByte (get_or (punctuator_text p) 0 0)
punctuator_first punctuators.LeftBracket = inr (inr (inr (inr (inl refl))))
punctuator_first punctuators.RightBracket = inr (inr (inr (inr (inr (inl (omega arith, omega arith))))))
punctuator_first punctuators.LeftParenthesis = inr (inr (inl (omega arith, omega arith)))
punctuator_first punctuators.RightParenthesis = inr (inr (inl (omega arith, omega arith)))
punctuator_first punctuators.LeftBrace = inr (inr (inr (inr (inr (inr (omega arith, omega arith))))))
punctuator_first punctuators.RightBrace = inr (inr (inr (inr (inr (inr (omega arith, omega arith))))))
punctuator_first punctuators.Dot = inr (inr (inl (omega arith, omega arith)))
punctuator_first punctuators.Arrow = inr (inr (inl (omega arith, omega arith)))
punctuator_first punctuators.Increment = inr (inr (inl (omega arith, omega arith)))
punctuator_first punctuators.Decrement = inr (inr (inl (omega arith, omega arith)))
punctuator_first punctuators.Ampersand = inr (inl (omega arith, omega arith))
punctuator_first punctuators.Star = inr (inr (inl (omega arith, omega arith)))
punctuator_first punctuators.Plus = inr (inr (inl (omega arith, omega arith)))
punctuator_first punctuators.Minus = inr (inr (inl (omega arith, omega arith)))
punctuator_first punctuators.Tilde = inr (inr (inr (inr (inr (inr (omega arith, omega arith))))))
punctuator_first punctuators.Exclamation = inl refl
punctuator_first punctuators.Slash = inr (inr (inl (omega arith, omega arith)))
punctuator_first punctuators.Percent = inr (inl (omega arith, omega arith))
punctuator_first punctuators.ShiftLeft = inr (inr (inr (inl (omega arith, omega arith))))
punctuator_first punctuators.ShiftRight = inr (inr (inr (inl (omega arith, omega arith))))
punctuator_first punctuators.Less = inr (inr (inr (inl (omega arith, omega arith))))
punctuator_first punctuators.Greater = inr (inr (inr (inl (omega arith, omega arith))))
punctuator_first punctuators.LessEqual = inr (inr (inr (inl (omega arith, omega arith))))
punctuator_first punctuators.GreaterEqual = inr (inr (inr (inl (omega arith, omega arith))))
punctuator_first punctuators.Equal = inr (inr (inr (inl (omega arith, omega arith))))
punctuator_first punctuators.NotEqual = inl refl
punctuator_first punctuators.Caret = inr (inr (inr (inr (inr (inl (omega arith, omega arith))))))
punctuator_first punctuators.Bar = inr (inr (inr (inr (inr (inr (omega arith, omega arith))))))
punctuator_first punctuators.And = inr (inl (omega arith, omega arith))
punctuator_first punctuators.Or = inr (inr (inr (inr (inr (inr (omega arith, omega arith))))))
punctuator_first punctuators.Question = inr (inr (inr (inl (omega arith, omega arith))))
punctuator_first punctuators.Colon = inr (inr (inr (inl (omega arith, omega arith))))
punctuator_first punctuators.Semicolon = inr (inr (inr (inl (omega arith, omega arith))))
punctuator_first punctuators.Ellipsis = inr (inr (inl (omega arith, omega arith)))
punctuator_first punctuators.Assign = inr (inr (inr (inl (omega arith, omega arith))))
punctuator_first punctuators.MultiplyAssign = inr (inr (inl (omega arith, omega arith)))
punctuator_first punctuators.DivideAssign = inr (inr (inl (omega arith, omega arith)))
punctuator_first punctuators.RemainderAssign = inr (inl (omega arith, omega arith))
punctuator_first punctuators.AddAssign = inr (inr (inl (omega arith, omega arith)))
punctuator_first punctuators.SubtractAssign = inr (inr (inl (omega arith, omega arith)))
punctuator_first punctuators.ShiftLeftAssign = inr (inr (inr (inl (omega arith, omega arith))))
punctuator_first punctuators.ShiftRightAssign = inr (inr (inr (inl (omega arith, omega arith))))
punctuator_first punctuators.AndAssign = inr (inl (omega arith, omega arith))
punctuator_first punctuators.XorAssign = inr (inr (inr (inr (inr (inl (omega arith, omega arith))))))
punctuator_first punctuators.OrAssign = inr (inr (inr (inr (inr (inr (omega arith, omega arith))))))
punctuator_first punctuators.Comma = inr (inr (inl (omega arith, omega arith)))

pub punctuator_long : (p : Punctuator) → (0 < length (punctuator_text p)) × (length (punctuator_text p) ≤ 3)
punctuator_long punctuators.LeftBracket = (omega arith, omega arith)
punctuator_long punctuators.RightBracket = (omega arith, omega arith)
punctuator_long punctuators.LeftParenthesis = (omega arith, omega arith)
punctuator_long punctuators.RightParenthesis = (omega arith, omega arith)
punctuator_long punctuators.LeftBrace = (omega arith, omega arith)
punctuator_long punctuators.RightBrace = (omega arith, omega arith)
punctuator_long punctuators.Dot = (omega arith, omega arith)
punctuator_long punctuators.Arrow = (omega arith, omega arith)
punctuator_long punctuators.Increment = (omega arith, omega arith)
punctuator_long punctuators.Decrement = (omega arith, omega arith)
punctuator_long punctuators.Ampersand = (omega arith, omega arith)
punctuator_long punctuators.Star = (omega arith, omega arith)
punctuator_long punctuators.Plus = (omega arith, omega arith)
punctuator_long punctuators.Minus = (omega arith, omega arith)
punctuator_long punctuators.Tilde = (omega arith, omega arith)
punctuator_long punctuators.Exclamation = (omega arith, omega arith)
punctuator_long punctuators.Slash = (omega arith, omega arith)
punctuator_long punctuators.Percent = (omega arith, omega arith)
punctuator_long punctuators.ShiftLeft = (omega arith, omega arith)
punctuator_long punctuators.ShiftRight = (omega arith, omega arith)
punctuator_long punctuators.Less = (omega arith, omega arith)
punctuator_long punctuators.Greater = (omega arith, omega arith)
punctuator_long punctuators.LessEqual = (omega arith, omega arith)
punctuator_long punctuators.GreaterEqual = (omega arith, omega arith)
punctuator_long punctuators.Equal = (omega arith, omega arith)
punctuator_long punctuators.NotEqual = (omega arith, omega arith)
punctuator_long punctuators.Caret = (omega arith, omega arith)
punctuator_long punctuators.Bar = (omega arith, omega arith)
punctuator_long punctuators.And = (omega arith, omega arith)
punctuator_long punctuators.Or = (omega arith, omega arith)
punctuator_long punctuators.Question = (omega arith, omega arith)
punctuator_long punctuators.Colon = (omega arith, omega arith)
punctuator_long punctuators.Semicolon = (omega arith, omega arith)
punctuator_long punctuators.Ellipsis = (omega arith, omega arith)
punctuator_long punctuators.Assign = (omega arith, omega arith)
punctuator_long punctuators.MultiplyAssign = (omega arith, omega arith)
punctuator_long punctuators.DivideAssign = (omega arith, omega arith)
punctuator_long punctuators.RemainderAssign = (omega arith, omega arith)
punctuator_long punctuators.AddAssign = (omega arith, omega arith)
punctuator_long punctuators.SubtractAssign = (omega arith, omega arith)
punctuator_long punctuators.ShiftLeftAssign = (omega arith, omega arith)
punctuator_long punctuators.ShiftRightAssign = (omega arith, omega arith)
punctuator_long punctuators.AndAssign = (omega arith, omega arith)
punctuator_long punctuators.XorAssign = (omega arith, omega arith)
punctuator_long punctuators.OrAssign = (omega arith, omega arith)
punctuator_long punctuators.Comma = (omega arith, omega arith)

-- a point begins a punctuator of one byte, or of which the second is a point
pub punctuator_dot : (p : Punctuator) → get_or (punctuator_text p) 0 0 ≡ 46 → (length (punctuator_text p) ≡ 1) ⊎ ((1 < length (punctuator_text p)) × (get_or (punctuator_text p) 1 0 ≡ 46))
punctuator_dot punctuators.LeftBracket e = inl refl
punctuator_dot punctuators.RightBracket e = inl refl
punctuator_dot punctuators.LeftParenthesis e = inl refl
punctuator_dot punctuators.RightParenthesis e = inl refl
punctuator_dot punctuators.LeftBrace e = inl refl
punctuator_dot punctuators.RightBrace e = inl refl
punctuator_dot punctuators.Dot e = inl refl
punctuator_dot punctuators.Arrow e = absurd (omega arith)
punctuator_dot punctuators.Increment e = absurd (omega arith)
punctuator_dot punctuators.Decrement e = absurd (omega arith)
punctuator_dot punctuators.Ampersand e = inl refl
punctuator_dot punctuators.Star e = inl refl
punctuator_dot punctuators.Plus e = inl refl
punctuator_dot punctuators.Minus e = inl refl
punctuator_dot punctuators.Tilde e = inl refl
punctuator_dot punctuators.Exclamation e = inl refl
punctuator_dot punctuators.Slash e = inl refl
punctuator_dot punctuators.Percent e = inl refl
punctuator_dot punctuators.ShiftLeft e = absurd (omega arith)
punctuator_dot punctuators.ShiftRight e = absurd (omega arith)
punctuator_dot punctuators.Less e = inl refl
punctuator_dot punctuators.Greater e = inl refl
punctuator_dot punctuators.LessEqual e = absurd (omega arith)
punctuator_dot punctuators.GreaterEqual e = absurd (omega arith)
punctuator_dot punctuators.Equal e = absurd (omega arith)
punctuator_dot punctuators.NotEqual e = absurd (omega arith)
punctuator_dot punctuators.Caret e = inl refl
punctuator_dot punctuators.Bar e = inl refl
punctuator_dot punctuators.And e = absurd (omega arith)
punctuator_dot punctuators.Or e = absurd (omega arith)
punctuator_dot punctuators.Question e = inl refl
punctuator_dot punctuators.Colon e = inl refl
punctuator_dot punctuators.Semicolon e = inl refl
punctuator_dot punctuators.Ellipsis e = inr (omega arith, refl)
punctuator_dot punctuators.Assign e = inl refl
punctuator_dot punctuators.MultiplyAssign e = absurd (omega arith)
punctuator_dot punctuators.DivideAssign e = absurd (omega arith)
punctuator_dot punctuators.RemainderAssign e = absurd (omega arith)
punctuator_dot punctuators.AddAssign e = absurd (omega arith)
punctuator_dot punctuators.SubtractAssign e = absurd (omega arith)
punctuator_dot punctuators.ShiftLeftAssign e = absurd (omega arith)
punctuator_dot punctuators.ShiftRightAssign e = absurd (omega arith)
punctuator_dot punctuators.AndAssign e = absurd (omega arith)
punctuator_dot punctuators.XorAssign e = absurd (omega arith)
punctuator_dot punctuators.OrAssign e = absurd (omega arith)
punctuator_dot punctuators.Comma e = inl refl

-- the bytes of a keyword, one by one
abbrev AreLetters : List ℕ → Type 0
AreLetters [] = Unit {0}
AreLetters (b ∷ s) = IsLetter b × AreLetters s

letters_each : (s : List ℕ) → AreLetters s → (k : ℕ) → k < length s → IsLetter (get_or s k 0)
letters_each [] d k h = absurd (omega arith)
letters_each (b ∷ s) d zero h = d.0
letters_each (b ∷ s) d (suc k) h = letters_each s d.1 k (omega arith)

small : (b : ℕ) → 97 ≤ b → b ≤ 122 → IsLetter b
small b l h = inr (inl (l, h))

large : (b : ℕ) → 65 ≤ b → b ≤ 90 → IsLetter b
large b l h = inl (l, h)

keyword_letters : (k : Keyword) → (0 < length (keyword_text k)) × AreLetters (keyword_text k)
keyword_letters keywords.Auto = (omega arith, (small _ (omega arith) (omega arith), (small _ (omega arith) (omega arith), (small _ (omega arith) (omega arith), (small _ (omega arith) (omega arith), tt)))))
keyword_letters keywords.Break = (omega arith, (small _ (omega arith) (omega arith), (small _ (omega arith) (omega arith), (small _ (omega arith) (omega arith), (small _ (omega arith) (omega arith), (small _ (omega arith) (omega arith), tt))))))
keyword_letters keywords.Case = (omega arith, (small _ (omega arith) (omega arith), (small _ (omega arith) (omega arith), (small _ (omega arith) (omega arith), (small _ (omega arith) (omega arith), tt)))))
keyword_letters keywords.Char = (omega arith, (small _ (omega arith) (omega arith), (small _ (omega arith) (omega arith), (small _ (omega arith) (omega arith), (small _ (omega arith) (omega arith), tt)))))
keyword_letters keywords.Const = (omega arith, (small _ (omega arith) (omega arith), (small _ (omega arith) (omega arith), (small _ (omega arith) (omega arith), (small _ (omega arith) (omega arith), (small _ (omega arith) (omega arith), tt))))))
keyword_letters keywords.Continue = (omega arith, (small _ (omega arith) (omega arith), (small _ (omega arith) (omega arith), (small _ (omega arith) (omega arith), (small _ (omega arith) (omega arith), (small _ (omega arith) (omega arith), (small _ (omega arith) (omega arith), (small _ (omega arith) (omega arith), (small _ (omega arith) (omega arith), tt)))))))))
keyword_letters keywords.Default = (omega arith, (small _ (omega arith) (omega arith), (small _ (omega arith) (omega arith), (small _ (omega arith) (omega arith), (small _ (omega arith) (omega arith), (small _ (omega arith) (omega arith), (small _ (omega arith) (omega arith), (small _ (omega arith) (omega arith), tt))))))))
keyword_letters keywords.Do = (omega arith, (small _ (omega arith) (omega arith), (small _ (omega arith) (omega arith), tt)))
keyword_letters keywords.Double = (omega arith, (small _ (omega arith) (omega arith), (small _ (omega arith) (omega arith), (small _ (omega arith) (omega arith), (small _ (omega arith) (omega arith), (small _ (omega arith) (omega arith), (small _ (omega arith) (omega arith), tt)))))))
keyword_letters keywords.Else = (omega arith, (small _ (omega arith) (omega arith), (small _ (omega arith) (omega arith), (small _ (omega arith) (omega arith), (small _ (omega arith) (omega arith), tt)))))
keyword_letters keywords.Enum = (omega arith, (small _ (omega arith) (omega arith), (small _ (omega arith) (omega arith), (small _ (omega arith) (omega arith), (small _ (omega arith) (omega arith), tt)))))
keyword_letters keywords.Extern = (omega arith, (small _ (omega arith) (omega arith), (small _ (omega arith) (omega arith), (small _ (omega arith) (omega arith), (small _ (omega arith) (omega arith), (small _ (omega arith) (omega arith), (small _ (omega arith) (omega arith), tt)))))))
keyword_letters keywords.Float = (omega arith, (small _ (omega arith) (omega arith), (small _ (omega arith) (omega arith), (small _ (omega arith) (omega arith), (small _ (omega arith) (omega arith), (small _ (omega arith) (omega arith), tt))))))
keyword_letters keywords.For = (omega arith, (small _ (omega arith) (omega arith), (small _ (omega arith) (omega arith), (small _ (omega arith) (omega arith), tt))))
keyword_letters keywords.Goto = (omega arith, (small _ (omega arith) (omega arith), (small _ (omega arith) (omega arith), (small _ (omega arith) (omega arith), (small _ (omega arith) (omega arith), tt)))))
keyword_letters keywords.If = (omega arith, (small _ (omega arith) (omega arith), (small _ (omega arith) (omega arith), tt)))
keyword_letters keywords.Inline = (omega arith, (small _ (omega arith) (omega arith), (small _ (omega arith) (omega arith), (small _ (omega arith) (omega arith), (small _ (omega arith) (omega arith), (small _ (omega arith) (omega arith), (small _ (omega arith) (omega arith), tt)))))))
keyword_letters keywords.Int = (omega arith, (small _ (omega arith) (omega arith), (small _ (omega arith) (omega arith), (small _ (omega arith) (omega arith), tt))))
keyword_letters keywords.Long = (omega arith, (small _ (omega arith) (omega arith), (small _ (omega arith) (omega arith), (small _ (omega arith) (omega arith), (small _ (omega arith) (omega arith), tt)))))
keyword_letters keywords.Register = (omega arith, (small _ (omega arith) (omega arith), (small _ (omega arith) (omega arith), (small _ (omega arith) (omega arith), (small _ (omega arith) (omega arith), (small _ (omega arith) (omega arith), (small _ (omega arith) (omega arith), (small _ (omega arith) (omega arith), (small _ (omega arith) (omega arith), tt)))))))))
keyword_letters keywords.Restrict = (omega arith, (small _ (omega arith) (omega arith), (small _ (omega arith) (omega arith), (small _ (omega arith) (omega arith), (small _ (omega arith) (omega arith), (small _ (omega arith) (omega arith), (small _ (omega arith) (omega arith), (small _ (omega arith) (omega arith), (small _ (omega arith) (omega arith), tt)))))))))
keyword_letters keywords.Return = (omega arith, (small _ (omega arith) (omega arith), (small _ (omega arith) (omega arith), (small _ (omega arith) (omega arith), (small _ (omega arith) (omega arith), (small _ (omega arith) (omega arith), (small _ (omega arith) (omega arith), tt)))))))
keyword_letters keywords.Short = (omega arith, (small _ (omega arith) (omega arith), (small _ (omega arith) (omega arith), (small _ (omega arith) (omega arith), (small _ (omega arith) (omega arith), (small _ (omega arith) (omega arith), tt))))))
keyword_letters keywords.Signed = (omega arith, (small _ (omega arith) (omega arith), (small _ (omega arith) (omega arith), (small _ (omega arith) (omega arith), (small _ (omega arith) (omega arith), (small _ (omega arith) (omega arith), (small _ (omega arith) (omega arith), tt)))))))
keyword_letters keywords.Sizeof = (omega arith, (small _ (omega arith) (omega arith), (small _ (omega arith) (omega arith), (small _ (omega arith) (omega arith), (small _ (omega arith) (omega arith), (small _ (omega arith) (omega arith), (small _ (omega arith) (omega arith), tt)))))))
keyword_letters keywords.Static = (omega arith, (small _ (omega arith) (omega arith), (small _ (omega arith) (omega arith), (small _ (omega arith) (omega arith), (small _ (omega arith) (omega arith), (small _ (omega arith) (omega arith), (small _ (omega arith) (omega arith), tt)))))))
keyword_letters keywords.Struct = (omega arith, (small _ (omega arith) (omega arith), (small _ (omega arith) (omega arith), (small _ (omega arith) (omega arith), (small _ (omega arith) (omega arith), (small _ (omega arith) (omega arith), (small _ (omega arith) (omega arith), tt)))))))
keyword_letters keywords.Switch = (omega arith, (small _ (omega arith) (omega arith), (small _ (omega arith) (omega arith), (small _ (omega arith) (omega arith), (small _ (omega arith) (omega arith), (small _ (omega arith) (omega arith), (small _ (omega arith) (omega arith), tt)))))))
keyword_letters keywords.Typedef = (omega arith, (small _ (omega arith) (omega arith), (small _ (omega arith) (omega arith), (small _ (omega arith) (omega arith), (small _ (omega arith) (omega arith), (small _ (omega arith) (omega arith), (small _ (omega arith) (omega arith), (small _ (omega arith) (omega arith), tt))))))))
keyword_letters keywords.Union = (omega arith, (small _ (omega arith) (omega arith), (small _ (omega arith) (omega arith), (small _ (omega arith) (omega arith), (small _ (omega arith) (omega arith), (small _ (omega arith) (omega arith), tt))))))
keyword_letters keywords.Unsigned = (omega arith, (small _ (omega arith) (omega arith), (small _ (omega arith) (omega arith), (small _ (omega arith) (omega arith), (small _ (omega arith) (omega arith), (small _ (omega arith) (omega arith), (small _ (omega arith) (omega arith), (small _ (omega arith) (omega arith), (small _ (omega arith) (omega arith), tt)))))))))
keyword_letters keywords.Void = (omega arith, (small _ (omega arith) (omega arith), (small _ (omega arith) (omega arith), (small _ (omega arith) (omega arith), (small _ (omega arith) (omega arith), tt)))))
keyword_letters keywords.Volatile = (omega arith, (small _ (omega arith) (omega arith), (small _ (omega arith) (omega arith), (small _ (omega arith) (omega arith), (small _ (omega arith) (omega arith), (small _ (omega arith) (omega arith), (small _ (omega arith) (omega arith), (small _ (omega arith) (omega arith), (small _ (omega arith) (omega arith), tt)))))))))
keyword_letters keywords.While = (omega arith, (small _ (omega arith) (omega arith), (small _ (omega arith) (omega arith), (small _ (omega arith) (omega arith), (small _ (omega arith) (omega arith), (small _ (omega arith) (omega arith), tt))))))
keyword_letters keywords.AlignAs = (omega arith, (inr (inr refl), (large _ (omega arith) (omega arith), (small _ (omega arith) (omega arith), (small _ (omega arith) (omega arith), (small _ (omega arith) (omega arith), (small _ (omega arith) (omega arith), (small _ (omega arith) (omega arith), (small _ (omega arith) (omega arith), tt)))))))))
keyword_letters keywords.AlignOf = (omega arith, (inr (inr refl), (large _ (omega arith) (omega arith), (small _ (omega arith) (omega arith), (small _ (omega arith) (omega arith), (small _ (omega arith) (omega arith), (small _ (omega arith) (omega arith), (small _ (omega arith) (omega arith), (small _ (omega arith) (omega arith), tt)))))))))
keyword_letters keywords.Atomic = (omega arith, (inr (inr refl), (large _ (omega arith) (omega arith), (small _ (omega arith) (omega arith), (small _ (omega arith) (omega arith), (small _ (omega arith) (omega arith), (small _ (omega arith) (omega arith), (small _ (omega arith) (omega arith), tt))))))))
keyword_letters keywords.Bool = (omega arith, (inr (inr refl), (large _ (omega arith) (omega arith), (small _ (omega arith) (omega arith), (small _ (omega arith) (omega arith), (small _ (omega arith) (omega arith), tt))))))
keyword_letters keywords.Complex = (omega arith, (inr (inr refl), (large _ (omega arith) (omega arith), (small _ (omega arith) (omega arith), (small _ (omega arith) (omega arith), (small _ (omega arith) (omega arith), (small _ (omega arith) (omega arith), (small _ (omega arith) (omega arith), (small _ (omega arith) (omega arith), tt)))))))))
keyword_letters keywords.Generic = (omega arith, (inr (inr refl), (large _ (omega arith) (omega arith), (small _ (omega arith) (omega arith), (small _ (omega arith) (omega arith), (small _ (omega arith) (omega arith), (small _ (omega arith) (omega arith), (small _ (omega arith) (omega arith), (small _ (omega arith) (omega arith), tt)))))))))
keyword_letters keywords.Imaginary = (omega arith, (inr (inr refl), (large _ (omega arith) (omega arith), (small _ (omega arith) (omega arith), (small _ (omega arith) (omega arith), (small _ (omega arith) (omega arith), (small _ (omega arith) (omega arith), (small _ (omega arith) (omega arith), (small _ (omega arith) (omega arith), (small _ (omega arith) (omega arith), (small _ (omega arith) (omega arith), tt)))))))))))
keyword_letters keywords.NoReturn = (omega arith, (inr (inr refl), (large _ (omega arith) (omega arith), (small _ (omega arith) (omega arith), (small _ (omega arith) (omega arith), (small _ (omega arith) (omega arith), (small _ (omega arith) (omega arith), (small _ (omega arith) (omega arith), (small _ (omega arith) (omega arith), (small _ (omega arith) (omega arith), tt))))))))))
keyword_letters keywords.StaticAssert = (omega arith, (inr (inr refl), (large _ (omega arith) (omega arith), (small _ (omega arith) (omega arith), (small _ (omega arith) (omega arith), (small _ (omega arith) (omega arith), (small _ (omega arith) (omega arith), (small _ (omega arith) (omega arith), (inr (inr refl), (small _ (omega arith) (omega arith), (small _ (omega arith) (omega arith), (small _ (omega arith) (omega arith), (small _ (omega arith) (omega arith), (small _ (omega arith) (omega arith), (small _ (omega arith) (omega arith), tt)))))))))))))))
keyword_letters keywords.ThreadLocal = (omega arith, (inr (inr refl), (large _ (omega arith) (omega arith), (small _ (omega arith) (omega arith), (small _ (omega arith) (omega arith), (small _ (omega arith) (omega arith), (small _ (omega arith) (omega arith), (small _ (omega arith) (omega arith), (inr (inr refl), (small _ (omega arith) (omega arith), (small _ (omega arith) (omega arith), (small _ (omega arith) (omega arith), (small _ (omega arith) (omega arith), (small _ (omega arith) (omega arith), tt))))))))))))))

pub keyword_word : (k : Keyword) → IsWord (keyword_text k)
keyword_word k = let l = keyword_letters k in record { some = l.0; first = letters_each (keyword_text k) l.1 0 l.0; bytes = λ i lt. inl (letters_each (keyword_text k) l.1 i lt) }

-- a number that tells spellings apart
abbrev number_from : ℕ → List ℕ → ℕ
number_from n [] = n
number_from n (b ∷ s) = number_from (256 * n + b) s

abbrev keyword_named : ℕ → Keyword
keyword_named n = if nat_eq n 1635087471 then keywords.Auto else (
    if nat_eq n 422826041707 then keywords.Break else (
    if nat_eq n 1667330917 then keywords.Case else (
    if nat_eq n 1667785074 then keywords.Char else (
    if nat_eq n 427071271796 then keywords.Const else (
    if nat_eq n 7165066978433856869 then keywords.Continue else (
    if nat_eq n 28258988067220596 then keywords.Default else (
    if nat_eq n 25711 then keywords.Do else (
    if nat_eq n 110429873532005 then keywords.Double else (
    if nat_eq n 1701606245 then keywords.Else else (
    if nat_eq n 1701737837 then keywords.Enum else (
    if nat_eq n 111568023286382 then keywords.Extern else (
    if nat_eq n 439905902964 then keywords.Float else (
    if nat_eq n 6713202 then keywords.For else (
    if nat_eq n 1735357551 then keywords.Goto else (
    if nat_eq n 26982 then keywords.If else (
    if nat_eq n 115922986167909 then keywords.Inline else (
    if nat_eq n 6909556 then keywords.Int else (
    if nat_eq n 1819242087 then keywords.Long else (
    if nat_eq n 8243108395577795954 then keywords.Register else (
    if nat_eq n 8243121636944470900 then keywords.Restrict else (
    if nat_eq n 125780071117422 then keywords.Return else (
    if nat_eq n 495673373300 then keywords.Short else (
    if nat_eq n 126896544048484 then keywords.Signed else (
    if nat_eq n 126896862228326 then keywords.Sizeof else (
    if nat_eq n 126943688419683 then keywords.Static else (
    if nat_eq n 126943973696372 then keywords.Struct else (
    if nat_eq n 126956707537768 then keywords.Switch else (
    if nat_eq n 32784620942812518 then keywords.Typedef else (
    if nat_eq n 504363577198 then keywords.Union else (
    if nat_eq n 8461827646419789156 then keywords.Unsigned else (
    if nat_eq n 1987012964 then keywords.Void else (
    if nat_eq n 8534158984711072869 then keywords.Volatile else (
    if nat_eq n 512852847717 then keywords.While else (
    if nat_eq n 6863886507051999603 then keywords.AlignAs else (
    if nat_eq n 6863886507052003174 then keywords.AlignOf else (
    if nat_eq n 26812091128965475 then keywords.Atomic else (
    if nat_eq n 409136492396 then keywords.Bool else (
    if nat_eq n 6864452772871038328 then keywords.Complex else (
    if nat_eq n 6865567681772415331 then keywords.Generic else (
    if nat_eq n 449979309884522488754809 then keywords.Imaginary else (
    if nat_eq n 1758092548839851782766 then keywords.NoReturn else (
    if nat_eq n 1933440867912274989631954416398964 then keywords.StaticAssert else (
    keywords.ThreadLocal)))))))))))))))))))))))))))))))))))))))))))

keyword_back : (k : Keyword) → keyword_named (number_from 0 (keyword_text k)) ≡ k
keyword_back keywords.Auto = refl
keyword_back keywords.Break = refl
keyword_back keywords.Case = refl
keyword_back keywords.Char = refl
keyword_back keywords.Const = refl
keyword_back keywords.Continue = refl
keyword_back keywords.Default = refl
keyword_back keywords.Do = refl
keyword_back keywords.Double = refl
keyword_back keywords.Else = refl
keyword_back keywords.Enum = refl
keyword_back keywords.Extern = refl
keyword_back keywords.Float = refl
keyword_back keywords.For = refl
keyword_back keywords.Goto = refl
keyword_back keywords.If = refl
keyword_back keywords.Inline = refl
keyword_back keywords.Int = refl
keyword_back keywords.Long = refl
keyword_back keywords.Register = refl
keyword_back keywords.Restrict = refl
keyword_back keywords.Return = refl
keyword_back keywords.Short = refl
keyword_back keywords.Signed = refl
keyword_back keywords.Sizeof = refl
keyword_back keywords.Static = refl
keyword_back keywords.Struct = refl
keyword_back keywords.Switch = refl
keyword_back keywords.Typedef = refl
keyword_back keywords.Union = refl
keyword_back keywords.Unsigned = refl
keyword_back keywords.Void = refl
keyword_back keywords.Volatile = refl
keyword_back keywords.While = refl
keyword_back keywords.AlignAs = refl
keyword_back keywords.AlignOf = refl
keyword_back keywords.Atomic = refl
keyword_back keywords.Bool = refl
keyword_back keywords.Complex = refl
keyword_back keywords.Generic = refl
keyword_back keywords.Imaginary = refl
keyword_back keywords.NoReturn = refl
keyword_back keywords.StaticAssert = refl
keyword_back keywords.ThreadLocal = refl

abbrev punctuator_named : ℕ → Punctuator
punctuator_named n = if nat_eq n 91 then punctuators.LeftBracket else (
    if nat_eq n 93 then punctuators.RightBracket else (
    if nat_eq n 40 then punctuators.LeftParenthesis else (
    if nat_eq n 41 then punctuators.RightParenthesis else (
    if nat_eq n 123 then punctuators.LeftBrace else (
    if nat_eq n 125 then punctuators.RightBrace else (
    if nat_eq n 46 then punctuators.Dot else (
    if nat_eq n 11582 then punctuators.Arrow else (
    if nat_eq n 11051 then punctuators.Increment else (
    if nat_eq n 11565 then punctuators.Decrement else (
    if nat_eq n 38 then punctuators.Ampersand else (
    if nat_eq n 42 then punctuators.Star else (
    if nat_eq n 43 then punctuators.Plus else (
    if nat_eq n 45 then punctuators.Minus else (
    if nat_eq n 126 then punctuators.Tilde else (
    if nat_eq n 33 then punctuators.Exclamation else (
    if nat_eq n 47 then punctuators.Slash else (
    if nat_eq n 37 then punctuators.Percent else (
    if nat_eq n 15420 then punctuators.ShiftLeft else (
    if nat_eq n 15934 then punctuators.ShiftRight else (
    if nat_eq n 60 then punctuators.Less else (
    if nat_eq n 62 then punctuators.Greater else (
    if nat_eq n 15421 then punctuators.LessEqual else (
    if nat_eq n 15933 then punctuators.GreaterEqual else (
    if nat_eq n 15677 then punctuators.Equal else (
    if nat_eq n 8509 then punctuators.NotEqual else (
    if nat_eq n 94 then punctuators.Caret else (
    if nat_eq n 124 then punctuators.Bar else (
    if nat_eq n 9766 then punctuators.And else (
    if nat_eq n 31868 then punctuators.Or else (
    if nat_eq n 63 then punctuators.Question else (
    if nat_eq n 58 then punctuators.Colon else (
    if nat_eq n 59 then punctuators.Semicolon else (
    if nat_eq n 3026478 then punctuators.Ellipsis else (
    if nat_eq n 61 then punctuators.Assign else (
    if nat_eq n 10813 then punctuators.MultiplyAssign else (
    if nat_eq n 12093 then punctuators.DivideAssign else (
    if nat_eq n 9533 then punctuators.RemainderAssign else (
    if nat_eq n 11069 then punctuators.AddAssign else (
    if nat_eq n 11581 then punctuators.SubtractAssign else (
    if nat_eq n 3947581 then punctuators.ShiftLeftAssign else (
    if nat_eq n 4079165 then punctuators.ShiftRightAssign else (
    if nat_eq n 9789 then punctuators.AndAssign else (
    if nat_eq n 24125 then punctuators.XorAssign else (
    if nat_eq n 31805 then punctuators.OrAssign else (
    punctuators.Comma)))))))))))))))))))))))))))))))))))))))))))))

punctuator_back : (p : Punctuator) → punctuator_named (number_from 0 (punctuator_text p)) ≡ p
punctuator_back punctuators.LeftBracket = refl
punctuator_back punctuators.RightBracket = refl
punctuator_back punctuators.LeftParenthesis = refl
punctuator_back punctuators.RightParenthesis = refl
punctuator_back punctuators.LeftBrace = refl
punctuator_back punctuators.RightBrace = refl
punctuator_back punctuators.Dot = refl
punctuator_back punctuators.Arrow = refl
punctuator_back punctuators.Increment = refl
punctuator_back punctuators.Decrement = refl
punctuator_back punctuators.Ampersand = refl
punctuator_back punctuators.Star = refl
punctuator_back punctuators.Plus = refl
punctuator_back punctuators.Minus = refl
punctuator_back punctuators.Tilde = refl
punctuator_back punctuators.Exclamation = refl
punctuator_back punctuators.Slash = refl
punctuator_back punctuators.Percent = refl
punctuator_back punctuators.ShiftLeft = refl
punctuator_back punctuators.ShiftRight = refl
punctuator_back punctuators.Less = refl
punctuator_back punctuators.Greater = refl
punctuator_back punctuators.LessEqual = refl
punctuator_back punctuators.GreaterEqual = refl
punctuator_back punctuators.Equal = refl
punctuator_back punctuators.NotEqual = refl
punctuator_back punctuators.Caret = refl
punctuator_back punctuators.Bar = refl
punctuator_back punctuators.And = refl
punctuator_back punctuators.Or = refl
punctuator_back punctuators.Question = refl
punctuator_back punctuators.Colon = refl
punctuator_back punctuators.Semicolon = refl
punctuator_back punctuators.Ellipsis = refl
punctuator_back punctuators.Assign = refl
punctuator_back punctuators.MultiplyAssign = refl
punctuator_back punctuators.DivideAssign = refl
punctuator_back punctuators.RemainderAssign = refl
punctuator_back punctuators.AddAssign = refl
punctuator_back punctuators.SubtractAssign = refl
punctuator_back punctuators.ShiftLeftAssign = refl
punctuator_back punctuators.ShiftRightAssign = refl
punctuator_back punctuators.AndAssign = refl
punctuator_back punctuators.XorAssign = refl
punctuator_back punctuators.OrAssign = refl
punctuator_back punctuators.Comma = refl

pub same_keyword : (s : List ℕ) (k l : Keyword) → s ≡ keyword_text k → s ≡ keyword_text l → k ≡ l
same_keyword s k l h i = sym (keyword_back k) ∙ ap (λ v. keyword_named (number_from 0 v)) (sym h ∙ i) ∙ keyword_back l

pub same_punctuator : (s : List ℕ) (p q : Punctuator) → s ≡ punctuator_text p → s ≡ punctuator_text q → p ≡ q
same_punctuator s p q h i = sym (punctuator_back p) ∙ ap (λ v. punctuator_named (number_from 0 v)) (sym h ∙ i) ∙ punctuator_back q
