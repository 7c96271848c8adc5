-- Keywords by their length.
use Rattle.std.proofs.Common.{◌≡◌, ◌≢◌, ℕ, ◌<◌, List, length, sym, ap, ◌∙◌, subst, arith}
use Rattle.c_syntax_written.specs.declared.token.Keyword.{Keyword}
use Rattle.c_syntax_written.specs.declared.token.Keyword.TheVariants as keywords
use Rattle.c_lexer.specs.Spelling.{keyword_text}

pub of_length : (s : List ℕ) (n : ℕ) → length s ≡ n → ((k : Keyword) → length (keyword_text k) ≡ n → s ≢ keyword_text k) → (k : Keyword) → s ≢ keyword_text k
of_length s n l h k e = h k (sym (ap length e) ∙ l) e

pub of_more : (s : List ℕ) (n : ℕ) → n < length s → ((k : Keyword) → n < length (keyword_text k) → s ≢ keyword_text k) → (k : Keyword) → s ≢ keyword_text k
of_more s n l h k e = h k (subst (λ m. n < m) (ap length e) l) e

keyword_long : (k : Keyword) → 1 < length (keyword_text k)
keyword_long keywords.Auto = omega arith
keyword_long keywords.Break = omega arith
keyword_long keywords.Case = omega arith
keyword_long keywords.Char = omega arith
keyword_long keywords.Const = omega arith
keyword_long keywords.Continue = omega arith
keyword_long keywords.Default = omega arith
keyword_long keywords.Do = omega arith
keyword_long keywords.Double = omega arith
keyword_long keywords.Else = omega arith
keyword_long keywords.Enum = omega arith
keyword_long keywords.Extern = omega arith
keyword_long keywords.Float = omega arith
keyword_long keywords.For = omega arith
keyword_long keywords.Goto = omega arith
keyword_long keywords.If = omega arith
keyword_long keywords.Inline = omega arith
keyword_long keywords.Int = omega arith
keyword_long keywords.Long = omega arith
keyword_long keywords.Register = omega arith
keyword_long keywords.Restrict = omega arith
keyword_long keywords.Return = omega arith
keyword_long keywords.Short = omega arith
keyword_long keywords.Signed = omega arith
keyword_long keywords.Sizeof = omega arith
keyword_long keywords.Static = omega arith
keyword_long keywords.Struct = omega arith
keyword_long keywords.Switch = omega arith
keyword_long keywords.Typedef = omega arith
keyword_long keywords.Union = omega arith
keyword_long keywords.Unsigned = omega arith
keyword_long keywords.Void = omega arith
keyword_long keywords.Volatile = omega arith
keyword_long keywords.While = omega arith
keyword_long keywords.AlignAs = omega arith
keyword_long keywords.AlignOf = omega arith
keyword_long keywords.Atomic = omega arith
keyword_long keywords.Bool = omega arith
keyword_long keywords.Complex = omega arith
keyword_long keywords.Generic = omega arith
keyword_long keywords.Imaginary = omega arith
keyword_long keywords.NoReturn = omega arith
keyword_long keywords.StaticAssert = omega arith
keyword_long keywords.ThreadLocal = omega arith

pub too_short : (s : List ℕ) → length s < 2 → (k : Keyword) → s ≢ keyword_text k
too_short s l k e = omega (arith, ap length e, keyword_long k)
