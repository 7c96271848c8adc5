-- A text spells one token at most.
use Rattle.std.proofs.Common.{◌≡◌, ℕ, zero, suc, ◌+◌, ◌<◌, ◌⊎◌, inl, inr, Bool, true, false, List, [], ◌∷◌, map, Some, length, get_or, refl, sym, ap, ◌∙◌, arith, length-append}
use Rattle.std.proofs.Math.Seq.{get_or-append-add}
use Rattle.c_syntax_written.specs.declared.token.Constant.{Constant}
use Rattle.c_syntax_written.specs.declared.token.Token.{Token}
use Rattle.c_syntax_written.specs.declared.token.Token.TheVariants as kinds
use Rattle.c_lexer.specs.Spelling.{IsUnsignedLetter, IsLong, IsSuffix, IsConstant, constant_suffix, IsLiteral, IsOneCharacter, char_value}
use Rattle.c_lexer.specs.Cut.{IsToken}
use Rattle.c_lexer.proofs.Punctuators.{same_keyword, same_punctuator}
use Rattle.c_lexer.proofs.Forms.{keyword_is_word, word_number, word_literal, word_punctuator, number_literal, number_punctuator, punctuator_literal, two_literals}
use Rattle.c_lexer.proofs.LiteralLemmas.{same_reads}
use Rattle.c_lexer.proofs.Refusals.{literal_body, one_value}

pub long_length : (s : List ℕ) (n : ℕ) → IsLong s n → n ≡ length s
long_length s n (inl h) = omega (arith, h.1, ap length h.0)
long_length s n (inr (inl (inl e, h))) = omega (arith, h, ap length e)
long_length s n (inr (inl (inr e, h))) = omega (arith, h, ap length e)
long_length s n (inr (inr (inl e, h))) = omega (arith, h, ap length e)
long_length s n (inr (inr (inr e, h))) = omega (arith, h, ap length e)

-- a letter of such a suffix is no u
pub long_byte : (s : List ℕ) (n k : ℕ) → IsLong s n → k < length s → (get_or s k 0 ≡ 108) ⊎ (get_or s k 0 ≡ 76)
long_byte s n k (inl h) l = absurd (omega (arith, ap length h.0))
long_byte s n zero (inr (inl (inl e, h))) l = inl (ap (λ v. get_or v 0 0) e)
long_byte s n (suc k) (inr (inl (inl e, h))) l = absurd (omega (arith, ap length e))
long_byte s n zero (inr (inl (inr e, h))) l = inr (ap (λ v. get_or v 0 0) e)
long_byte s n (suc k) (inr (inl (inr e, h))) l = absurd (omega (arith, ap length e))
long_byte s n zero (inr (inr (inl e, h))) l = inl (ap (λ v. get_or v 0 0) e)
long_byte s n (suc zero) (inr (inr (inl e, h))) l = inl (ap (λ v. get_or v 1 0) e)
long_byte s n (suc (suc k)) (inr (inr (inl e, h))) l = absurd (omega (arith, ap length e))
long_byte s n zero (inr (inr (inr e, h))) l = inr (ap (λ v. get_or v 0 0) e)
long_byte s n (suc zero) (inr (inr (inr e, h))) l = inr (ap (λ v. get_or v 1 0) e)
long_byte s n (suc (suc k)) (inr (inr (inr e, h))) l = absurd (omega (arith, ap length e))

pub no_letter : (b u : ℕ) → IsUnsignedLetter u → b ≡ u → (b ≡ 108) ⊎ (b ≡ 76) → ⊥
no_letter b u h e i = grind arith

pub long_unsigned : (s : List ℕ) (n m : ℕ) → IsLong s n → IsSuffix s true m → ⊥
long_unsigned s n m h i = elim i.4 [
  | inl e ↦ no_letter (get_or s 0 0) i.0 i.2 (ap (λ v. get_or v 0 0) e) (long_byte s n 0 h (omega (arith, ap length e)))
  | inr e ↦
      (let at : get_or s (length i.1 + 0) 0 ≡ i.0 = ap (λ v. get_or v (length i.1 + 0) 0) e ∙ get_or-append-add i.1 (i.0 ∷ []) 0 0 in
      no_letter (get_or s (length i.1 + 0) 0) i.0 i.2 at (long_byte s n (length i.1 + 0) h (omega (arith, ap length e, length-append i.1 (i.0 ∷ [])))))
]

pub unsigned_length : (s : List ℕ) (n : ℕ) → IsSuffix s true n → n + 1 ≡ length s
unsigned_length s n i = elim i.4 [
  | inl e ↦ omega (arith, ap length e, long_length i.1 n i.3)
  | inr e ↦ omega (arith, ap length e, length-append i.1 (i.0 ∷ []), long_length i.1 n i.3)
]

pub same_suffix : (s : List ℕ) (u v : Bool) (n m : ℕ) → IsSuffix s u n → IsSuffix s v m → (u ≡ v) × (n ≡ m)
same_suffix s false false n m h i = (refl, long_length s n h ∙ sym (long_length s m i))
same_suffix s false true n m h i = absurd (long_unsigned s n m h i)
same_suffix s true false n m h i = absurd (long_unsigned s m n i h)
same_suffix s true true n m h i = (refl, omega (arith, unsigned_length s n h, unsigned_length s m i))

same_constant : (s : List ℕ) (c d : Constant) → IsConstant s c → IsConstant s d → c ≡ d
same_constant s c d h i =
    let e = same_suffix (constant_suffix s) c.unsigned d.unsigned c.longs d.longs h.ends i.ends in
    let v : c.value ≡ d.value = h.is ∙ sym i.is in
    let f : c.decimal ≡ d.decimal = h.decimal ∙ sym i.decimal in
    ap (λ z. record { value = z; decimal = c.decimal; unsigned = c.unsigned; longs = c.longs }) v
    ∙ ap (λ z. record { value = d.value; decimal = z; unsigned = c.unsigned; longs = c.longs }) f
    ∙ ap (λ z. record { value = d.value; decimal = d.decimal; unsigned = z; longs = c.longs }) e.0
    ∙ ap (λ z. record { value = d.value; decimal = d.decimal; unsigned = d.unsigned; longs = z }) e.1

some_back : (vs ws : List ℕ) → map Some vs ≡ map Some ws → vs ≡ ws
some_back [] [] e = refl
some_back [] (w ∷ ws) e = absurd (cc)
some_back (v ∷ vs) [] e = absurd (cc)
some_back (v ∷ vs) (w ∷ ws) e =
    let f : v ≡ w = (let g : Some v ≡ Some w = cc in cc) in
    let h : vs ≡ ws = some_back vs ws (cc) in
    cc

same_string : (s vs ws : List ℕ) → IsLiteral 34 (map Some vs) s → IsLiteral 34 (map Some ws) s → vs ≡ ws
same_string s vs ws l m = some_back vs ws (same_reads (λ e. absurd (omega arith)) (literal_body s 34 (map Some vs) [] l m.0 m.1) (inl refl) m.2 (inl refl)).0

same_character : (s : List ℕ) (v w : ℕ) → IsOneCharacter (Some v) s → IsOneCharacter (Some w) s → v ≡ w
same_character s v w h i = let e : Some v ≡ Some w = one_value s (Some v) (Some w) h i in cc

-- a text spells one token at most
pub same_token : (s : List ℕ) (t u : Token) → IsToken s t → IsToken s u → t ≡ u
same_token s (kinds.Word a) (kinds.Word b) h i = ap kinds.Word (sym h.1 ∙ i.1)
same_token s (kinds.Word a) (kinds.Keyword b) h i = absurd (h.2 b i)
same_token s (kinds.Word a) (kinds.Number b) h i = absurd (word_number s h.0 i.0)
same_token s (kinds.Word a) (kinds.Character b) h i = absurd (word_literal 39 (Some i.0 ∷ []) s (inl refl) h.0 i.1.literal)
same_token s (kinds.Word a) (kinds.Text b) h i = absurd (word_literal 34 (map Some b) s (inr refl) h.0 i)
same_token s (kinds.Word a) (kinds.Punctuator b) h i = absurd (word_punctuator s b h.0 i)
same_token s (kinds.Keyword a) (kinds.Word b) h i = absurd (i.2 a h)
same_token s (kinds.Keyword a) (kinds.Keyword b) h i = ap kinds.Keyword (same_keyword s a b h i)
same_token s (kinds.Keyword a) (kinds.Number b) h i = absurd (word_number s (keyword_is_word s a h) i.0)
same_token s (kinds.Keyword a) (kinds.Character b) h i = absurd (word_literal 39 (Some i.0 ∷ []) s (inl refl) (keyword_is_word s a h) i.1.literal)
same_token s (kinds.Keyword a) (kinds.Text b) h i = absurd (word_literal 34 (map Some b) s (inr refl) (keyword_is_word s a h) i)
same_token s (kinds.Keyword a) (kinds.Punctuator b) h i = absurd (word_punctuator s b (keyword_is_word s a h) i)
same_token s (kinds.Number a) (kinds.Word b) h i = absurd (word_number s i.0 h.0)
same_token s (kinds.Number a) (kinds.Keyword b) h i = absurd (word_number s (keyword_is_word s b i) h.0)
same_token s (kinds.Number a) (kinds.Number b) h i = ap kinds.Number (same_constant s a b h.1 i.1)
same_token s (kinds.Number a) (kinds.Character b) h i = absurd (number_literal 39 (Some i.0 ∷ []) s (inl refl) h.0 i.1.literal)
same_token s (kinds.Number a) (kinds.Text b) h i = absurd (number_literal 34 (map Some b) s (inr refl) h.0 i)
same_token s (kinds.Number a) (kinds.Punctuator b) h i = absurd (number_punctuator s b h.0 i)
same_token s (kinds.Character a) (kinds.Word b) h i = absurd (word_literal 39 (Some h.0 ∷ []) s (inl refl) i.0 h.1.literal)
same_token s (kinds.Character a) (kinds.Keyword b) h i = absurd (word_literal 39 (Some h.0 ∷ []) s (inl refl) (keyword_is_word s b i) h.1.literal)
same_token s (kinds.Character a) (kinds.Number b) h i = absurd (number_literal 39 (Some h.0 ∷ []) s (inl refl) i.0 h.1.literal)
same_token s (kinds.Character a) (kinds.Character b) h i = ap kinds.Character (h.2 ∙ ap char_value (same_character s h.0 i.0 h.1 i.1) ∙ sym i.2)
same_token s (kinds.Character a) (kinds.Text b) h i = absurd (two_literals (Some h.0 ∷ []) (map Some b) s h.1.literal i)
same_token s (kinds.Character a) (kinds.Punctuator b) h i = absurd (punctuator_literal 39 (Some h.0 ∷ []) s b (inl refl) i h.1.literal)
same_token s (kinds.Text a) (kinds.Word b) h i = absurd (word_literal 34 (map Some a) s (inr refl) i.0 h)
same_token s (kinds.Text a) (kinds.Keyword b) h i = absurd (word_literal 34 (map Some a) s (inr refl) (keyword_is_word s b i) h)
same_token s (kinds.Text a) (kinds.Number b) h i = absurd (number_literal 34 (map Some a) s (inr refl) i.0 h)
same_token s (kinds.Text a) (kinds.Character b) h i = absurd (two_literals (Some i.0 ∷ []) (map Some a) s i.1.literal h)
same_token s (kinds.Text a) (kinds.Text b) h i = ap kinds.Text (same_string s a b h i)
same_token s (kinds.Text a) (kinds.Punctuator b) h i = absurd (punctuator_literal 34 (map Some a) s b (inr refl) i h)
same_token s (kinds.Punctuator a) (kinds.Word b) h i = absurd (word_punctuator s a i.0 h)
same_token s (kinds.Punctuator a) (kinds.Keyword b) h i = absurd (word_punctuator s a (keyword_is_word s b i) h)
same_token s (kinds.Punctuator a) (kinds.Number b) h i = absurd (number_punctuator s a i.0 h)
same_token s (kinds.Punctuator a) (kinds.Character b) h i = absurd (punctuator_literal 39 (Some i.0 ∷ []) s a (inl refl) h i.1.literal)
same_token s (kinds.Punctuator a) (kinds.Text b) h i = absurd (punctuator_literal 34 (map Some b) s a (inr refl) h i)
same_token s (kinds.Punctuator a) (kinds.Punctuator b) h i = ap kinds.Punctuator (same_punctuator s a b h i)
