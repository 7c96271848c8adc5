-- The first bytes of tokens and white space, and which of them stand at the front of a text.
use Rattle.std.proofs.Common.{◌≡◌, ℕ, ◌<◌, ◌≤◌, ◌⊎◌, inl, inr, List, [], ◌∷◌, ◌++◌, map, Option, Some, length, get_or, refl, sym, ap, ◌∙◌, subst, arith, length-append}
use Rattle.std.proofs.Math.ListN.{get_or-append}
use Rattle.c_syntax_written.specs.declared.token.Keyword.{Keyword}
use Rattle.c_syntax_written.specs.declared.token.Punctuator.{Punctuator}
use Rattle.c_syntax_written.specs.declared.token.Constant.{Constant}
use Rattle.c_syntax_written.specs.declared.token.Token.{Token}
use Rattle.c_syntax_written.specs.declared.token.Token.TheVariants as kinds
use Rattle.c_lexer.specs.Spelling.{keyword_text, punctuator_text, IsConstant, IsLiteral, IsOneCharacter}
use Rattle.c_lexer.specs.Cut.{IsLetter, IsDigit, IsBlank, IsWord, IsNumber, IsToken, HasForm}
use Rattle.c_lexer.proofs.Punctuators.{IsPunctuatorByte, punctuator_first, punctuator_long, punctuator_dot, keyword_word}

-- a byte of the front is a byte of the text
pub at_front : (text s r : List ℕ) → text ≡ s ++ r → (k : ℕ) → k < length s → get_or text k 0 ≡ get_or s k 0
at_front text s r e k h = ap (λ v. get_or v k 0) e ∙ get_or-append s r 0 k h

pub same_split : (s u r v : List ℕ) → s ++ r ≡ u ++ v → length s ≡ length u → s ≡ u
same_split [] [] r v e h = refl
same_split [] (y ∷ u) r v e h = absurd (omega arith)
same_split (x ∷ s) [] r v e h = absurd (omega arith)
same_split (x ∷ s) (y ∷ u) r v e h =
    let f : x ≡ y = cc in
    let g : s ++ r ≡ u ++ v = cc in
    let i : s ≡ u = same_split s u r v g (omega arith) in
    cc

pub front_long : (text s r : List ℕ) → text ≡ s ++ r → length s ≤ length text
front_long text s r e = omega (arith, length-append s r, ap length e)

-- bytes of words, numbers, literals, punctuators and white space are apart
pub letter_digit : (b : ℕ) → IsLetter b → IsDigit b → ⊥
letter_digit b h i = grind arith

pub letter_dot : (b : ℕ) → IsLetter b → b ≡ 46 → ⊥
letter_dot b h i = grind arith

pub letter_punctuator : (b : ℕ) → IsLetter b → IsPunctuatorByte b → ⊥
letter_punctuator b h i = grind arith

pub digit_punctuator : (b : ℕ) → IsDigit b → IsPunctuatorByte b → ⊥
digit_punctuator b h i = grind arith

-- bytes that begin no word, no number and no punctuator
abbrev pub IsApart : ℕ → Type 0
IsApart b = (b ≡ 34) ⊎ ((b ≡ 35) ⊎ ((b ≡ 39) ⊎ ((b ≡ 92) ⊎ IsBlank b)))

pub letter_apart : (b : ℕ) → IsLetter b → IsApart b → ⊥
letter_apart b h i = grind arith

pub digit_apart : (b : ℕ) → IsDigit b → IsApart b → ⊥
digit_apart b h i = grind arith

pub punctuator_apart : (b : ℕ) → IsPunctuatorByte b → IsApart b → ⊥
punctuator_apart b h i = grind arith

pub dot_apart : (b : ℕ) → b ≡ 46 → IsApart b → ⊥
dot_apart b h i = grind arith

pub number_long : (s : List ℕ) → IsNumber s → 0 < length s
number_long s n = elim n.begins [ inl d ↦ d.0 | inr d ↦ omega (arith, d.0) ]

pub literal_long : (q : ℕ) (vs : List (Option ℕ)) (s : List ℕ) → IsLiteral q vs s → 0 < length s
literal_long q vs s l = omega (arith, ap length l.1)

pub literal_first : (q : ℕ) (vs : List (Option ℕ)) (s : List ℕ) → IsLiteral q vs s → get_or s 0 0 ≡ q
literal_first q vs s l = ap (λ v. get_or v 0 0) l.1

pub form_long : (s : List ℕ) → HasForm s → 0 < length s
form_long s (inl w) = w.some
form_long s (inr (inl n)) = number_long s n
form_long s (inr (inr (inl l))) = literal_long 39 l.0 s l.1
form_long s (inr (inr (inr (inl l)))) = literal_long 34 l.0 s l.1
form_long s (inr (inr (inr (inr p)))) = omega (arith, ap length p.1, (punctuator_long p.0).0)

pub punctuator_byte : (s : List ℕ) (p : Punctuator) → s ≡ punctuator_text p → IsPunctuatorByte (get_or s 0 0)
punctuator_byte s p e = subst (λ v. IsPunctuatorByte (get_or v 0 0)) (sym e) (punctuator_first p)

pub number_apart : (s : List ℕ) → IsNumber s → IsApart (get_or s 0 0) → ⊥
number_apart s n a = elim n.begins [ inl d ↦ digit_apart (get_or s 0 0) d.1 a | inr d ↦ dot_apart (get_or s 0 0) d.1 a ]

pub number_punctuator : (s : List ℕ) (p : Punctuator) → IsNumber s → s ≡ punctuator_text p → ⊥
number_punctuator s p n e =
    elim n.begins [
      | inl d ↦ digit_punctuator (get_or s 0 0) d.1 (punctuator_byte s p e)
      | inr d ↦ elim (punctuator_dot p (sym (ap (λ v. get_or v 0 0) e) ∙ d.1)) [
        | inl one ↦ omega (arith, ap length e, d.0)
        | inr two ↦ (let f : get_or s 1 0 ≡ 46 = ap (λ v. get_or v 1 0) e ∙ two.1 in omega (arith, d.2.0, d.2.1))
      ]
    ]

pub word_number : (s : List ℕ) → IsWord s → IsNumber s → ⊥
word_number s w n = elim n.begins [ inl d ↦ letter_digit (get_or s 0 0) w.first d.1 | inr d ↦ letter_dot (get_or s 0 0) w.first d.1 ]

-- what begins with a quote is a literal
pub character_form : (s : List ℕ) → HasForm s → get_or s 0 0 ≡ 39 → (vs : List (Option ℕ)) × IsLiteral 39 vs s
character_form s (inl w) e = absurd (letter_apart (get_or s 0 0) w.first (inr (inr (inl e))))
character_form s (inr (inl n)) e = absurd (number_apart s n (inr (inr (inl e))))
character_form s (inr (inr (inl l))) e = l
character_form s (inr (inr (inr (inl l)))) e = absurd (omega (arith, literal_first 34 l.0 s l.1))
character_form s (inr (inr (inr (inr p)))) e = absurd (punctuator_apart (get_or s 0 0) (punctuator_byte s p.0 p.1) (inr (inr (inl e))))

pub string_form : (s : List ℕ) → HasForm s → get_or s 0 0 ≡ 34 → (vs : List (Option ℕ)) × IsLiteral 34 vs s
string_form s (inl w) e = absurd (letter_apart (get_or s 0 0) w.first (inl e))
string_form s (inr (inl n)) e = absurd (number_apart s n (inl e))
string_form s (inr (inr (inl l))) e = absurd (omega (arith, literal_first 39 l.0 s l.1))
string_form s (inr (inr (inr (inl l)))) e = l
string_form s (inr (inr (inr (inr p)))) e = absurd (punctuator_apart (get_or s 0 0) (punctuator_byte s p.0 p.1) (inl e))

-- a byte that begins no form of a token
abbrev pub IsNoForm : ℕ → Type 0
IsNoForm b = (b ≡ 35) ⊎ ((b ≡ 92) ⊎ IsBlank b)

no_form_apart : (b : ℕ) → IsNoForm b → IsApart b
no_form_apart b (inl e) = inr (inl e)
no_form_apart b (inr (inl e)) = inr (inr (inr (inl e)))
no_form_apart b (inr (inr e)) = inr (inr (inr (inr e)))

no_form_quote : (b : ℕ) → IsNoForm b → (b ≡ 39) ⊎ (b ≡ 34) → ⊥
no_form_quote b h i = grind arith

pub no_form_begins : (s : List ℕ) → HasForm s → IsNoForm (get_or s 0 0) → ⊥
no_form_begins s (inl w) h = letter_apart (get_or s 0 0) w.first (no_form_apart (get_or s 0 0) h)
no_form_begins s (inr (inl n)) h = number_apart s n (no_form_apart (get_or s 0 0) h)
no_form_begins s (inr (inr (inl l))) h = no_form_quote (get_or s 0 0) h (inl (literal_first 39 l.0 s l.1))
no_form_begins s (inr (inr (inr (inl l)))) h = no_form_quote (get_or s 0 0) h (inr (literal_first 34 l.0 s l.1))
no_form_begins s (inr (inr (inr (inr p)))) h = punctuator_apart (get_or s 0 0) (punctuator_byte s p.0 p.1) (no_form_apart (get_or s 0 0) h)

-- the forms of tokens
pub token_form : (s : List ℕ) (t : Token) → IsToken s t → HasForm s
token_form s (kinds.Word name) h = inl h.0
token_form s (kinds.Keyword k) h = inl (subst IsWord (sym h) (keyword_word k))
token_form s (kinds.Number c) h = inr (inl h.0)
token_form s (kinds.Character n) h = inr (inr (inl (Some h.0 ∷ [], h.1.literal)))
token_form s (kinds.Text vs) h = inr (inr (inr (inl (map Some vs, h))))
token_form s (kinds.Punctuator p) h = inr (inr (inr (inr (p, h))))

-- what a token with the form of a number, of a character constant or of a string is
pub word_literal : (q : ℕ) (vs : List (Option ℕ)) (s : List ℕ) → (q ≡ 39) ⊎ (q ≡ 34) → IsWord s → IsLiteral q vs s → ⊥
word_literal q vs s (inl e) w l = letter_apart (get_or s 0 0) w.first (inr (inr (inl (literal_first q vs s l ∙ e))))
word_literal q vs s (inr e) w l = letter_apart (get_or s 0 0) w.first (inl (literal_first q vs s l ∙ e))

pub number_literal : (q : ℕ) (vs : List (Option ℕ)) (s : List ℕ) → (q ≡ 39) ⊎ (q ≡ 34) → IsNumber s → IsLiteral q vs s → ⊥
number_literal q vs s (inl e) n l = number_apart s n (inr (inr (inl (literal_first q vs s l ∙ e))))
number_literal q vs s (inr e) n l = number_apart s n (inl (literal_first q vs s l ∙ e))

pub punctuator_literal : (q : ℕ) (vs : List (Option ℕ)) (s : List ℕ) (p : Punctuator) → (q ≡ 39) ⊎ (q ≡ 34) → s ≡ punctuator_text p → IsLiteral q vs s → ⊥
punctuator_literal q vs s p (inl e) m l = punctuator_apart (get_or s 0 0) (punctuator_byte s p m) (inr (inr (inl (literal_first q vs s l ∙ e))))
punctuator_literal q vs s p (inr e) m l = punctuator_apart (get_or s 0 0) (punctuator_byte s p m) (inl (literal_first q vs s l ∙ e))

pub two_literals : (vs ws : List (Option ℕ)) (s : List ℕ) → IsLiteral 39 vs s → IsLiteral 34 ws s → ⊥
two_literals vs ws s l m = omega (arith, literal_first 39 vs s l, literal_first 34 ws s m)

pub word_punctuator : (s : List ℕ) (p : Punctuator) → IsWord s → s ≡ punctuator_text p → ⊥
word_punctuator s p w e = letter_punctuator (get_or s 0 0) w.first (punctuator_byte s p e)

pub keyword_is_word : (s : List ℕ) (k : Keyword) → s ≡ keyword_text k → IsWord s
keyword_is_word s k e = subst IsWord (sym e) (keyword_word k)

pub token_number : (s : List ℕ) (t : Token) → IsNumber s → IsToken s t → (c : Constant) × IsConstant s c × (t ≡ kinds.Number c)
token_number s (kinds.Word name) n h = absurd (word_number s h.0 n)
token_number s (kinds.Keyword k) n h = absurd (word_number s (keyword_is_word s k h) n)
token_number s (kinds.Number c) n h = (c, h.1, refl)
token_number s (kinds.Character m) n h = absurd (number_literal 39 (Some h.0 ∷ []) s (inl refl) n h.1.literal)
token_number s (kinds.Text vs) n h = absurd (number_literal 34 (map Some vs) s (inr refl) n h)
token_number s (kinds.Punctuator p) n h = absurd (number_punctuator s p n h)

pub token_character : (s : List ℕ) (t : Token) (vs : List (Option ℕ)) → IsLiteral 39 vs s → IsToken s t → (v : ℕ) × IsOneCharacter (Some v) s
token_character s (kinds.Word name) vs n h = absurd (word_literal 39 vs s (inl refl) h.0 n)
token_character s (kinds.Keyword k) vs n h = absurd (word_literal 39 vs s (inl refl) (keyword_is_word s k h) n)
token_character s (kinds.Number c) vs n h = absurd (number_literal 39 vs s (inl refl) h.0 n)
token_character s (kinds.Character m) vs n h = (h.0, h.1)
token_character s (kinds.Text ws) vs n h = absurd (two_literals vs (map Some ws) s n h)
token_character s (kinds.Punctuator p) vs n h = absurd (punctuator_literal 39 vs s p (inl refl) h n)

pub token_string : (s : List ℕ) (t : Token) (vs : List (Option ℕ)) → IsLiteral 34 vs s → IsToken s t → (ws : List ℕ) × IsLiteral 34 (map Some ws) s
token_string s (kinds.Word name) vs n h = absurd (word_literal 34 vs s (inr refl) h.0 n)
token_string s (kinds.Keyword k) vs n h = absurd (word_literal 34 vs s (inr refl) (keyword_is_word s k h) n)
token_string s (kinds.Number c) vs n h = absurd (number_literal 34 vs s (inr refl) h.0 n)
token_string s (kinds.Character m) vs n h = absurd (two_literals (Some h.0 ∷ []) vs s h.1.literal n)
token_string s (kinds.Text ws) vs n h = (ws, h)
token_string s (kinds.Punctuator p) vs n h = absurd (punctuator_literal 34 vs s p (inr refl) h n)
