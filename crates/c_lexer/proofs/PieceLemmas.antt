-- What stands at the front of a text.
use Rattle.std.proofs.Common.{◌≡◌, ◌≢◌, ℕ, ℤ, append_assoc, ◌+◌, ◌-◌, ◌<◌, ◌≤◌, ◌⊎◌, inl, inr, List, [], ◌∷◌, ◌++◌, map, Option, Some, None, length, get_or, take, drop, refl, sym, ap, ◌∙◌, subst, arith, length-append, length-drop}
use Rattle.std.proofs.Math.Seq.{take-append_seam}
use Rattle.std.proofs.lemmas.List.{take-append-drop, length-take-le, get_or-take, get_or-drop}
use Rattle.std.proofs.lemmas.Bool.{cases_lt}
use Rattle.c_syntax_written.specs.declared.token.Constant.{Constant}
use Rattle.c_syntax_written.specs.declared.token.Punctuator.{Punctuator}
use Rattle.c_syntax_written.specs.declared.token.Token.{Token}
use Rattle.c_syntax_written.specs.declared.token.Token.TheVariants as kinds
use Rattle.c_lexer.specs.declared.reason.Reason.TheVariants as reasons
use Rattle.c_lexer.specs.declared.piece.Piece.TheVariants as pieces
use Rattle.c_lexer.specs.Spelling.{punctuator_text, IsInteger, IsConstant, Reads, IsLiteral, IsOneCharacter, char_value}
use Rattle.c_lexer.specs.Cut.{IsLetter, IsDigit, IsWordByte, IsBlank, GoesOn, IsWord, IsNumber, BeginsNumber, IsToken, HasForm, IsComment, IsLine, IsSplicedAt, IsWhite, blank, splice, long_splice, comment, line, BeginsComment, IsLongest, IsPrefix}
use Rattle.c_lexer.specs.Uncut.{OpensLine, IsOpenLiteral, BeginsNothing, IsBadEscape}
use Rattle.c_lexer.specs.Piece.{IsWordRun, IsNumberRun, IsLongestPunctuator, IsClosedAt, IsOther, IsPiece}
use Rattle.c_lexer.proofs.Punctuators.{IsPunctuatorByte, punctuator_dot}
use Rattle.c_lexer.proofs.Forms.{at_front, front_long, letter_digit, letter_dot, letter_punctuator, digit_punctuator, letter_apart, punctuator_byte, number_long, literal_first, form_long, token_form, character_form, string_form, no_form_begins}
use Rattle.c_lexer.proofs.LiteralLemmas.{same_reads, swap_end}
use Rattle.c_lexer.proofs.Whites.{comment_begins, line_begins}

whole : (text : List ℕ) (n : ℕ) → take n text ++ drop n text ≡ text
whole text n = take-append-drop n text

-- a longest front
longest_front : (text : List ℕ) (n : ℕ) → n ≤ length text → HasForm (take n text) → ((a b : List ℕ) → text ≡ a ++ b → HasForm a → length a ≤ n) → (BeginsComment text → ⊥) → IsLongest (take n text) (drop n text)
longest_front text n l f longest none = record {
  form = f;
  longest = λ a b e form. omega (arith, length-take-le n text l, longest a b (sym (whole text n) ∙ e) form);
  no_comment = λ k. none (subst BeginsComment (whole text n) k);
}

token_piece : (text : List ℕ) (n : ℕ) (t : Token) → n ≤ length text → IsToken (take n text) t → ((a b : List ℕ) → text ≡ a ++ b → HasForm a → length a ≤ n) → (BeginsComment text → ⊥) → (IsPrefix (take n text) (drop n text) → ⊥) → IsPiece text (pieces.Token t n)
token_piece text n t l spells longest none prefix =
    let f : HasForm (take n text) = token_form (take n text) t spells in (
      omega (arith, form_long (take n text) f, length-take-le n text l),
      l,
      record { spells = spells; is_longest = longest_front text n l f longest none; no_prefix = prefix },
    )

no_slash : (text : List ℕ) → (get_or text 0 0 ≡ 47 → ⊥) → BeginsComment text → ⊥
no_slash text n c = n c.slash

letter_slash : (b : ℕ) → IsLetter b → b ≡ 47 → ⊥
letter_slash b h e = grind arith

digit_slash : (b : ℕ) → IsDigit b → b ≡ 47 → ⊥
digit_slash b h e = grind arith

-- words
run_longest : (text : List ℕ) (n : ℕ) → IsWordRun text n → (a b : List ℕ) → text ≡ a ++ b → ((k : ℕ) → k < length a → IsWordByte (get_or a k 0)) → length a ≤ n
run_longest text n r a b e h =
    elim (cases_lt n (length a)) [ inl lt ↦ absurd (r.no_more (omega (arith, front_long text a b e)) (subst IsWordByte (sym (at_front text a b e n lt)) (h n lt))) | inr ge ↦ ge ]

word_longest : (text : List ℕ) (n : ℕ) → IsLetter (get_or text 0 0) → IsWordRun text n → (a b : List ℕ) → text ≡ a ++ b → HasForm a → length a ≤ n
word_longest text n w r a b e (inl h) = run_longest text n r a b e h.bytes
word_longest text n w r a b e (inr (inl h)) =
    let l : IsLetter (get_or a 0 0) = subst IsLetter (at_front text a b e 0 (number_long a h)) w in
    absurd (elim h.begins [ inl d ↦ letter_digit (get_or a 0 0) l d.1 | inr d ↦ letter_dot (get_or a 0 0) l d.1 ])
word_longest text n w r a b e (inr (inr (inl h))) = absurd (letter_apart (get_or text 0 0) w (inr (inr (inl (at_front text a b e 0 (form_long a (inr (inr (inl h)))) ∙ literal_first 39 h.0 a h.1)))))
word_longest text n w r a b e (inr (inr (inr (inl h)))) = absurd (letter_apart (get_or text 0 0) w (inl (at_front text a b e 0 (form_long a (inr (inr (inr (inl h))))) ∙ literal_first 34 h.0 a h.1)))
word_longest text n w r a b e (inr (inr (inr (inr p)))) = absurd (letter_punctuator (get_or text 0 0) w (subst IsPunctuatorByte (sym (at_front text a b e 0 (form_long a (inr (inr (inr (inr p))))))) (punctuator_byte a p.0 p.1)))

run_some : (text : List ℕ) (n : ℕ) → 0 < length text → IsWordByte (get_or text 0 0) → IsWordRun text n → 0 < n
run_some text n l w r = elim (cases_lt 0 n) [ inl lt ↦ lt | inr ge ↦ (let z : n ≡ 0 = omega arith in absurd (r.no_more (omega arith) (subst (λ k. IsWordByte (get_or text k 0)) (sym z) w))) ]

pub run_word : (text : List ℕ) (n : ℕ) → 0 < length text → IsLetter (get_or text 0 0) → IsWordRun text n → IsWord (take n text)
run_word text n l d r =
    let s : 0 < n = run_some text n l (inl d) r in
    let m : length (take n text) ≡ n = length-take-le n text r.within in
    record {
      some = omega arith;
      first = subst IsLetter (sym (get_or-take n text 0 0 s)) d;
      bytes = λ k lt. let h : k < n = omega arith in subst IsWordByte (sym (get_or-take n text k 0 h)) (r.all k h);
    }

pub word_piece : (text : List ℕ) (n : ℕ) (t : Token) → 0 < length text → IsLetter (get_or text 0 0) → IsWordRun text n → IsToken (take n text) t → (IsPrefix (take n text) (drop n text) → ⊥) → IsPiece text (pieces.Token t n)
word_piece text n t l d r h p = token_piece text n t r.within h (word_longest text n d r) (no_slash text (letter_slash (get_or text 0 0) d)) p

pub prefix_piece : (text : List ℕ) (n : ℕ) → 0 < length text → IsLetter (get_or text 0 0) → IsWordRun text n → IsPrefix (take n text) (drop n text) → IsPiece text (pieces.Refused reasons.BadEscape 0)
prefix_piece text n l d r p = (
  omega arith,
  λ before. (take n text, drop n text, sym (whole text n), longest_front text n r.within (inl (run_word text n l d r)) (word_longest text n d r) (no_slash text (letter_slash (get_or text 0 0) d)), inl (p, refl)),
)

-- numbers
number_some : (text : List ℕ) → BeginsNumber text → 0 < length text
number_some text b = elim b [ inl d ↦ d.0 | inr d ↦ omega (arith, d.0) ]

number_no_slash : (text : List ℕ) → BeginsNumber text → BeginsComment text → ⊥
number_no_slash text b c = elim b [ inl d ↦ digit_slash (get_or text 0 0) d.1 c.slash | inr d ↦ omega (arith, d.1, c.slash) ]

number_run : (text : List ℕ) (n : ℕ) → IsNumberRun text n → (a b : List ℕ) → text ≡ a ++ b → IsNumber a → length a ≤ n
number_run text n r a b e h =
    elim (cases_lt n (length a)) [
      | inl lt ↦
          (let k : ℕ = n - 1 in
          let f : n ≡ k + 1 = omega (arith, r.some) in
          let g : GoesOn (get_or a k 0) (get_or a (k + 1) 0) = h.bytes k (omega arith) in
          let i : GoesOn (get_or text k 0) (get_or text (k + 1) 0) = subst (λ v. GoesOn v (get_or text (k + 1) 0)) (sym (at_front text a b e k (omega arith))) (subst (λ v. GoesOn (get_or a k 0) v) (sym (at_front text a b e (k + 1) (omega arith))) g) in
          absurd (r.no_more k f (omega (arith, front_long text a b e)) (subst (λ z. GoesOn (get_or text k 0) (get_or text z 0)) (sym f) i)))
      | inr ge ↦ ge
    ]

punctuator_number : (text a b : List ℕ) (p : Punctuator) (n : ℕ) → text ≡ a ++ b → a ≡ punctuator_text p → BeginsNumber text → 1 ≤ n → length a ≤ n
punctuator_number text a b p n e f (inl d) l = absurd (digit_punctuator (get_or text 0 0) d.1 (subst IsPunctuatorByte (sym (at_front text a b e 0 (form_long a (inr (inr (inr (inr (p, f)))))))) (punctuator_byte a p f)))
punctuator_number text a b p n e f (inr d) l =
    elim (punctuator_dot p (sym (ap (λ v. get_or v 0 0) f) ∙ sym (at_front text a b e 0 (form_long a (inr (inr (inr (inr (p, f))))))) ∙ d.1)) [
      | inl one ↦ omega (arith, one, ap length f)
      | inr two ↦
          (let g : get_or text 1 0 ≡ 46 = at_front text a b e 1 (omega (arith, two.0, ap length f)) ∙ ap (λ v. get_or v 1 0) f ∙ two.1 in
          absurd (omega (arith, g, d.2.0, d.2.1)))
    ]

quote_digit : (b q : ℕ) → IsDigit b → b ≡ q → (q ≡ 39) ⊎ (q ≡ 34) → ⊥
quote_digit b q d e h = grind arith

quote_dot : (b q : ℕ) → b ≡ 46 → b ≡ q → (q ≡ 39) ⊎ (q ≡ 34) → ⊥
quote_dot b q d e h = grind arith

begins_apart : (text : List ℕ) (b : ℕ) → BeginsNumber text → get_or text 0 0 ≡ b → (b ≡ 39) ⊎ (b ≡ 34) → ⊥
begins_apart text b (inl d) e h = quote_digit (get_or text 0 0) b d.1 e h
begins_apart text b (inr d) e h = quote_dot (get_or text 0 0) b d.1 e h

number_longest : (text : List ℕ) (n : ℕ) → BeginsNumber text → IsNumberRun text n → (a b : List ℕ) → text ≡ a ++ b → HasForm a → length a ≤ n
number_longest text n w r a b e (inl h) =
    let l : IsLetter (get_or text 0 0) = subst IsLetter (sym (at_front text a b e 0 h.some)) h.first in
    absurd (elim w [ inl d ↦ letter_digit (get_or text 0 0) l d.1 | inr d ↦ letter_dot (get_or text 0 0) l d.1 ])
number_longest text n w r a b e (inr (inl h)) = number_run text n r a b e h
number_longest text n w r a b e (inr (inr (inl h))) = absurd (begins_apart text 39 w (at_front text a b e 0 (form_long a (inr (inr (inl h)))) ∙ literal_first 39 h.0 a h.1) (inl refl))
number_longest text n w r a b e (inr (inr (inr (inl h)))) = absurd (begins_apart text 34 w (at_front text a b e 0 (form_long a (inr (inr (inr (inl h))))) ∙ literal_first 34 h.0 a h.1) (inr refl))
number_longest text n w r a b e (inr (inr (inr (inr p)))) = punctuator_number text a b p.0 n e p.1 w r.some

dot_on : (text : List ℕ) (n : ℕ) → 1 < length text → IsDigit (get_or text 1 0) → IsNumberRun text n → 1 < n
dot_on text n l d r =
    elim (cases_lt 1 n) [
      | inl lt ↦ lt
      | inr ge ↦ (let z : n ≡ 1 = omega (arith, r.some) in absurd (r.no_more 0 (omega arith) (omega arith) (subst (λ k. GoesOn (get_or text 0 0) (get_or text k 0)) (sym z) (inl (inr d)))))
    ]

begun : (text : List ℕ) (n : ℕ) → BeginsNumber text → IsNumberRun text n → BeginsNumber (take n text)
begun text n (inl d) r = inl (omega (arith, length-take-le n text r.within, r.some), subst IsDigit (sym (get_or-take n text 0 0 (omega (arith, r.some)))) d.1)
begun text n (inr d) r =
    let l : 1 < n = dot_on text n d.0 d.2 r in
    inr (omega (arith, length-take-le n text r.within, l), get_or-take n text 0 0 (omega arith) ∙ d.1, subst IsDigit (sym (get_or-take n text 1 0 l)) d.2)

run_number : (text : List ℕ) (n : ℕ) → BeginsNumber text → IsNumberRun text n → IsNumber (take n text)
run_number text n b r = record {
  begins = begun text n b r;
  bytes = λ k lt.
      let h : k + 1 < n = omega (arith, length-take-le n text r.within) in
      subst (λ v. GoesOn v (get_or (take n text) (k + 1) 0)) (sym (get_or-take n text k 0 (omega arith))) (subst (λ v. GoesOn (get_or text k 0) v) (sym (get_or-take n text (k + 1) 0 h)) (r.all k h));
}

number_front : (text : List ℕ) (n : ℕ) → BeginsNumber text → IsNumberRun text n → IsLongest (take n text) (drop n text)
number_front text n b r = longest_front text n r.within (inr (inl (run_number text n b r))) (number_longest text n b r) (number_no_slash text b)

prefix_letter : (s r : List ℕ) → IsPrefix s r → IsLetter (get_or s 0 0)
prefix_letter s r p = elim p.word [
  | inl e ↦ subst (λ v. IsLetter (get_or v 0 0)) (sym e) (inl (omega arith, omega arith))
  | inr h ↦ elim h [
    | inl e ↦ subst (λ v. IsLetter (get_or v 0 0)) (sym e) (inr (inl (omega arith, omega arith)))
    | inr i ↦ elim i [
      | inl e ↦ subst (λ v. IsLetter (get_or v 0 0)) (sym e) (inl (omega arith, omega arith))
      | inr e ↦ subst (λ v. IsLetter (get_or v 0 0)) (sym e) (inr (inl (omega arith, omega arith)))
    ]
  ]
]

pub number_piece : (text : List ℕ) (n : ℕ) (c : Constant) → BeginsNumber text → IsNumberRun text n → IsConstant (take n text) c → IsPiece text (pieces.Token (kinds.Number c) n)
number_piece text n c b r h = token_piece text n (kinds.Number c) r.within (run_number text n b r, h) (number_longest text n b r) (number_no_slash text b) (λ p. let l = prefix_letter (take n text) (drop n text) p in elim (begun text n b r) [ inl d ↦ letter_digit (get_or (take n text) 0 0) l d.1 | inr d ↦ letter_dot (get_or (take n text) 0 0) l d.1 ])

pub wide_piece : (text : List ℕ) (n : ℕ) → BeginsNumber text → IsNumberRun text n → IsInteger (take n text) → ((c : Constant) → IsConstant (take n text) c → ⊥) → IsPiece text (pieces.Refused reasons.TooWide 0)
wide_piece text n b r i none = (omega arith, λ before. (take n text, drop n text, sym (whole text n), number_front text n b r, (run_number text n b r, i, none, refl)))

pub bad_number_piece : (text : List ℕ) (n : ℕ) → BeginsNumber text → IsNumberRun text n → (IsInteger (take n text) → ⊥) → IsPiece text (pieces.Refused reasons.BadNumber 0)
bad_number_piece text n b r none = (omega arith, λ before. (take n text, drop n text, sym (whole text n), number_front text n b r, (run_number text n b r, none, refl)))

-- literals
same_closed : (q : ℕ) (text a b : List ℕ) (vs ws : List (Option ℕ)) (n : ℕ) → q ≢ 92 → n ≤ length text → IsLiteral q vs (take n text) → text ≡ a ++ b → IsLiteral q ws a → length a ≤ n
same_closed q text a b vs ws n not l h e i =
    let w = swap_end h.2 q [] refl in
    let x = swap_end i.2 q [] refl in
    let f : text ≡ q ∷ (w.front ++ q ∷ drop n text) = sym (whole text n) ∙ ap (λ v. v ++ drop n text) (h.1 ∙ ap (λ v. q ∷ v) w.is) ∙ ap (λ v. q ∷ v) (append_assoc w.front (q ∷ []) (drop n text)) in
    let g : text ≡ q ∷ (x.front ++ q ∷ b) = e ∙ ap (λ v. v ++ b) (i.1 ∙ ap (λ v. q ∷ v) x.is) ∙ ap (λ v. q ∷ v) (append_assoc x.front (q ∷ []) b) in
    let k : x.front ++ q ∷ b ≡ w.front ++ q ∷ drop n text = sym (ap (drop 1) g) ∙ ap (drop 1) f in
    let j : q ∷ drop n text ≡ q ∷ b = (same_reads not (w.reads (drop n text)) (inl refl) (subst (λ v. Reads q v ws (q ∷ b)) k (x.reads b)) (inl refl)).1 in
    omega (arith, ap length j, ap length e, length-append a b, length-drop n text)

string_longest : (text : List ℕ) (n : ℕ) (vs : List (Option ℕ)) → n ≤ length text → IsLiteral 34 vs (take n text) → get_or text 0 0 ≡ 34 → (a b : List ℕ) → text ≡ a ++ b → HasForm a → length a ≤ n
string_longest text n vs l h q a b e form = let i = string_form a form (sym (at_front text a b e 0 (form_long a form)) ∙ q) in same_closed 34 text a b vs i.0 n (λ k. absurd (omega arith)) l h e i.1

character_longest : (text : List ℕ) (n : ℕ) (vs : List (Option ℕ)) → n ≤ length text → IsLiteral 39 vs (take n text) → get_or text 0 0 ≡ 39 → (a b : List ℕ) → text ≡ a ++ b → HasForm a → length a ≤ n
character_longest text n vs l h q a b e form = let i = character_form a form (sym (at_front text a b e 0 (form_long a form)) ∙ q) in same_closed 39 text a b vs i.0 n (λ k. absurd (omega arith)) l h e i.1

literal_prefix : (s r : List ℕ) (q : ℕ) (vs : List (Option ℕ)) → (q ≡ 39) ⊎ (q ≡ 34) → IsLiteral q vs s → IsPrefix s r → ⊥
literal_prefix s r q vs (inl e) l p = letter_apart (get_or s 0 0) (prefix_letter s r p) (inr (inr (inl (literal_first q vs s l ∙ e))))
literal_prefix s r q vs (inr e) l p = letter_apart (get_or s 0 0) (prefix_letter s r p) (inl (literal_first q vs s l ∙ e))

quote_no_slash : (text : List ℕ) (q : ℕ) → (q ≡ 39) ⊎ (q ≡ 34) → get_or text 0 0 ≡ q → BeginsComment text → ⊥
quote_no_slash text q (inl h) e c = omega (arith, c.slash, e, h)
quote_no_slash text q (inr h) e c = omega (arith, c.slash, e, h)

pub string_piece : (text : List ℕ) (n : ℕ) (vs : List ℕ) → IsClosedAt 34 text n → get_or text 0 0 ≡ 34 → IsLiteral 34 (map Some vs) (take n text) → IsPiece text (pieces.Token (kinds.Text vs) n)
string_piece text n vs c q h = token_piece text n (kinds.Text vs) c.within h (string_longest text n (map Some vs) c.within h q) (quote_no_slash text 34 (inr refl) q) (literal_prefix (take n text) (drop n text) 34 (map Some vs) (inr refl) h)

pub bad_string_piece : (text : List ℕ) (n p : ℕ) → IsClosedAt 34 text n → get_or text 0 0 ≡ 34 → p ≤ length (take n text) → IsBadEscape 34 (take n text) p → IsPiece text (pieces.Refused reasons.BadEscape p)
bad_string_piece text n p c q l b = (
  omega (arith, length-take-le n text c.within, c.within),
  λ before. (take n text, drop n text, sym (whole text n), longest_front text n c.within (inr (inr (inr (inl (c.vs, c.literal))))) (string_longest text n c.vs c.within c.literal q) (quote_no_slash text 34 (inr refl) q), inr (inr (inr ((c.vs, c.literal), b)))),
)

pub open_string_piece : (text : List ℕ) → IsOpenLiteral 34 text → IsPiece text (pieces.Refused reasons.Unterminated 0)
open_string_piece text o = (omega arith, λ before. (inr (inr o), refl))

pub character_piece : (text : List ℕ) (n v : ℕ) (m : ℤ) → IsClosedAt 39 text n → get_or text 0 0 ≡ 39 → IsOneCharacter (Some v) (take n text) → m ≡ char_value v → IsPiece text (pieces.Token (kinds.Character m) n)
character_piece text n v m c q h e = token_piece text n (kinds.Character m) c.within (v, h, e) (character_longest text n (Some v ∷ []) c.within h.literal q) (quote_no_slash text 39 (inl refl) q) (literal_prefix (take n text) (drop n text) 39 (Some v ∷ []) (inl refl) h.literal)

character_front : (text : List ℕ) (n : ℕ) → IsClosedAt 39 text n → get_or text 0 0 ≡ 39 → IsLongest (take n text) (drop n text)
character_front text n c q = longest_front text n c.within (inr (inr (inl (c.vs, c.literal)))) (character_longest text n c.vs c.within c.literal q) (quote_no_slash text 39 (inl refl) q)

pub bad_character_piece : (text : List ℕ) (n : ℕ) → IsClosedAt 39 text n → get_or text 0 0 ≡ 39 → IsOneCharacter None (take n text) → IsPiece text (pieces.Refused reasons.BadEscape 1)
bad_character_piece text n c q h = (omega (arith, c.some, c.within), λ before. (take n text, drop n text, sym (whole text n), character_front text n c q, inr (inr (inl (h, refl)))))

pub odd_character_piece : (text : List ℕ) (n : ℕ) → IsClosedAt 39 text n → get_or text 0 0 ≡ 39 → ((v : Option ℕ) → IsOneCharacter v (take n text) → ⊥) → IsPiece text (pieces.Refused reasons.BadEscape 0)
odd_character_piece text n c q h = (omega arith, λ before. (take n text, drop n text, sym (whole text n), character_front text n c q, inr (inl ((c.vs, c.literal), h, refl))))

pub open_character_piece : (text : List ℕ) → IsOpenLiteral 39 text → IsPiece text (pieces.Refused reasons.Unterminated 0)
open_character_piece text o = (omega arith, λ before. (inr (inl o), refl))

pub prefix_at : (s r t u : List ℕ) → s ≡ t → r ≡ u → IsPrefix s r → IsPrefix t u
prefix_at s r t u e f p = subst (λ v. IsPrefix t v) f (subst (λ v. IsPrefix v r) e p)

-- a backslash
begins_two : (text : List ℕ) (a b : ℕ) → 2 ≤ length text → get_or text 0 0 ≡ a → get_or text 1 0 ≡ b → take 2 text ≡ a ∷ b ∷ []
begins_two [] a b l e f = absurd (omega arith)
begins_two (x ∷ []) a b l e f = absurd (omega arith)
begins_two (x ∷ y ∷ text) a b l e f = ap (λ v. v ∷ y ∷ []) e ∙ ap (λ v. a ∷ v ∷ []) f

begins_three : (text : List ℕ) (a b d : ℕ) → 3 ≤ length text → get_or text 0 0 ≡ a → get_or text 1 0 ≡ b → get_or text 2 0 ≡ d → take 3 text ≡ a ∷ b ∷ d ∷ []
begins_three [] a b d l e f g = absurd (omega arith)
begins_three (x ∷ []) a b d l e f g = absurd (omega arith)
begins_three (x ∷ y ∷ []) a b d l e f g = absurd (omega arith)
begins_three (x ∷ y ∷ z ∷ text) a b d l e f g = ap (λ v. v ∷ y ∷ z ∷ []) e ∙ ap (λ v. a ∷ v ∷ z ∷ []) f ∙ ap (λ v. a ∷ b ∷ v ∷ []) g

pub splice_piece : (text : List ℕ) → 2 ≤ length text → get_or text 0 0 ≡ 92 → get_or text 1 0 ≡ 10 → IsPiece text (pieces.White 2)
splice_piece text l e f = (omega arith, l, subst (λ v. IsWhite v (drop 2 text)) (sym (begins_two text 92 10 l e f)) splice)

pub long_splice_piece : (text : List ℕ) → 3 ≤ length text → get_or text 0 0 ≡ 92 → get_or text 1 0 ≡ 13 → get_or text 2 0 ≡ 10 → IsPiece text (pieces.White 3)
long_splice_piece text l e f g = (omega arith, l, subst (λ v. IsWhite v (drop 3 text)) (sym (begins_three text 92 13 10 l e f g)) long_splice)

white_here : (text s r : List ℕ) → text ≡ s ++ r → IsWhite s r → (BeginsComment text → ⊥) → IsBlank (get_or text 0 0) ⊎ (((2 ≤ length text) × (get_or text 0 0 ≡ 92) × (get_or text 1 0 ≡ 10)) ⊎ ((3 ≤ length text) × (get_or text 0 0 ≡ 92) × (get_or text 1 0 ≡ 13) × (get_or text 2 0 ≡ 10)))
white_here text _ r e (blank b h) n = inl (subst IsBlank (sym (at_front text (b ∷ []) r e 0 (omega arith))) h)
white_here text _ r e splice n = inr (inl (omega (arith, ap length e, length-append (92 ∷ 10 ∷ []) r), at_front text (92 ∷ 10 ∷ []) r e 0 (omega arith), at_front text (92 ∷ 10 ∷ []) r e 1 (omega arith)))
white_here text _ r e long_splice n = inr (inr (omega (arith, ap length e, length-append (92 ∷ 13 ∷ 10 ∷ []) r), at_front text (92 ∷ 13 ∷ 10 ∷ []) r e 0 (omega arith), at_front text (92 ∷ 13 ∷ 10 ∷ []) r e 1 (omega arith), at_front text (92 ∷ 13 ∷ 10 ∷ []) r e 2 (omega arith)))
white_here text s r e (comment c) n = absurd (n (subst BeginsComment (sym e) (comment_begins s r c)))
white_here text s r e (line c m) n = absurd (n (subst BeginsComment (sym e) (line_begins s r c)))

backslash_blank : (b : ℕ) → b ≡ 92 → IsBlank b → ⊥
backslash_blank b e h = grind arith

pub lone_piece : (text : List ℕ) → 0 < length text → get_or text 0 0 ≡ 92 → (2 ≤ length text → get_or text 1 0 ≡ 10 → ⊥) → (3 ≤ length text → get_or text 1 0 ≡ 13 → get_or text 2 0 ≡ 10 → ⊥) → IsPiece text (pieces.Refused reasons.BadByte 0)
lone_piece text l e two three = (
  omega arith,
  λ before. inl (
    record {
      some = l;
      no_form = λ s r f h. no_form_begins s h (inr (inl (sym (at_front text s r f 0 (form_long s h)) ∙ e)));
      no_white = λ s r f w. elim (white_here text s r f w (no_slash text (λ k. absurd (omega arith)))) [
        | inl b ↦ backslash_blank (get_or text 0 0) e b
        | inr h ↦ elim h [ inl x ↦ two x.0 x.2 | inr x ↦ three x.0 x.2 x.3 ]
      ];
      no_comment = no_slash text (λ k. absurd (omega arith));
      no_character = λ o. absurd (omega (arith, o.first));
      no_string = λ o. absurd (omega (arith, o.first));
      no_directive = λ d. absurd (omega (arith, d.hash));
    },
    refl,
  ),
)

-- comments
pub comment_piece : (text : List ℕ) (n : ℕ) → n ≤ length text → IsComment (take n text) → IsPiece text (pieces.White n)
comment_piece text n l c = (omega (arith, c.long, length-take-le n text l), l, comment c)

pub open_comment_piece : (text : List ℕ) → 2 ≤ length text → get_or text 0 0 ≡ 47 → get_or text 1 0 ≡ 42 → ((k : ℕ) → 2 ≤ k → k + 1 < length text → get_or text k 0 ≡ 42 → get_or text (k + 1) 0 ≡ 47 → ⊥) → IsPiece text (pieces.Refused reasons.Unterminated 0)
open_comment_piece text l e f none = (
  omega arith,
  λ before. (
    inl (record {
      long = l;
      slash = e;
      star = f;
      open_end = λ s r g c.
          let k : ℕ = length s - 2 in
          let m : k + 1 ≡ length s - 1 = omega (arith, c.long) in
          none k (omega (arith, c.long)) (omega (arith, c.long, front_long text s r g)) (at_front text s r g k (omega (arith, c.long)) ∙ c.end_star) (at_front text s r g (k + 1) (omega (arith, c.long)) ∙ ap (λ z. get_or s z 0) m ∙ c.end_slash);
    }),
    refl,
  ),
)

line_here : (text : List ℕ) (n : ℕ) → 2 ≤ n → n ≤ length text → get_or text 0 0 ≡ 47 → get_or text 1 0 ≡ 47 → ((k : ℕ) → k < n → get_or text k 0 ≢ 10) → (n < length text → get_or text n 0 ≡ 10) → IsLine (take n text) (drop n text)
line_here text n l m e f one ends = record {
  long = omega (arith, length-take-le n text m);
  slash = get_or-take n text 0 0 (omega arith) ∙ e;
  second = get_or-take n text 1 0 (omega arith) ∙ f;
  one_line = λ k lt h. let i : k < n = omega (arith, length-take-le n text m) in one k i (sym (get_or-take n text k 0 i) ∙ h);
  ends = λ some. let z : n + 0 ≡ n = omega arith in get_or-drop n text 0 0 ∙ ap (λ k. get_or text k 0) z ∙ ends (omega (arith, length-drop n text));
}

pub line_piece : (text : List ℕ) (n : ℕ) → 2 ≤ n → n ≤ length text → get_or text 0 0 ≡ 47 → get_or text 1 0 ≡ 47 → ((k : ℕ) → k < n → get_or text k 0 ≢ 10) → (n < length text → get_or text n 0 ≡ 10) → ((p : ℕ) → IsSplicedAt (take n text) p → ⊥) → IsPiece text (pieces.White n)
line_piece text n l m e f one ends none = (omega arith, m, line (line_here text n l m e f one ends) none)

pub spliced_piece : (text : List ℕ) (n p : ℕ) → 2 ≤ n → n ≤ length text → get_or text 0 0 ≡ 47 → get_or text 1 0 ≡ 47 → ((k : ℕ) → k < n → get_or text k 0 ≢ 10) → (n < length text → get_or text n 0 ≡ 10) → p < length (take n text) → IsSplicedAt (take n text) p → IsPiece text (pieces.Refused reasons.BadByte p)
spliced_piece text n p l m e f one ends lt x = (
  omega (arith, length-take-le n text m),
  λ before. inr (record { s = take n text; rest = drop n text; is = sym (whole text n); line = line_here text n l m e f one ends; spliced = x }),
)

-- punctuators
begun_front : (text a b : List ℕ) → text ≡ a ++ b → BeginsNumber a → BeginsNumber text
begun_front text a b e (inl d) = inl (omega (arith, d.0, front_long text a b e), subst IsDigit (sym (at_front text a b e 0 d.0)) d.1)
begun_front text a b e (inr d) = inr (omega (arith, d.0, front_long text a b e), at_front text a b e 0 (omega (arith, d.0)) ∙ d.1, subst IsDigit (sym (at_front text a b e 1 d.0)) d.2)

other_form : (text a b : List ℕ) → IsOther text → text ≡ a ++ b → HasForm a → (p : Punctuator) × (a ≡ punctuator_text p)
other_form text a b o e (inl h) = absurd (o.no_word (subst IsWordByte (sym (at_front text a b e 0 h.some)) (inl h.first)))
other_form text a b o e (inr (inl h)) = absurd (o.no_number (begun_front text a b e h.begins))
other_form text a b o e (inr (inr (inl h))) = absurd (o.no_character (at_front text a b e 0 (form_long a (inr (inr (inl h)))) ∙ literal_first 39 h.0 a h.1))
other_form text a b o e (inr (inr (inr (inl h)))) = absurd (o.no_string (at_front text a b e 0 (form_long a (inr (inr (inr (inl h))))) ∙ literal_first 34 h.0 a h.1))
other_form text a b o e (inr (inr (inr (inr p)))) = p

prefix_punctuator : (s r : List ℕ) (p : Punctuator) → s ≡ punctuator_text p → IsPrefix s r → ⊥
prefix_punctuator s r p e x = letter_punctuator (get_or s 0 0) (prefix_letter s r x) (punctuator_byte s p e)

pub punctuator_piece : (text : List ℕ) (p : Punctuator) (n : ℕ) → IsOther text → (BeginsComment text → ⊥) → IsLongestPunctuator text p → n ≡ length (punctuator_text p) → IsPiece text (pieces.Token (kinds.Punctuator p) n)
punctuator_piece text p n o c m e =
    let f : take n text ≡ punctuator_text p = ap (λ k. take k text) e ∙ ap (take (length (punctuator_text p))) m.is ∙ take-append_seam (punctuator_text p) m.rest in
    token_piece text n (kinds.Punctuator p) (omega (arith, e, front_long text (punctuator_text p) m.rest m.is)) f
    (λ a b g form. let q = other_form text a b o g form in omega (arith, e, ap length q.1, m.longest q.0 b (g ∙ ap (λ v. v ++ b) q.1)))
    c (prefix_punctuator (take n text) (drop n text) p f)

pub nothing_piece : (text : List ℕ) → 0 < length text → IsOther text → (BeginsComment text → ⊥) → ((p : Punctuator) (b : List ℕ) → text ≡ punctuator_text p ++ b → ⊥) → IsPiece text (pieces.Refused reasons.BadByte 0)
nothing_piece text l o c none = (
  omega arith,
  λ before. inl (
    record {
      some = l;
      no_form = λ s r f h. let q = other_form text s r o f h in none q.0 r (f ∙ ap (λ v. v ++ r) q.1);
      no_white = λ s r f w. elim (white_here text s r f w c) [
        | inl b ↦ o.no_blank b
        | inr h ↦ elim h [ inl x ↦ o.no_splice x.1 | inr x ↦ o.no_splice x.1 ]
      ];
      no_comment = c;
      no_character = λ i. o.no_character i.first;
      no_string = λ i. o.no_string i.first;
      no_directive = λ d. o.no_hash d.hash;
    },
    refl,
  ),
)

-- a # that begins no directive
hash_no_blank : (b : ℕ) → b ≡ 35 → IsBlank b → ⊥
hash_no_blank b e h = grind arith

pub hash_nothing : (before text : List ℕ) → 0 < length text → get_or text 0 0 ≡ 35 → (OpensLine before → ⊥) → BeginsNothing before text
hash_nothing before text l e none = record {
  some = l;
  no_form = λ s r f h. no_form_begins s h (inl (sym (at_front text s r f 0 (form_long s h)) ∙ e));
  no_white = λ s r f w. elim (white_here text s r f w (no_slash text (λ k. absurd (omega arith)))) [
    | inl b ↦ hash_no_blank (get_or text 0 0) e b
    | inr h ↦ elim h [ inl x ↦ absurd (omega (arith, e, x.1)) | inr x ↦ absurd (omega (arith, e, x.1)) ]
  ];
  no_comment = no_slash text (λ k. absurd (omega arith));
  no_character = λ o. absurd (omega (arith, o.first));
  no_string = λ o. absurd (omega (arith, o.first));
  no_directive = λ d. none d.opens;
}

pub blank_piece : (text : List ℕ) → 0 < length text → IsBlank (get_or text 0 0) → IsPiece text (pieces.White 1)
blank_piece [] l h = absurd (omega arith)
blank_piece (b ∷ text) l h = (omega arith, omega arith, blank b h)
