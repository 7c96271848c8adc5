-- What is refused at a place is neither white space nor a token, and is refused for one reason.
use Rattle.std.proofs.Common.{◌≡◌, ℕ, ◌+◌, ◌≤◌, ◌⊎◌, inl, inr, List, [], ◌∷◌, ◌++◌, map, Option, Some, None, length, get_or, refl, sym, ap, ◌∙◌, subst, arith}
use Rattle.std.proofs.lemmas.List.{append_cancel_left}
use Rattle.c_syntax_written.specs.declared.token.Token.{Token}
use Rattle.c_lexer.specs.declared.reason.Reason.{Reason}
use Rattle.c_lexer.specs.declared.reason.Reason.TheVariants as reasons
use Rattle.c_lexer.specs.Spelling.{Reads, IsLiteral, IsOneCharacter}
use Rattle.c_lexer.specs.Cut.{IsLetter, IsNumber, IsToken, HasForm, IsSplicedAt, IsWhite, blank, splice, long_splice, comment, line, BeginsComment, IsLongest, IsPrefix, IsNext}
use Rattle.c_lexer.specs.Uncut.{BeginsDirective, IsOpenComment, IsOpenLiteral, BeginsNothing, IsSplicedLine, IsBadEscape, IsMalformed, Refuses}
use Rattle.c_lexer.proofs.Forms.{at_front, same_split, form_long, IsNoForm, no_form_begins, character_form, string_form, number_literal, two_literals, token_number, token_character, token_string, letter_digit, letter_dot, letter_apart, literal_first}
use Rattle.c_lexer.proofs.LiteralLemmas.{same_reads, same_allowed}
use Rattle.c_lexer.proofs.Whites.{line_begins, white_long, white_begins, same_line, line_white}

-- why a place is refused, in one sum
pub data Cause : List ℕ → List ℕ → Reason → ℕ → Type 0 where
  nothing : {before text : List ℕ} → BeginsNothing before text → Cause before text reasons.BadByte 0
  spliced : {before text : List ℕ} {n : ℕ} → IsSplicedLine text n → Cause before text reasons.BadByte n
  open_comment : {before text : List ℕ} → IsOpenComment text → Cause before text reasons.Unterminated 0
  open_literal : {before text : List ℕ} (q : ℕ) → (q ≡ 39) ⊎ (q ≡ 34) → IsOpenLiteral q text → Cause before text reasons.Unterminated 0
  directive : {before text : List ℕ} → BeginsDirective before text → Cause before text reasons.Directive 0
  malformed : {before text : List ℕ} {reason : Reason} {n : ℕ} (s rest : List ℕ) → text ≡ s ++ rest → IsLongest s rest → IsMalformed s rest reason n → Cause before text reason n

pub cause : (before text : List ℕ) (reason : Reason) (n : ℕ) → Refuses before text reason n → Cause before text reason n
cause before text reasons.BadByte n (inl h) = subst (Cause before text reasons.BadByte) (sym h.1) (nothing h.0)
cause before text reasons.BadByte n (inr h) = spliced h
cause before text reasons.Unterminated n (inl h, e) = subst (Cause before text reasons.Unterminated) (sym e) (open_comment h)
cause before text reasons.Unterminated n (inr (inl h), e) = subst (Cause before text reasons.Unterminated) (sym e) (open_literal 39 (inl refl) h)
cause before text reasons.Unterminated n (inr (inr h), e) = subst (Cause before text reasons.Unterminated) (sym e) (open_literal 34 (inr refl) h)
cause before text reasons.BadNumber n h = malformed h.0 h.1 h.2 h.3 h.4
cause before text reasons.TooWide n h = malformed h.0 h.1 h.2 h.3 h.4
cause before text reasons.BadEscape n h = malformed h.0 h.1 h.2 h.3 h.4
cause before text reasons.Directive n h = subst (Cause before text reasons.Directive) (sym h.1) (directive h.0)

comment_byte : (text : List ℕ) → BeginsComment text → IsNoForm (get_or text 0 0) → ⊥
comment_byte text c h = grind (arith, c.slash)

quote_byte : (b q : ℕ) → (q ≡ 39) ⊎ (q ≡ 34) → b ≡ q → IsNoForm b → ⊥
quote_byte b q h e i = grind arith

quote_slash : (b q : ℕ) → (q ≡ 39) ⊎ (q ≡ 34) → b ≡ q → b ≡ 47 → ⊥
quote_slash b q h e i = grind arith

white_byte : (text s r : List ℕ) → text ≡ s ++ r → IsWhite s r → IsNoForm (get_or text 0 0) ⊎ BeginsComment text
white_byte text s r e w =
    elim (white_begins s r w) [
      | inl b ↦ inl (subst IsNoForm (sym (at_front text s r e 0 (white_long s r w))) b)
      | inr c ↦ inr (subst BeginsComment (sym e) c)
    ]

form_byte : (text s r : List ℕ) → text ≡ s ++ r → HasForm s → IsNoForm (get_or text 0 0) → ⊥
form_byte text s r e f h = no_form_begins s f (subst IsNoForm (at_front text s r e 0 (form_long s f)) h)

-- white space is no token
pub not_both : (s u r v : List ℕ) → s ++ r ≡ u ++ v → IsWhite s r → IsLongest u v → ⊥
not_both s u r v e w n =
    elim (white_byte (s ++ r) s r refl w) [
      | inl b ↦ form_byte (s ++ r) u v e n.form b
      | inr c ↦ n.no_comment (subst BeginsComment e c)
    ]

pub same_longest : (s u r v : List ℕ) → s ++ r ≡ u ++ v → IsLongest s r → IsLongest u v → s ≡ u
same_longest s u r v e m n =
    let a : length u ≤ length s = m.longest u v e n.form in
    let b : length s ≤ length u = n.longest s r (sym e) m.form in
    same_split s u r v e (omega arith)

literal_form : (s : List ℕ) (q : ℕ) → (q ≡ 39) ⊎ (q ≡ 34) → HasForm s → get_or s 0 0 ≡ q → (vs : List (Option ℕ)) × IsLiteral q vs s
literal_form s q (inl e) f h = let l = character_form s f (h ∙ e) in (l.0, subst (λ k. IsLiteral k l.0 s) (sym e) l.1)
literal_form s q (inr e) f h = let l = string_form s f (h ∙ e) in (l.0, subst (λ k. IsLiteral k l.0 s) (sym e) l.1)

closed_form : (text s r : List ℕ) (q : ℕ) → (q ≡ 39) ⊎ (q ≡ 34) → text ≡ s ++ r → HasForm s → IsOpenLiteral q text → ⊥
closed_form text s r q h e f o =
    let l = literal_form s q h f (sym (at_front text s r e 0 (form_long s f)) ∙ o.first) in
    o.open_end s r l.0 e l.1

open_begins : (text : List ℕ) → IsOpenComment text → BeginsComment text
open_begins text o = record { long = o.long; slash = o.slash; second = inr o.star }

pub spliced_begins : (text : List ℕ) (n : ℕ) → IsSplicedLine text n → BeginsComment text
spliced_begins text n l = subst BeginsComment (sym l.is) (line_begins l.s l.rest l.line)

open_white : (text s r : List ℕ) → text ≡ s ++ r → IsOpenComment text → IsWhite s r → ⊥
open_white text _ r e o (blank b h) = let f : b ≡ 47 = sym (at_front text (b ∷ []) r e 0 (omega arith)) ∙ o.slash in absurd (grind arith)
open_white text _ r e o splice = let f : ◌≡◌ {A = ℕ} 92 47 = sym (at_front text (92 ∷ 10 ∷ []) r e 0 (omega arith)) ∙ o.slash in absurd (omega arith)
open_white text _ r e o long_splice = let f : ◌≡◌ {A = ℕ} 92 47 = sym (at_front text (92 ∷ 13 ∷ 10 ∷ []) r e 0 (omega arith)) ∙ o.slash in absurd (omega arith)
open_white text s r e o (comment c) = o.open_end s r e c
open_white text s r e o (line l n) = absurd (omega (arith, at_front text s r e 1 (omega (arith, l.long)), l.second, o.star))

hash_white : (text s r : List ℕ) → text ≡ s ++ r → IsWhite s r → get_or text 0 0 ≡ 35 → ⊥
hash_white text _ r e (blank b h) d = let f : b ≡ 35 = sym (at_front text (b ∷ []) r e 0 (omega arith)) ∙ d in absurd (grind arith)
hash_white text _ r e splice d = let f : ◌≡◌ {A = ℕ} 92 35 = sym (at_front text (92 ∷ 10 ∷ []) r e 0 (omega arith)) ∙ d in absurd (omega arith)
hash_white text _ r e long_splice d = let f : ◌≡◌ {A = ℕ} 92 35 = sym (at_front text (92 ∷ 13 ∷ 10 ∷ []) r e 0 (omega arith)) ∙ d in absurd (omega arith)
hash_white text s r e (comment c) d = absurd (omega (arith, at_front text s r e 0 (omega (arith, c.long)), c.slash))
hash_white text s r e (line c n) d = absurd (omega (arith, at_front text s r e 0 (omega (arith, c.long)), c.slash))

pub refused_white : (before text s r : List ℕ) (reason : Reason) (n : ℕ) → Cause before text reason n → text ≡ s ++ r → IsWhite s r → ⊥
refused_white before text s r reason n (nothing h) e w = h.no_white s r e w
refused_white before text s r reason n (spliced l) e w = line_white l.s s l.rest r n (sym l.is ∙ e) l.line l.spliced w
refused_white before text s r reason n (open_comment o) e w = open_white text s r e o w
refused_white before text s r reason n (open_literal q h o) e w = elim (white_byte text s r e w) [ inl b ↦ quote_byte (get_or text 0 0) q h o.first b | inr c ↦ quote_slash (get_or text 0 0) q h o.first c.slash ]
refused_white before text s r reason n (directive d) e w = hash_white text s r e w d.hash
refused_white before text s r reason n (malformed u v f l m) e w = not_both s u r v (sym e ∙ f) w l

-- of what has the form of a token, what is refused is no token, and is refused for one reason
pub literal_body : (s : List ℕ) (q : ℕ) (vs ws : List (Option ℕ)) (l : IsLiteral q vs s) → (b : List ℕ) → s ≡ q ∷ b → Reads q b vs (q ∷ [])
literal_body s q vs ws l b e = let same : l.0 ≡ b = cc in subst (λ a. Reads q a vs (q ∷ [])) same l.2

pub one_value : (s : List ℕ) (v w : Option ℕ) → IsOneCharacter v s → IsOneCharacter w s → v ≡ w
one_value s v w h i =
    let r : Reads 39 i.literal.0 (v ∷ []) (39 ∷ []) = literal_body s 39 (v ∷ []) (w ∷ []) h.literal i.literal.0 i.literal.1 in
    let j : v ∷ [] ≡ w ∷ [] = (same_reads (λ e. absurd (omega arith)) r (inl refl) i.literal.2 (inl refl)).0 in
    cc

-- a string without a bad escape has none
good_string : (s : List ℕ) (vs : List ℕ) (n : ℕ) → IsLiteral 34 (map Some vs) s → IsBadEscape 34 s n → ⊥
good_string s vs n l b =
    let r : Reads 34 b.body (map Some vs) (34 ∷ []) = literal_body s 34 (map Some vs) [] l b.body b.is in
    let j : 34 ∷ [] ≡ 92 ∷ b.escape = same_allowed (λ e. absurd (omega arith)) r vs refl (inl (inl refl)) b.reads b.before refl (inr (b.escape, refl, b.no_value)) in
    absurd (omega (arith, ap (λ l. get_or l 0 0) j))

one_escape : (s : List ℕ) (n m : ℕ) → IsBadEscape 34 s n → IsBadEscape 34 s m → n ≡ m
one_escape s n m b d =
    let same : d.body ≡ b.body = (let e : 34 ∷ d.body ≡ 34 ∷ b.body = sym d.is ∙ b.is in cc) in
    let r : Reads 34 b.body (map Some d.before) (92 ∷ d.escape) = subst (λ a. Reads 34 a (map Some d.before) (92 ∷ d.escape)) same d.reads in
    let j : 92 ∷ b.escape ≡ 92 ∷ d.escape = same_allowed (λ e. absurd (omega arith)) b.reads b.before refl (inr (b.escape, refl, b.no_value)) r d.before refl (inr (d.escape, refl, d.no_value)) in
    omega (arith, ap length j, b.place, d.place)

prefix_letter : (s r : List ℕ) → IsPrefix s r → IsLetter (get_or s 0 0)
prefix_letter s r p = elim p.word [
  | inl e ↦ subst (λ v. IsLetter (get_or v 0 0)) (sym e) (inl (omega arith, omega arith))
  | inr h ↦ elim h [
    | inl e ↦ subst (λ v. IsLetter (get_or v 0 0)) (sym e) (inr (inl (omega arith, omega arith)))
    | inr i ↦ elim i [
      | inl e ↦ subst (λ v. IsLetter (get_or v 0 0)) (sym e) (inl (omega arith, omega arith))
      | inr e ↦ subst (λ v. IsLetter (get_or v 0 0)) (sym e) (inr (inl (omega arith, omega arith)))
    ]
  ]
]

prefix_number : (s r : List ℕ) → IsPrefix s r → IsNumber s → ⊥
prefix_number s r p n = let l = prefix_letter s r p in elim n.begins [ inl d ↦ letter_digit (get_or s 0 0) l d.1 | inr d ↦ letter_dot (get_or s 0 0) l d.1 ]

prefix_literal : (s r : List ℕ) (q : ℕ) (vs : List (Option ℕ)) → (q ≡ 39) ⊎ (q ≡ 34) → IsPrefix s r → IsLiteral q vs s → ⊥
prefix_literal s r q vs (inl e) p l = letter_apart (get_or s 0 0) (prefix_letter s r p) (inr (inr (inl (literal_first q vs s l ∙ e))))
prefix_literal s r q vs (inr e) p l = letter_apart (get_or s 0 0) (prefix_letter s r p) (inl (literal_first q vs s l ∙ e))

bad_token : (s r : List ℕ) (reason : Reason) (n : ℕ) (t : Token) → IsMalformed s r reason n → IsToken s t → (IsPrefix s r → ⊥) → ⊥
bad_token s r reasons.BadNumber n t h i p = let c = token_number s t h.0 i in h.1 (record { some = c.1.some; ends = (c.0.unsigned, c.0.longs, c.1.ends) })
bad_token s r reasons.TooWide n t h i p = let c = token_number s t h.0 i in h.2 c.0 c.1
bad_token s r reasons.BadEscape n t (inl h) i p = p h.0
bad_token s r reasons.BadEscape n t (inr (inl h)) i p = let c = token_character s t h.0.0 h.0.1 i in h.1 (Some c.0) c.1
bad_token s r reasons.BadEscape n t (inr (inr (inl h))) i p =
    let c = token_character s t (None ∷ []) h.0.literal i in
    let e : None ≡ Some c.0 = one_value s None (Some c.0) h.0 c.1 in
    absurd (cc)
bad_token s r reasons.BadEscape n t (inr (inr (inr h))) i p = let c = token_string s t h.0.0 h.0.1 i in good_string s c.0 n c.1 h.1
bad_token s r reasons.BadByte n t h i p = h
bad_token s r reasons.Unterminated n t h i p = h
bad_token s r reasons.Directive n t h i p = h

pub refused_token : (before text s r : List ℕ) (reason : Reason) (n : ℕ) (t : Token) → Cause before text reason n → text ≡ s ++ r → IsNext s r t → ⊥
refused_token before text s r reason n t (nothing h) e w = h.no_form s r e w.is_longest.form
refused_token before text s r reason n t (spliced l) e w = w.is_longest.no_comment (subst BeginsComment e (spliced_begins text n l))
refused_token before text s r reason n t (open_comment o) e w = w.is_longest.no_comment (subst BeginsComment e (open_begins text o))
refused_token before text s r reason n t (open_literal q h o) e w = closed_form text s r q h e w.is_longest.form o
refused_token before text s r reason n t (directive d) e w = form_byte text s r e w.is_longest.form (inl d.hash)
refused_token before text s r reason n t (malformed u v f l m) e w =
    let a : s ≡ u = same_longest s u r v (sym e ∙ f) w.is_longest l in
    let b : r ≡ v = append_cancel_left s r v (sym e ∙ f ∙ ap (λ z. z ++ v) (sym a)) in
    bad_token s r reason n t (subst (λ z. IsMalformed s z reason n) (sym b) (subst (λ z. IsMalformed z v reason n) (sym a) m)) w.spells w.no_prefix

-- one reason
abbrev pub AreSame : Reason → ℕ → Reason → ℕ → Type 0
AreSame r n q m = (n ≡ m) × (r ≡ q)

same_escape : (s r : List ℕ) (n m : ℕ) → IsMalformed s r reasons.BadEscape n → IsMalformed s r reasons.BadEscape m → n ≡ m
same_escape s r n m (inl h) (inl i) = h.1 ∙ sym i.1
same_escape s r n m (inl h) (inr (inl i)) = absurd (prefix_literal s r 39 i.0.0 (inl refl) h.0 i.0.1)
same_escape s r n m (inl h) (inr (inr (inl i))) = absurd (prefix_literal s r 39 (None ∷ []) (inl refl) h.0 i.0.literal)
same_escape s r n m (inl h) (inr (inr (inr i))) = absurd (prefix_literal s r 34 i.0.0 (inr refl) h.0 i.0.1)
same_escape s r n m (inr (inl h)) (inl i) = absurd (prefix_literal s r 39 h.0.0 (inl refl) i.0 h.0.1)
same_escape s r n m (inr (inl h)) (inr (inl i)) = h.2 ∙ sym i.2
same_escape s r n m (inr (inl h)) (inr (inr (inl i))) = absurd (h.1 None i.0)
same_escape s r n m (inr (inl h)) (inr (inr (inr i))) = absurd (two_literals h.0.0 i.0.0 s h.0.1 i.0.1)
same_escape s r n m (inr (inr (inl h))) (inl i) = absurd (prefix_literal s r 39 (None ∷ []) (inl refl) i.0 h.0.literal)
same_escape s r n m (inr (inr (inl h))) (inr (inl i)) = absurd (i.1 None h.0)
same_escape s r n m (inr (inr (inl h))) (inr (inr (inl i))) = h.1 ∙ sym i.1
same_escape s r n m (inr (inr (inl h))) (inr (inr (inr i))) = absurd (two_literals (None ∷ []) i.0.0 s h.0.literal i.0.1)
same_escape s r n m (inr (inr (inr h))) (inl i) = absurd (prefix_literal s r 34 h.0.0 (inr refl) i.0 h.0.1)
same_escape s r n m (inr (inr (inr h))) (inr (inl i)) = absurd (two_literals i.0.0 h.0.0 s i.0.1 h.0.1)
same_escape s r n m (inr (inr (inr h))) (inr (inr (inl i))) = absurd (two_literals (None ∷ []) h.0.0 s i.0.literal h.0.1)
same_escape s r n m (inr (inr (inr h))) (inr (inr (inr i))) = one_escape s n m h.1 i.1

number_escape : (s r : List ℕ) (n : ℕ) → IsNumber s → IsMalformed s r reasons.BadEscape n → ⊥
number_escape s r n h (inl i) = prefix_number s r i.0 h
number_escape s r n h (inr (inl i)) = number_literal 39 i.0.0 s (inl refl) h i.0.1
number_escape s r n h (inr (inr (inl i))) = number_literal 39 (None ∷ []) s (inl refl) h i.0.literal
number_escape s r n h (inr (inr (inr i))) = number_literal 34 i.0.0 s (inr refl) h i.0.1

same_malformed : (s r : List ℕ) (a b : Reason) (n m : ℕ) → IsMalformed s r a n → IsMalformed s r b m → AreSame a n b m
same_malformed s r reasons.BadNumber reasons.BadNumber n m h i = (h.2 ∙ sym i.2, refl)
same_malformed s r reasons.BadNumber reasons.TooWide n m h i = absurd (h.1 i.1)
same_malformed s r reasons.BadNumber reasons.BadEscape n m h i = absurd (number_escape s r m h.0 i)
same_malformed s r reasons.TooWide reasons.BadNumber n m h i = absurd (i.1 h.1)
same_malformed s r reasons.TooWide reasons.TooWide n m h i = (h.3 ∙ sym i.3, refl)
same_malformed s r reasons.TooWide reasons.BadEscape n m h i = absurd (number_escape s r m h.0 i)
same_malformed s r reasons.BadEscape reasons.BadNumber n m h i = absurd (number_escape s r n i.0 h)
same_malformed s r reasons.BadEscape reasons.TooWide n m h i = absurd (number_escape s r n i.0 h)
same_malformed s r reasons.BadEscape reasons.BadEscape n m h i = (same_escape s r n m h i, refl)
same_malformed s r reasons.BadByte b n m h i = absurd h
same_malformed s r reasons.Unterminated b n m h i = absurd h
same_malformed s r reasons.Directive b n m h i = absurd h
same_malformed s r a reasons.BadByte n m h i = absurd i
same_malformed s r a reasons.Unterminated n m h i = absurd i
same_malformed s r a reasons.Directive n m h i = absurd i

one_splice : (s : List ℕ) (n m : ℕ) → IsSplicedAt s n → IsSplicedAt s m → n ≡ m
one_splice s n m (x, inl h) (y, inl i) = omega arith
one_splice s n m (x, inl h) (y, inr i) = let e : n ≡ m + 1 = omega arith in absurd (omega (arith, x, ap (λ k. get_or s k 0) e, i.1))
one_splice s n m (x, inr h) (y, inl i) = let e : m ≡ n + 1 = omega arith in absurd (omega (arith, y, ap (λ k. get_or s k 0) e, h.1))
one_splice s n m (x, inr h) (y, inr i) = omega arith

same_spliced : (text : List ℕ) (n m : ℕ) → IsSplicedLine text n → IsSplicedLine text m → n ≡ m
same_spliced text n m h i =
    let e : h.s ++ h.rest ≡ i.s ++ i.rest = sym h.is ∙ i.is in
    let a : i.s ≡ h.s = sym (same_split h.s i.s h.rest i.rest e (same_line h.s i.s h.rest i.rest e h.line i.line)) in
    one_splice h.s n m h.spliced (subst (λ v. IsSplicedAt v m) a i.spliced)

spliced_second : (text : List ℕ) (n : ℕ) → IsSplicedLine text n → IsOpenComment text → ⊥
spliced_second text n l o = omega (arith, at_front text l.s l.rest l.is 1 (omega (arith, l.line.long)), l.line.second, o.star)

pub same_cause : (before text : List ℕ) (a b : Reason) (n m : ℕ) → Cause before text a n → Cause before text b m → AreSame a n b m
same_cause before text a b n m (nothing h) (nothing i) = (refl, refl)
same_cause before text a b n m (nothing h) (spliced l) = absurd (h.no_comment (spliced_begins text m l))
same_cause before text a b n m (nothing h) (open_comment o) = absurd (h.no_comment (open_begins text o))
same_cause before text a b n m (nothing h) (open_literal q (inl e) o) = absurd (h.no_character (subst (λ k. IsOpenLiteral k text) e o))
same_cause before text a b n m (nothing h) (open_literal q (inr e) o) = absurd (h.no_string (subst (λ k. IsOpenLiteral k text) e o))
same_cause before text a b n m (nothing h) (directive d) = absurd (h.no_directive d)
same_cause before text a b n m (nothing h) (malformed s r e l x) = absurd (h.no_form s r e l.form)
same_cause before text a b n m (spliced l) (nothing h) = absurd (h.no_comment (spliced_begins text n l))
same_cause before text a b n m (spliced l) (spliced k) = (same_spliced text n m l k, refl)
same_cause before text a b n m (spliced l) (open_comment o) = absurd (spliced_second text n l o)
same_cause before text a b n m (spliced l) (open_literal q h o) = absurd (quote_slash (get_or text 0 0) q h o.first (spliced_begins text n l).slash)
same_cause before text a b n m (spliced l) (directive d) = absurd (omega (arith, d.hash, (spliced_begins text n l).slash))
same_cause before text a b n m (spliced l) (malformed s r e k x) = absurd (k.no_comment (subst BeginsComment e (spliced_begins text n l)))
same_cause before text a b n m (open_comment o) (nothing h) = absurd (h.no_comment (open_begins text o))
same_cause before text a b n m (open_comment o) (spliced l) = absurd (spliced_second text m l o)
same_cause before text a b n m (open_comment o) (open_comment p) = (refl, refl)
same_cause before text a b n m (open_comment o) (open_literal q h p) = absurd (quote_slash (get_or text 0 0) q h p.first o.slash)
same_cause before text a b n m (open_comment o) (directive d) = absurd (omega (arith, d.hash, o.slash))
same_cause before text a b n m (open_comment o) (malformed s r e k x) = absurd (k.no_comment (subst BeginsComment e (open_begins text o)))
same_cause before text a b n m (open_literal q (inl e) o) (nothing h) = absurd (h.no_character (subst (λ k. IsOpenLiteral k text) e o))
same_cause before text a b n m (open_literal q (inr e) o) (nothing h) = absurd (h.no_string (subst (λ k. IsOpenLiteral k text) e o))
same_cause before text a b n m (open_literal q h o) (spliced l) = absurd (quote_slash (get_or text 0 0) q h o.first (spliced_begins text m l).slash)
same_cause before text a b n m (open_literal q h o) (open_comment p) = absurd (quote_slash (get_or text 0 0) q h o.first p.slash)
same_cause before text a b n m (open_literal q h o) (open_literal p i u) = (refl, refl)
same_cause before text a b n m (open_literal q h o) (directive d) = absurd (quote_byte (get_or text 0 0) q h o.first (inl d.hash))
same_cause before text a b n m (open_literal q h o) (malformed s r e k x) = absurd (closed_form text s r q h e k.form o)
same_cause before text a b n m (directive d) (nothing h) = absurd (h.no_directive d)
same_cause before text a b n m (directive d) (spliced l) = absurd (omega (arith, d.hash, (spliced_begins text m l).slash))
same_cause before text a b n m (directive d) (open_comment o) = absurd (omega (arith, d.hash, o.slash))
same_cause before text a b n m (directive d) (open_literal q h o) = absurd (quote_byte (get_or text 0 0) q h o.first (inl d.hash))
same_cause before text a b n m (directive d) (directive p) = (refl, refl)
same_cause before text a b n m (directive d) (malformed s r e k x) = absurd (form_byte text s r e k.form (inl d.hash))
same_cause before text a b n m (malformed s r e l x) (nothing h) = absurd (h.no_form s r e l.form)
same_cause before text a b n m (malformed s r e k x) (spliced l) = absurd (k.no_comment (subst BeginsComment e (spliced_begins text m l)))
same_cause before text a b n m (malformed s r e k x) (open_comment o) = absurd (k.no_comment (subst BeginsComment e (open_begins text o)))
same_cause before text a b n m (malformed s r e k x) (open_literal q h o) = absurd (closed_form text s r q h e k.form o)
same_cause before text a b n m (malformed s r e k x) (directive d) = absurd (form_byte text s r e k.form (inl d.hash))
same_cause before text a b n m (malformed s r e l x) (malformed u v f k y) =
    let g : s ≡ u = same_longest s u r v (sym e ∙ f) l k in
    let h : r ≡ v = append_cancel_left s r v (sym e ∙ f ∙ ap (λ z. z ++ v) (sym g)) in
    same_malformed s r a b n m x (subst (λ z. IsMalformed s z b m) (sym h) (subst (λ z. IsMalformed z v b m) (sym g) y))
