-- What is known of the first token of a production, and what the descent takes at a token.
use Rattle.std.proofs.Common.{◌≡◌, refl, sym, ◌∙◌, ap, ◌⊎◌, inl, inr, Bool, true, false, if◌then◌else◌, List, [], ◌∷◌, true≢false}
use Rattle.c_syntax_written.specs.declared.token.Keyword.TheVariants as keywords
use Rattle.c_syntax_written.specs.declared.token.Placed.{Placed}
use Rattle.c_syntax_written.specs.declared.token.Punctuator.TheVariants as signs
use Rattle.c_syntax_written.specs.declared.token.Token.{Token}
use Rattle.c_syntax_written.specs.declared.token.Token.TheVariants as kinds
use Rattle.c_grammar.specs.Parts.{Scene, Part, Value}
use Rattle.c_grammar.specs.Classes.{Fits}
use Rattle.c_grammar.specs.Process.{Process, give, token, part, only}
use Rattle.c_grammar.specs.Ahead.{begins_spec, is_close, is_colon}
use Rattle.c_grammar.specs.Refused.{may_be_empty, is_brace, is_right_bracket}
use Rattle.c_grammar.specs.Choice.{choose, is_star, is_const_word, is_semicolon, is_assign, is_right_brace}
use Rattle.c_grammar.proofs.Table.{Leads, leads_token, leads_part, leads_behind, leads_only}
use Rattle.c_grammar.proofs.Sets.{class_of, word_class}
use Rattle.c_grammar.proofs.Firsts.{begins, spec_first, by_sign}
use Rattle.c_grammar.proofs.Own.{never}

-- What leads says, by what comes first.
abbrev pub Led : Scene → (p : Part) → Process (Value p) → List Placed → Type 0
Led w p q [] = ⊥
Led w p (give v) (t ∷ ts) = ⊥
Led w p (token n c k) (t ∷ ts) = Fits w c t.token
Led w p (part n s i k) (t ∷ ts) = (begins s i t.token ≡ true) ⊎ ((a : Value i) × (may_be_empty i ≡ true) × Leads begins w p (k a) (t ∷ ts))
Led w p (only f q) (t ∷ ts) = (f (t ∷ ts) ≡ true) × Leads begins w p q (t ∷ ts)

abbrev IsMore : List Placed → Type 0
IsMore [] = ⊥
IsMore (t ∷ ts) = Unit {0}

leads_more : {w : Scene} {p : Part} {q : Process (Value p)} {ts : List Placed} → Leads begins w p q ts → IsMore ts
leads_more (leads_token fits) = tt
leads_more (leads_part h) = tt
leads_more (leads_behind a h l) = leads_more l
leads_more (leads_only h l) = leads_more l

-- nothing leads where no token is
pub leads_nothing : {A : Type 0} {w : Scene} {p : Part} {q : Process (Value p)} → Leads begins w p q [] → A
leads_nothing l = absurd (leads_more l)

behind : (w s : Scene) (p i : Part) (k : Value i → Process (Value p)) (a : Value i) (ts : List Placed) → may_be_empty i ≡ true → Leads begins w p (k a) ts → IsMore ts → Led w p (part 0 s i k) ts
behind w s p i k a [] h l m = m
behind w s p i k a (t ∷ ts) h l m = inr (a, h, l)

passed : (w : Scene) (p : Part) (f : List Placed → Bool) (q : Process (Value p)) (ts : List Placed) → f ts ≡ true → Leads begins w p q ts → IsMore ts → Led w p (only f q) ts
passed w p f q [] h l m = m
passed w p f q (t ∷ ts) h l m = (h, l)

pub led : {w : Scene} {p : Part} {q : Process (Value p)} {ts : List Placed} → Leads begins w p q ts → Led w p q ts
led (leads_token fits) = fits
led (leads_part h) = inl h
led (leads_behind {w} {s} {p} {i} {k} {ts} a h l) = behind w s p i k a ts h l (leads_more l)
led (leads_only {w} {p} {f} {q} {ts} h l) = passed w p f q ts h l (leads_more l)

full_led : (w s : Scene) (p i : Part) (k : Value i → Process (Value p)) (t : Placed) (ts : List Placed) → may_be_empty i ≡ false → Led w p (part 0 s i k) (t ∷ ts) → begins s i t.token ≡ true
full_led w s p i k t ts e (inl h) = h
full_led w s p i k t ts e (inr h) = absurd (true≢false (sym h.1 ∙ e))

-- a first part that has a token begins with it
pub full_begins : {w s : Scene} {p i : Part} {k : Value i → Process (Value p)} {t : Placed} {ts : List Placed} → may_be_empty i ≡ false → Leads begins w p (part 0 s i k) (t ∷ ts) → begins s i t.token ≡ true
full_begins {w} {s} {p} {i} {k} {t} {ts} e l = full_led w s p i k t ts e (led l)

chain_led : (w s : Scene) (p i : Part) (make : Value i → Value p) (t : Placed) (ts : List Placed) → Led w p (part 0 s i (λ a. give (make a))) (t ∷ ts) → begins s i t.token ≡ true
chain_led w s p i make t ts (inl h) = h
chain_led w s p i make t ts (inr h) = absurd (led h.2)

-- so does a part that is the whole
pub chain_begins : {w s : Scene} {p i : Part} {make : Value i → Value p} {t : Placed} {ts : List Placed} → Leads begins w p (part 0 s i (λ a. give (make a))) (t ∷ ts) → begins s i t.token ≡ true
chain_begins {w} {s} {p} {i} {make} {t} {ts} l = chain_led w s p i make t ts (led l)

-- what the descent takes where the token is known
pub seen : (w : Scene) (p : Part) (t : Placed) (ts : List Placed) {k : Token} → t.token ≡ k → choose w p (t ∷ ts) ≡ choose w p (record { pos = t.pos; token = k } ∷ ts)
seen w p t ts e = ap (λ k. choose w p (record { pos = t.pos; token = k } ∷ ts)) e

pub pick : {A : Type 0} (x y : A) (b : Bool) → b ≡ true → (if b then x else y) ≡ x
pick x y b e = ap (λ b. if b then x else y) e

pub skip : {A : Type 0} (x y : A) (b : Bool) → b ≡ false → (if b then x else y) ≡ y
skip x y b e = ap (λ b. if b then x else y) e

pub not_close : (f : Token → Bool) → f (kinds.Punctuator signs.RightParenthesis) ≡ false → (t : Token) → f t ≡ true → is_close t ≡ false
not_close f e (kinds.Punctuator signs.RightParenthesis) h = absurd (true≢false (sym h ∙ e))
not_close f e _ h = refl

pub not_brace : (f : Token → Bool) → f (kinds.Punctuator signs.LeftBrace) ≡ false → (t : Token) → f t ≡ true → is_brace t ≡ false
not_brace f e (kinds.Punctuator signs.LeftBrace) h = absurd (true≢false (sym h ∙ e))
not_brace f e _ h = refl

pub not_right_brace : (f : Token → Bool) → f (kinds.Punctuator signs.RightBrace) ≡ false → (t : Token) → f t ≡ true → is_right_brace t ≡ false
not_right_brace f e (kinds.Punctuator signs.RightBrace) h = absurd (true≢false (sym h ∙ e))
not_right_brace f e _ h = refl

pub not_right_bracket : (f : Token → Bool) → f (kinds.Punctuator signs.RightBracket) ≡ false → (t : Token) → f t ≡ true → is_right_bracket t ≡ false
not_right_bracket f e (kinds.Punctuator signs.RightBracket) h = absurd (true≢false (sym h ∙ e))
not_right_bracket f e _ h = refl

pub not_star : (f : Token → Bool) → f (kinds.Punctuator signs.Star) ≡ false → (t : Token) → f t ≡ true → is_star t ≡ false
not_star f e (kinds.Punctuator signs.Star) h = absurd (true≢false (sym h ∙ e))
not_star f e _ h = refl

pub not_colon : (f : Token → Bool) → f (kinds.Punctuator signs.Colon) ≡ false → (t : Token) → f t ≡ true → is_colon t ≡ false
not_colon f e (kinds.Punctuator signs.Colon) h = absurd (true≢false (sym h ∙ e))
not_colon f e _ h = refl

pub not_semicolon : (f : Token → Bool) → f (kinds.Punctuator signs.Semicolon) ≡ false → (t : Token) → f t ≡ true → is_semicolon t ≡ false
not_semicolon f e (kinds.Punctuator signs.Semicolon) h = absurd (true≢false (sym h ∙ e))
not_semicolon f e _ h = refl

pub not_assign : (f : Token → Bool) → f (kinds.Punctuator signs.Assign) ≡ false → (t : Token) → f t ≡ true → is_assign t ≡ false
not_assign f e (kinds.Punctuator signs.Assign) h = absurd (true≢false (sym h ∙ e))
not_assign f e _ h = refl

pub not_const : (f : Token → Bool) → f (kinds.Keyword keywords.Const) ≡ false → (t : Token) → f t ≡ true → is_const_word t ≡ false
not_const f e (kinds.Keyword keywords.Const) h = absurd (true≢false (sym h ∙ e))
not_const f e _ h = refl

spec_word_class : (b : Bool) → spec_first (word_class b) ≡ true → b ≡ true
spec_word_class true h = refl
spec_word_class false h = h

-- a token of the classes that begin specs begins specs
pub spec_seen : (w : Scene) (t : Token) → spec_first (class_of w t) ≡ true → begins_spec w t ≡ true
spec_seen w (kinds.Word name) h = spec_word_class _ h
spec_seen w (kinds.Keyword k) h = h
spec_seen w _ h = never h

pub word_no_sign : (f : _) (b : Bool) → by_sign f (word_class b) ≡ false
word_no_sign f true = refl
word_no_sign f false = refl
