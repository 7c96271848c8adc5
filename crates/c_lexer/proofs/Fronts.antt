-- A front that grows at its end.
use Rattle.std.proofs.Common.{◌≡◌, ℕ, ◌-◌, ◌<◌, ◌≤◌, ◌⊎◌, inl, inr, List, [], ◌∷◌, ◌++◌, length, get_or, take, drop, refl, sym, ap, ◌∙◌, subst, arith, append_assoc, length-append}
use Rattle.std.proofs.Math.Seq.{take-append_seam}
use Rattle.std.proofs.lemmas.List.{take-append-drop}
use Rattle.c_syntax_written.specs.declared.place.Pos.{Pos}
use Rattle.c_syntax_written.specs.declared.token.Token.{Token}
use Rattle.c_syntax_written.specs.declared.token.Placed.{Placed}
use Rattle.c_lexer.specs.Cut.{Front, here, white, token, IsWhite, IsNext, moved_of, start_of, IsCut}
use Rattle.c_lexer.specs.Piece.{IsPiece, HashReason}
use Rattle.c_lexer.specs.Uncut.{Refuses, IsRefusedAt, IsUncut, TellsUncut, error_at}
use Rattle.c_lexer.specs.declared.reason.Reason.{Reason}
use Rattle.c_lexer.specs.declared.reason.Reason.TheVariants as reasons
use Rattle.c_lexer.specs.declared.cut.LexError.{LexError}
use Rattle.c_lexer.specs.declared.cut.LexError.TheVariants as errors
use Rattle.c_syntax_written.specs.declared.token.Tokens.{Tokens}
use Rattle.c_lexer.proofs.PieceLemmas.{hash_nothing}
use Rattle.c_lexer.proofs.Laws.{uncut_of, same_refused}
use Rattle.c_lexer.specs.declared.piece.Piece.{Piece}
use Rattle.c_lexer.specs.declared.piece.Piece.TheVariants as pieces

then_white : {text last : List ℕ} {at to : Pos} {ts : List Placed} → Front text at ts last to → (s rest : List ℕ) → last ≡ s ++ rest → IsWhite s rest → Front text at ts rest (moved_of to s)
then_white here s rest e w = white s rest e w here
then_white (white a more f v d) s rest e w = white a more f v (then_white d s rest e w)
then_white (token a more f n d) s rest e w = token a more f n (then_white d s rest e w)

then_token : {text last : List ℕ} {at to : Pos} {ts : List Placed} → Front text at ts last to → (s rest : List ℕ) (t : Token) → last ≡ s ++ rest → IsNext s rest t → Front text at (ts ++ record { pos = to; token = t } ∷ []) rest (moved_of to s)
then_token here s rest t e n = token s rest e n here
then_token (white a more f v d) s rest t e n = white a more f v (then_token d s rest t e n)
then_token (token a more f m d) s rest t e n = token a more f m (then_token d s rest t e n)

pub next_white : {text last : List ℕ} {at to : Pos} {ts : List Placed} → Front text at ts last to → (p : Piece) (n : ℕ) → IsPiece last p → p ≡ pieces.White n → (s rest : List ℕ) (then : Pos) → s ≡ take n last → rest ≡ drop n last → then ≡ moved_of to s → Front text at ts rest then
next_white {text} {last} {at} {to} {ts} d p n h e s rest then es er et =
    let w = (subst (λ v. IsPiece last v) e h).2 in
    subst (λ v. Front text at ts rest v) (sym et) (then_white d s rest (sym (take-append-drop n last) ∙ ap (λ v. v ++ drop n last) (sym es) ∙ ap (λ v. s ++ v) (sym er)) (subst (λ v. IsWhite s v) (sym er) (subst (λ v. IsWhite v (drop n last)) (sym es) w)))

pub next_token : {text last : List ℕ} {at to : Pos} {ts : List Placed} → Front text at ts last to → (p : Piece) (t : Token) (n : ℕ) → IsPiece last p → p ≡ pieces.Token t n → (s rest : List ℕ) (then : Pos) → s ≡ take n last → rest ≡ drop n last → then ≡ moved_of to s → Front text at (ts ++ record { pos = to; token = t } ∷ []) rest then
next_token {text} {last} {at} {to} {ts} d p t n h e s rest then es er et =
    let w = (subst (λ v. IsPiece last v) e h).2 in
    subst (λ v. Front text at (ts ++ record { pos = to; token = t } ∷ []) rest v) (sym et) (then_token d s rest t (sym (take-append-drop n last) ∙ ap (λ v. v ++ drop n last) (sym es) ∙ ap (λ v. s ++ v) (sym er)) (subst (λ v. IsNext s v t) (sym er) (subst (λ v. IsNext v (drop n last) t) (sym es) w)))

-- what stands before the rest of a text
pub front_before : {text last : List ℕ} {at to : Pos} {ts : List Placed} → Front text at ts last to → (before : List ℕ) × (text ≡ before ++ last)
front_before here = ([], refl)
front_before {last = last} (white s rest e w d) = let b = front_before d in (s ++ b.0, e ∙ ap (λ v. s ++ v) b.1 ∙ sym (append_assoc s b.0 last))
front_before {last = last} (token s rest e n d) = let b = front_before d in (s ++ b.0, e ∙ ap (λ v. s ++ v) b.1 ∙ sym (append_assoc s b.0 last))

pub refused_here : (file : ℕ) (text rest : List ℕ) (ts : List Placed) (at pos : Pos) (reason : Reason) (n : ℕ) → Front text (start_of file) ts rest at → ((before : List ℕ) → Refuses before rest reason n) → pos ≡ moved_of at (take n rest) → IsRefusedAt file text pos reason
refused_here file text rest ts at pos reason n f r e =
    let b = front_before f in
    record { ts = ts; before = b.0; rest = rest; at = at; n = n; is = b.1; front = f; refuses = r b.0; place = e }

stays : (at : Pos) (rest : List ℕ) → at ≡ moved_of at (take 0 rest)
unfolding moved_of
stays at [] = refl
stays at (b ∷ rest) = refl

hash_refuses : (before rest : List ℕ) (reason : Reason) → 0 < length rest → get_or rest 0 0 ≡ 35 → HashReason before reason → Refuses before rest reason 0
hash_refuses before rest reasons.BadByte l e h = inl (hash_nothing before rest l e h, refl)
hash_refuses before rest reasons.Unterminated l e h = absurd h
hash_refuses before rest reasons.BadNumber l e h = absurd h
hash_refuses before rest reasons.TooWide l e h = absurd h
hash_refuses before rest reasons.BadEscape l e h = absurd h
hash_refuses before rest reasons.Directive l e h = (record { some = l; hash = e; opens = h }, refl)

before_is : (text before rest : List ℕ) → text ≡ before ++ rest → take (length text - length rest) text ≡ before
before_is text before rest e =
    let n : length text - length rest ≡ length before = omega (arith, ap length e, length-append before rest) in
    ap (λ k. take k text) n ∙ ap (take (length before)) e ∙ take-append_seam before rest

pub hash_here : (file : ℕ) (text rest front : List ℕ) (ts : List Placed) (at pos : Pos) (reason : Reason) → Front text (start_of file) ts rest at → 0 < length rest → get_or rest 0 0 ≡ 35 → front ≡ take (length text - length rest) text → HashReason front reason → pos ≡ at → IsRefusedAt file text pos reason
hash_here file text rest front ts at pos reason f l e g h p =
    let b = front_before f in
    let same : front ≡ b.0 = g ∙ before_is text b.0 rest b.1 in
    record { ts = ts; before = b.0; rest = rest; at = at; n = 0; is = b.1; front = f; refuses = hash_refuses b.0 rest reason l e (subst (λ v. HashReason v reason) same h); place = p ∙ stays at rest }

pub told : (file : ℕ) (text : List ℕ) (pos : Pos) (reason : Reason) (e : LexError) → IsRefusedAt file text pos reason → e ≡ error_at reason pos → TellsUncut file text e
told file text pos reason e h f = inr (pos, reason, f, uncut_of file text pos reason h)

pub same_told : (file : ℕ) (text : List ℕ) (pos : Pos) (reason : Reason) (e : LexError) → IsRefusedAt file text pos reason → e ≡ error_at reason pos → (q : Pos) (b : Reason) → IsUncut file text q b → (e ≡ error_at b q) ⊎ (e ≡ errors.NoMemory)
same_told file text pos reason e h f q b u =
    let j = same_refused file text pos q reason b h u.refused in
    inl (f ∙ ap (λ z. error_at z pos) j.1 ∙ ap (λ z. error_at b z) j.0)

pub whole_cut : (file : ℕ) (text rest : List ℕ) (ts : List Placed) (at : Pos) (v : Tokens) → Front text (start_of file) ts rest at → rest ≡ [] → v.list ≡ ts → v.marks ≡ [] → v.end ≡ at → IsCut file text v
whole_cut file text rest ts at v f e l m n = record {
  front = subst (λ z. Front text (start_of file) z [] v.end) (sym l) (subst (λ z. Front text (start_of file) ts [] z) (sym n) (subst (λ z. Front text (start_of file) ts z at) e f));
  marks = m;
}

pub rest_short : {text last : List ℕ} {at to : Pos} {ts : List Placed} → Front text at ts last to → length last ≤ length text
rest_short {last = last} f = let b = front_before f in omega (arith, ap length b.1, length-append b.0 last)

pub refused_piece : (file : ℕ) (text rest front : List ℕ) (ts : List Placed) (at pos : Pos) (reason : Reason) (n : ℕ) (p : Piece) → Front text (start_of file) ts rest at → IsPiece rest p → p ≡ pieces.Refused reason n → front ≡ take n rest → pos ≡ moved_of at front → IsRefusedAt file text pos reason
refused_piece file text rest front ts at pos reason n p f h e g m = refused_here file text rest ts at pos reason n f (subst (λ v. IsPiece rest v) e h).1 (m ∙ ap (moved_of at) g)

pub hash_piece : (file : ℕ) (text rest front : List ℕ) (ts : List Placed) (at : Pos) (reason : Reason) (p : Piece) → Front text (start_of file) ts rest at → IsPiece rest p → p ≡ pieces.Hash → front ≡ take (length text - length rest) text → HashReason front reason → IsRefusedAt file text at reason
hash_piece file text rest front ts at reason p f h e g r = let k = subst (λ v. IsPiece rest v) e h in hash_here file text rest front ts at at reason f k.0 k.1 g r refl
