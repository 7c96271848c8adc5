-- A text is cut in one way or refused at one place, for one reason.
use Rattle.std.proofs.Common.{◌≡◌, ℕ, ◌<◌, ◌⊎◌, inl, inr, List, [], ◌∷◌, ◌++◌, length, take, refl, sym, ap, ◌∙◌, subst, arith, length-append}
use Rattle.std.proofs.lemmas.List.{append_cancel_left, append-nil}
use Rattle.c_syntax_written.specs.declared.place.Pos.{Pos}
use Rattle.c_syntax_written.specs.declared.token.Placed.{Placed}
use Rattle.c_syntax_written.specs.declared.token.Tokens.{Tokens}
use Rattle.c_lexer.specs.declared.reason.Reason.{Reason}
use Rattle.c_lexer.specs.Cut.{IsToken, moved_of, Front, here, white, token, IsCut, IsBefore}
use Rattle.c_lexer.specs.Uncut.{Refuses, IsRefusedAt, IsUncut, row_of}
use Rattle.c_lexer.proofs.Forms.{same_split, form_long}
use Rattle.c_lexer.proofs.Whites.{same_white, white_long}
use Rattle.c_lexer.proofs.Refusals.{Cause, nothing, spliced, open_comment, open_literal, directive, malformed, cause, not_both, same_longest, refused_white, refused_token, same_cause, spliced_begins}
use Rattle.c_lexer.proofs.Tokens.{same_token}

-- the further of two fronts goes on from the other
abbrev pub Further : List ℕ → Pos → List Placed → List Placed → List ℕ → Pos → Type 0
Further last to ts us end tu = (ws : List Placed) × Front last to ws end tu × (us ≡ ts ++ ws)

pub compare : {text last end : List ℕ} {at to tu : Pos} {ts us : List Placed} → Front text at ts last to → Front text at us end tu → Further last to ts us end tu ⊎ Further end tu us ts last to
compare {us = us} here d = inl (us, d, refl)
compare {ts = ts} (white s r e w d) here = inr (ts, white s r e w d, refl)
compare {ts = ts} (token s r e n d) here = inr (ts, token s r e n d, refl)
compare {end = end} {at = at} {tu = tu} {us = us} (white s r e w d) (white u v f x k) =
    let a : s ≡ u = same_white s u r v (sym e ∙ f) w x in
    let b : r ≡ v = append_cancel_left s r v (sym e ∙ f ∙ ap (λ z. z ++ v) (sym a)) in
    compare d (subst (λ z. Front z (moved_of at s) us end tu) (sym b) (subst (λ z. Front v (moved_of at z) us end tu) (sym a) k))
compare (white s r e w d) (token u v f n k) = absurd (not_both s u r v (sym e ∙ f) w n.is_longest)
compare (token u v f n k) (white s r e w d) = absurd (not_both s u r v (sym e ∙ f) w n.is_longest)
compare {last = last} {end = end} {at = at} {to = to} {tu = tu} (token {ts = ss} {t = t} s r e n d) (token {ts = us} {t = q} u v f m k) =
    let a : s ≡ u = same_longest s u r v (sym e ∙ f) n.is_longest m.is_longest in
    let b : r ≡ v = append_cancel_left s r v (sym e ∙ f ∙ ap (λ z. z ++ v) (sym a)) in
    let c : t ≡ q = same_token s t q n.spells (subst (λ z. IsToken z q) (sym a) m.spells) in
    elim (compare d (subst (λ z. Front z (moved_of at s) us end tu) (sym b) (subst (λ z. Front v (moved_of at z) us end tu) (sym a) k))) [
      | inl h ↦ inl (h.0, h.1, ap (λ z. record { pos = at; token = z } ∷ us) (sym c) ∙ ap (λ z. record { pos = at; token = t } ∷ z) h.2)
      | inr h ↦ inr (h.0, h.1, ap (λ z. record { pos = at; token = z } ∷ ss) c ∙ ap (λ z. record { pos = at; token = q } ∷ z) h.2)
    ]

empty_front : (s r : List ℕ) → [] ≡ s ++ r → 0 < length s → ⊥
empty_front s r e h = omega (arith, length-append s r, ap length e)

-- nothing goes on from the end
at_end : {text last : List ℕ} {at to : Pos} {ws : List Placed} → Front text at ws last to → text ≡ [] → (ws ≡ []) × (last ≡ []) × (at ≡ to)
at_end here e = (refl, e, refl)
at_end (white s r f w d) e = absurd (empty_front s r (sym e ∙ f) (white_long s r w))
at_end (token s r f n d) e = absurd (empty_front s r (sym e ∙ f) (form_long s n.is_longest.form))

-- nothing goes on from a place that is refused
at_refusal : {text last : List ℕ} {at to : Pos} {ws : List Placed} → Front text at ws last to → (before : List ℕ) (reason : Reason) (n : ℕ) → Cause before text reason n → (text ≡ last) × (at ≡ to)
at_refusal here before reason n c = (refl, refl)
at_refusal {text} (white s r f w d) before reason n c = absurd (refused_white before text s r reason n c f w)
at_refusal {text} (token {t = t} s r f x d) before reason n c = absurd (refused_token before text s r reason n t c f x)

append_end : (ts ws us : List Placed) → us ≡ ts ++ ws → ws ≡ [] → ts ≡ us
append_end ts ws us e f = sym (e ∙ ap (λ v. ts ++ v) f ∙ append-nil ts)

whole : (v w : Tokens) → v.list ≡ w.list → v.marks ≡ w.marks → v.end ≡ w.end → v ≡ w
whole v w a b c =
    ap (λ z. record { list = z; marks = v.marks; end = v.end }) a
    ∙ ap (λ z. record { list = w.list; marks = z; end = v.end }) b
    ∙ ap (λ z. record { list = w.list; marks = w.marks; end = z }) c

-- two cuts are one
pub same_cut : (file : ℕ) (text : List ℕ) (v w : Tokens) → IsCut file text v → IsCut file text w → v ≡ w
same_cut file text v w c d =
    elim (compare c.front d.front) [
      | inl h ↦ (let e = at_end h.1 refl in whole v w (append_end v.list h.0 w.list h.2 e.0) (c.marks ∙ sym d.marks) e.2)
      | inr h ↦ (let e = at_end h.1 refl in whole v w (sym (append_end w.list h.0 v.list h.2 e.0)) (c.marks ∙ sym d.marks) (sym e.2))
    ]

-- two refusals are at one place of the text
same_rest : (text rest more : List ℕ) (at to : Pos) (before after : List ℕ) (a b : Reason) (n m : ℕ) → text ≡ before ++ rest → text ≡ after ++ more → rest ≡ more → at ≡ to → Refuses before rest a n → Refuses after more b m → (moved_of at (take n rest) ≡ moved_of to (take m more)) × (a ≡ b)
same_rest text rest more at to before after a b n m e f g h r q =
    let l : length before ≡ length after = omega (arith, ap length e, ap length f, ap length g, length-append before rest, length-append after more) in
    let s : before ≡ after = same_split before after rest more (sym e ∙ f) l in
    let c : Cause before rest b m = subst (λ z. Cause before z b m) (sym g) (subst (λ z. Cause z more b m) (sym s) (cause after more b m q)) in
    let j = same_cause before rest a b n m (cause before rest a n r) c in
    (ap (λ z. moved_of z (take n rest)) h ∙ ap (λ z. moved_of to (take z rest)) j.0 ∙ ap (λ z. moved_of to (take m z)) g, j.1)

pub same_refused : (file : ℕ) (text : List ℕ) (p q : Pos) (a b : Reason) → IsRefusedAt file text p a → IsRefusedAt file text q b → (p ≡ q) × (a ≡ b)
same_refused file text p q a b h i =
    elim (compare h.front i.front) [
      | inl f ↦
          (let s = at_refusal f.1 h.before a h.n (cause h.before h.rest a h.n h.refuses) in
          let j = same_rest text h.rest i.rest h.at i.at h.before i.before a b h.n i.n h.is i.is s.0 s.1 h.refuses i.refuses in
          (h.place ∙ j.0 ∙ sym i.place, j.1))
      | inr f ↦
          (let s = at_refusal f.1 i.before b i.n (cause i.before i.rest b i.n i.refuses) in
          let j = same_rest text h.rest i.rest h.at i.at h.before i.before a b h.n i.n h.is i.is (sym s.0) (sym s.1) h.refuses i.refuses in
          (h.place ∙ j.0 ∙ sym i.place, j.1))
    ]

cause_some : (before text : List ℕ) (reason : Reason) (n : ℕ) → Cause before text reason n → 0 < length text
cause_some before text reason n (nothing h) = h.some
cause_some before text reason n (spliced l) = omega (arith, (spliced_begins text n l).long)
cause_some before text reason n (open_comment o) = omega (arith, o.long)
cause_some before text reason n (open_literal q h o) = o.some
cause_some before text reason n (directive d) = d.some
cause_some before text reason n (malformed s r e l m) = omega (arith, length-append s r, ap length e, form_long s l.form)

-- a text that is refused has no cut
pub refused_cut : (file : ℕ) (text : List ℕ) (p : Pos) (a : Reason) (v : Tokens) → IsRefusedAt file text p a → IsCut file text v → ⊥
refused_cut file text p a v h c =
    let k = cause h.before h.rest a h.n h.refuses in
    let l = cause_some h.before h.rest a h.n k in
    elim (compare h.front c.front) [
      | inl f ↦ omega (arith, ap length (at_refusal f.1 h.before a h.n k).0, l)
      | inr f ↦ omega (arith, ap length (at_end f.1 refl).1, l)
    ]

not_before : (p q : Pos) → p ≡ q → IsBefore p q → ⊥
not_before p q e b = let l : p.line ≡ q.line = ap (λ v. v.line) e in let c : p.col ≡ q.col = ap (λ v. v.col) e in grind arith

-- a refusal is the first
pub uncut_of : (file : ℕ) (text : List ℕ) (p : Pos) (a : Reason) → IsRefusedAt file text p a → IsUncut file text p a
uncut_of file text p a h = record {
  refused = h;
  first_place = λ q b i. not_before q p (sym (same_refused file text p q a b h i).0);
  first_row = λ b i. let e : row_of a ≡ row_of b = ap row_of (same_refused file text p p a b h i).1 in omega arith;
}

pub same_uncut : (file : ℕ) (text : List ℕ) (p q : Pos) (a b : Reason) → IsUncut file text p a → IsUncut file text q b → (p ≡ q) × (a ≡ b)
same_uncut file text p q a b h i = same_refused file text p q a b h.refused i.refused

pub cut_no_uncut : (file : ℕ) (text : List ℕ) (v : Tokens) (p : Pos) (a : Reason) → IsCut file text v → IsUncut file text p a → ⊥
cut_no_uncut file text v p a c h = refused_cut file text p a v h.refused c
