-- Characters one by one, and literals at the front of a text.
use Rattle.std.proofs.Common.{◌≡◌, ◌≢◌, ℕ, ◌+◌, ◌-◌, ◌<◌, ◌≤◌, ◌⊎◌, inl, inr, List, [], ◌∷◌, ◌++◌, map, Option, Some, None, length, get_or, take, drop, refl, sym, ap, ◌∙◌, subst, arith, length-append, length-drop, append_assoc}
use Rattle.std.proofs.Math.Seq.{take-append_seam}
use Rattle.std.proofs.lemmas.List.{map-append}
use Rattle.c_lexer.specs.Spelling.{escape_length, escape_value, IsEscape, Reads, here, plain, escape, IsLiteral, IsOneCharacter}
use Rattle.c_lexer.specs.Uncut.{IsOpenLiteral, IsBadEscape}
use Rattle.c_lexer.specs.Piece.{Stops, IsCharacter, IsClosedAt}
use Rattle.c_lexer.proofs.LiteralLemmas.{same_reads, swap_end, reads_then, stops_plain, stops_escape}

pub stops_empty : (q : ℕ) (t : List ℕ) → t ≡ [] → Stops q t
stops_empty q t e = subst (Stops q) (sym e) tt

pub stops_end : (q b : ℕ) (text t : List ℕ) → text ≡ b ∷ t → (b ≡ q) ⊎ (b ≡ 10) → Stops q text
stops_end q b text t e (inl h) = subst (Stops q) (sym e) (inl h)
stops_end q b text t e (inr h) = subst (Stops q) (sym e) (inr (inl h))

pub stops_cut : (q b : ℕ) (text t : List ℕ) → text ≡ b ∷ t → b ≡ 92 → (IsEscape t → ⊥) → Stops q text
stops_cut q b text t e h n = subst (Stops q) (sym e) (inr (inr (h, n)))

pub reads_plain : (q b : ℕ) (text t : List ℕ) → text ≡ b ∷ t → ((b ≡ q) ⊎ (b ≡ 10) → ⊥) → b ≢ 92 → IsCharacter q text (Some b) t
reads_plain q b text t e n m = record {
  reads = subst (λ v. Reads q v (Some b ∷ []) t) (sym e) (plain (λ h. n (inl h)) m (λ h. n (inr h)) here);
  shorter = omega (arith, ap length e);
}

pub reads_escape : (q b : ℕ) (text t : List ℕ) (len : ℕ) (v : Option ℕ) (after : List ℕ) → text ≡ b ∷ t → b ≡ 92 → IsEscape t → len ≡ escape_length t → v ≡ escape_value t → after ≡ drop len t → IsCharacter q text v after
reads_escape q b text t len v after e h i l w a =
    let f : text ≡ 92 ∷ t = e ∙ ap (λ k. k ∷ t) h in
    let g : drop (escape_length t) t ≡ after = sym (a ∙ ap (λ k. drop k t) l) in
    let r : Reads q (92 ∷ t) (escape_value t ∷ []) after = escape i (subst (λ z. Reads q z [] after) (sym g) here) in
    record {
      reads = subst (λ z. Reads q z (v ∷ []) after) (sym f) (subst (λ z. Reads q (92 ∷ t) (z ∷ []) after) (sym w) r);
      shorter = omega (arith, ap length f, ap length a, length-drop len t);
    }

pub more_read : (q : ℕ) (t l m : List ℕ) (v : Option ℕ) → ((vs : List (Option ℕ)) × Reads q t vs l) → IsCharacter q l v m → (vs : List (Option ℕ)) × Reads q t vs m
more_read q t l m v h c = (h.0 ++ v ∷ [], reads_then h.1 c.reads)

head_is : (q : ℕ) (t : List ℕ) → 0 < length t → get_or t 0 0 ≡ q → t ≡ q ∷ drop 1 t
head_is q [] l e = absurd (omega arith)
head_is q (b ∷ t) l e = ap (λ k. k ∷ t) e

pub closed_at : (q : ℕ) (text rest : List ℕ) (n : ℕ) → 0 < length text → get_or text 0 0 ≡ q → ((vs : List (Option ℕ)) × Reads q (drop 1 text) vs rest) → 0 < length rest → get_or rest 0 0 ≡ q → n ≡ length text - length rest + 1 → IsClosedAt q text n
closed_at q text rest n l e r m f g =
    let s = swap_end r.1 q (drop 1 rest) (head_is q rest m f) in
    let body : List ℕ = s.front ++ q ∷ [] in
    let a : text ≡ q ∷ (s.front ++ q ∷ drop 1 rest) = head_is q text l e ∙ ap (λ v. q ∷ v) s.is in
    let b : text ≡ (q ∷ body) ++ drop 1 rest = a ∙ ap (λ v. q ∷ v) (sym (append_assoc s.front (q ∷ []) (drop 1 rest))) in
    let k : length text ≡ length (q ∷ body) + length (drop 1 rest) = ap length b ∙ length-append (q ∷ body) (drop 1 rest) in
    let c : n ≡ length (q ∷ body) = omega (arith, k, length-drop 1 rest) in
    let d : take n text ≡ q ∷ body = ap (λ z. take z text) c ∙ ap (take (length (q ∷ body))) b ∙ take-append_seam (q ∷ body) (drop 1 rest) in
    record {
      some = omega (arith, c, length-append s.front (q ∷ []));
      within = omega (arith, c, k);
      vs = r.0;
      literal = (body, d, s.reads []);
    }

pub open_at : (q : ℕ) (text rest : List ℕ) → 0 < length text → get_or text 0 0 ≡ q → q ≢ 92 → ((vs : List (Option ℕ)) × Reads q (drop 1 text) vs rest) → Stops q rest → ((0 < length rest) × (get_or rest 0 0 ≡ q) → ⊥) → IsOpenLiteral q text
open_at q text rest l e n r h none = record {
  some = l;
  first = e;
  open_end = λ s t vs f i.
      let w = swap_end i.2 q [] refl in
      let a : text ≡ q ∷ (w.front ++ q ∷ t) = f ∙ ap (λ v. v ++ t) (i.1 ∙ ap (λ v. q ∷ v) w.is) ∙ ap (λ v. q ∷ v) (append_assoc w.front (q ∷ []) t) in
      let b : drop 1 text ≡ w.front ++ q ∷ t = ap (drop 1) a in
      let d : Reads q (drop 1 text) vs (q ∷ t) = subst (λ v. Reads q v vs (q ∷ t)) (sym b) (w.reads t) in
      let j : rest ≡ q ∷ t = (same_reads n r.1 h d (inl refl)).1 in
      none (omega (arith, ap length j), ap (λ v. get_or v 0 0) j);
}

-- the same of a literal on its own
pub all_characters : (s rest : List ℕ) (us : List ℕ) → ((vs : List (Option ℕ)) × IsLiteral 34 vs s) → Reads 34 (drop 1 s) (map Some us) rest → Stops 34 rest → IsLiteral 34 (map Some us) s
all_characters s rest us h r st =
    let b : drop 1 s ≡ h.1.0 = ap (drop 1) h.1.1 in
    let q : Reads 34 h.1.0 (map Some us) rest = subst (λ v. Reads 34 v (map Some us) rest) b r in
    let j : rest ≡ 34 ∷ [] = (same_reads (λ e. absurd (omega arith)) q st h.1.2 (inl refl)).1 in
    (h.1.0, h.1.1, subst (λ v. Reads 34 h.1.0 (map Some us) v) j q)

abbrev pub NoValue : ℕ → List ℕ → Type 0
NoValue q t = (e : List ℕ) × (t ≡ 92 ∷ e) × IsEscape e × (escape_value e ≡ None)

no_value : {q : ℕ} {t l : List ℕ} {vs : List (Option ℕ)} → Reads q t vs l → (v : Option ℕ) → vs ≡ v ∷ [] → v ≡ None → NoValue q t
no_value here v e f = absurd (cc)
no_value (plain {b = b} a c d r) v e f = let g : Some b ≡ None = cc in absurd (cc)
no_value (escape {text = t} i r) v e f = (t, refl, i, cc)

pub bad_escape : (s rest after : List ℕ) (us : List ℕ) (v : Option ℕ) (n : ℕ) → ((vs : List (Option ℕ)) × IsLiteral 34 vs s) → Reads 34 (drop 1 s) (map Some us) rest → IsCharacter 34 rest v after → v ≡ None → n ≡ length s - length rest → length rest < length s → (n ≤ length s) × IsBadEscape 34 s n
bad_escape s rest after us v n h r c e f l =
    let w = no_value c.reads v refl e in (
      omega arith,
      record {
        body = drop 1 s;
        is = h.1.1 ∙ ap (λ b. 34 ∷ b) (sym (ap (drop 1) h.1.1));
        before = us;
        escape = w.0;
        reads = subst (λ z. Reads 34 (drop 1 s) (map Some us) z) w.1 r;
        an_escape = w.2;
        no_value = w.3;
        place = omega (arith, ap length w.1);
      },
    )

pub one_more : (s rest after : List ℕ) (us ws : List ℕ) (b : ℕ) (v : Option ℕ) → Reads 34 s (map Some us) rest → IsCharacter 34 rest v after → v ≡ Some b → ws ≡ us ++ b ∷ [] → Reads 34 s (map Some ws) after
one_more s rest after us ws b v r c e f =
    let g : map Some us ++ v ∷ [] ≡ map Some ws = ap (λ z. map Some us ++ z ∷ []) e ∙ sym (map-append Some us (b ∷ [])) ∙ ap (map Some) (sym f) in
    subst (λ z. Reads 34 s z after) g (reads_then r c.reads)

-- one character
nothing_read : {q : ℕ} {t l : List ℕ} {vs : List (Option ℕ)} → Reads q t vs l → vs ≡ [] → t ≡ l
nothing_read here e = refl
nothing_read (plain a c d r) e = absurd (cc)
nothing_read (escape i r) e = absurd (cc)

same_one : {q : ℕ} {t l m : List ℕ} {vs ws : List (Option ℕ)} → Reads q t vs l → Reads q t ws m → (v w : Option ℕ) → vs ≡ v ∷ [] → ws ≡ w ∷ [] → l ≡ m
same_one here s v w e f = absurd (cc)
same_one (plain a c d r) here v w e f = absurd (cc)
same_one (plain {vs = vs} a c d r) (plain {vs = ws} g h i s) v w e f = let x : vs ≡ [] = cc in let y : ws ≡ [] = cc in sym (nothing_read r x) ∙ nothing_read s y
same_one (plain a c d r) (escape i s) v w e f = absurd (c refl)
same_one (escape i r) here v w e f = absurd (cc)
same_one (escape i r) (plain a c d s) v w e f = absurd (c refl)
same_one (escape {vs = vs} i r) (escape {vs = ws} j s) v w e f = let x : vs ≡ [] = cc in let y : ws ≡ [] = cc in sym (nothing_read r x) ∙ nothing_read s y

stopped : {q : ℕ} {t l : List ℕ} {vs : List (Option ℕ)} → Reads q t vs l → (v : Option ℕ) → vs ≡ v ∷ [] → q ≢ 92 → Stops q t → ⊥
stopped here v e n h = absurd (cc)
stopped {q} (plain {b = b} {text = t} a c d r) v e n h = stops_plain q b t a c d h
stopped {q} (escape {text = t} i r) v e n h = stops_escape q t n i h

own_body : (s : List ℕ) (v : Option ℕ) → IsOneCharacter v s → Reads 39 (drop 1 s) (v ∷ []) (39 ∷ [])
own_body s v h = subst (λ b. Reads 39 b (v ∷ []) (39 ∷ [])) (sym (ap (drop 1) h.literal.1)) h.literal.2

pub no_character : (s : List ℕ) → Stops 39 (drop 1 s) → (v : Option ℕ) → IsOneCharacter v s → ⊥
no_character s st v h = stopped (own_body s v h) v refl (λ e. absurd (omega arith)) st

pub no_quote : (s after : List ℕ) (w : Option ℕ) → IsCharacter 39 (drop 1 s) w after → (after ≡ 39 ∷ [] → ⊥) → (v : Option ℕ) → IsOneCharacter v s → ⊥
no_quote s after w c n v h = n (same_one c.reads (own_body s v h) w v refl refl)

pub not_low : (s : List ℕ) → (((k : ℕ) → k < length s → get_or s k 0 ≤ 127) → ⊥) → (v : Option ℕ) → IsOneCharacter v s → ⊥
not_low s n v h = n h.low

pub one_of : (s after : List ℕ) (v w : Option ℕ) → ((vs : List (Option ℕ)) × IsLiteral 39 vs s) → IsCharacter 39 (drop 1 s) v after → after ≡ 39 ∷ [] → ((k : ℕ) → k < length s → get_or s k 0 ≤ 127) → v ≡ w → IsOneCharacter w s
one_of s after v w h c e l f =
    let b : drop 1 s ≡ h.1.0 = ap (drop 1) h.1.1 in
    let r : Reads 39 h.1.0 (v ∷ []) (39 ∷ []) = subst (λ z. Reads 39 h.1.0 (v ∷ []) z) e (subst (λ z. Reads 39 z (v ∷ []) after) b c.reads) in
    record { literal = (h.1.0, h.1.1, subst (λ z. Reads 39 h.1.0 (z ∷ []) (39 ∷ [])) f r); low = l }

pub literal_some : (s : List ℕ) (q : ℕ) → ((vs : List (Option ℕ)) × IsLiteral q vs s) → 0 < length s
literal_some s q h = omega (arith, ap length h.1.1)
