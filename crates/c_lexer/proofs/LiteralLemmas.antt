-- Characters of literals.
use Rattle.std.proofs.Common.{◌≡◌, ◌≢◌, ℕ, ◌+◌, ◌<◌, ◌≤◌, ◌⊎◌, inl, inr, List, [], ◌∷◌, ◌++◌, map, Option, Some, None, length, get_or, take, drop, refl, sym, ap, ◌∙◌, subst, arith, length-drop, append_assoc, ◌==◌, if◌then◌else◌}
use Rattle.std.proofs.lemmas.List.{take-append-drop, length-take, length-take-le}
use Rattle.std.proofs.Math.Seq.{drop-append_seam}
use Rattle.std.proofs.lemmas.Bool.{cases_lt, cases_eq}
use borrow.Author.Tests.{lt-ltb, le-ltb, eq-eqb, ne_eqb}
use Rattle.c_lexer.specs.Spelling.{digits_of, byte_of, octal_digits, simple_escape, escape_length, escape_value, IsEscape, Reads, here, plain, escape}
use Rattle.c_lexer.specs.Piece.{Stops}
use Rattle.c_lexer.proofs.DigitLemmas.{digits_short, BeginAlike, digits_alike, few_digits_alike}

pub stops_plain : (q b : ℕ) (t : List ℕ) → b ≢ q → b ≢ 92 → b ≢ 10 → Stops q (b ∷ t) → ⊥
stops_plain q b t a c d (inl e) = a e
stops_plain q b t a c d (inr (inl e)) = d e
stops_plain q b t a c d (inr (inr e)) = c e.0

pub stops_escape : (q : ℕ) (t : List ℕ) → q ≢ 92 → IsEscape t → Stops q (92 ∷ t) → ⊥
stops_escape q t a i (inl e) = a (sym e)
stops_escape q t a i (inr (inl e)) = absurd (omega arith)
stops_escape q t a i (inr (inr e)) = e.1 i

-- two readings of one text that end where no character stands are one
pub same_reads : {q : ℕ} {t l m : List ℕ} {vs ws : List (Option ℕ)} → q ≢ 92 → Reads q t vs l → Stops q l → Reads q t ws m → Stops q m → (vs ≡ ws) × (l ≡ m)
same_reads n here h here i = (refl, refl)
same_reads {q} n here h (plain {b = x} {text = t} a b c r) i = absurd (stops_plain q x t a b c h)
same_reads {q} n here h (escape {text = t} e r) i = absurd (stops_escape q t n e h)
same_reads {q} n (plain {b = x} {text = t} a b c r) h here i = absurd (stops_plain q x t a b c i)
same_reads n (plain {b = x} a b c r) h (plain d e f s) i = let j = same_reads n r h s i in (ap (λ v. Some x ∷ v) j.0, j.1)
same_reads n (plain a b c r) h (escape e s) i = absurd (b refl)
same_reads {q} n (escape {text = t} e r) h here i = absurd (stops_escape q t n e i)
same_reads n (escape e r) h (plain a b c s) i = absurd (b refl)
same_reads n (escape {text = t} e r) h (escape f s) i = let j = same_reads n r h s i in (ap (λ v. escape_value t ∷ v) j.0, j.1)

-- the characters before the first that is not allowed end in one place
abbrev pub Halts : ℕ → List ℕ → Type 0
Halts q l = Stops q l ⊎ ((e : List ℕ) × (l ≡ 92 ∷ e) × (escape_value e ≡ None))

halts_plain : (q b : ℕ) (t : List ℕ) → b ≢ q → b ≢ 92 → b ≢ 10 → Halts q (b ∷ t) → ⊥
halts_plain q b t a c d (inl h) = stops_plain q b t a c d h
halts_plain q b t a c d (inr h) = c (ap (λ l. get_or l 0 0) h.1)

halts_escape : (q : ℕ) (t : List ℕ) (vs ws : List (Option ℕ)) (us : List ℕ) → q ≢ 92 → IsEscape t → vs ≡ escape_value t ∷ ws → vs ≡ map Some us → Halts q (92 ∷ t) → ⊥
halts_escape q t vs ws us n i e f (inl h) = stops_escape q t n i h
halts_escape q t vs ws [] n i e f (inr h) = let g : escape_value t ∷ ws ≡ [] = sym e ∙ f in absurd (omega (arith, ap length g))
halts_escape q t vs ws (u ∷ us) n i e f (inr h) =
    let g : escape_value t ≡ Some u = cc in
    let same : t ≡ h.0 = cc in
    let k : escape_value t ≡ None = ap escape_value same ∙ h.2 in
    absurd (cc)

pub same_allowed : {q : ℕ} {t l m : List ℕ} {vs ws : List (Option ℕ)} → q ≢ 92 → Reads q t vs l → (us : List ℕ) → vs ≡ map Some us → Halts q l → Reads q t ws m → (xs : List ℕ) → ws ≡ map Some xs → Halts q m → l ≡ m
same_allowed n here us e h here xs f i = refl
same_allowed {q} n here us e h (plain {b = x} {text = t} a b c r) xs f i = absurd (halts_plain q x t a b c h)
same_allowed {q} n here us e h (escape {text = t} {vs = v} g r) xs f i = absurd (halts_escape q t (escape_value t ∷ v) v xs n g refl f h)
same_allowed {q} n (plain {b = x} {text = t} a b c r) us e h here xs f i = absurd (halts_plain q x t a b c i)
same_allowed n (plain a b c r) [] e h (plain d y z s) xs f i = absurd (cc)
same_allowed n (plain a b c r) (u ∷ us) e h (plain d y z s) [] f i = absurd (cc)
same_allowed n (plain {vs = v} a b c r) (u ∷ us) e h (plain {vs = w} d y z s) (x ∷ xs) f i = let j : v ≡ map Some us = cc in let k : w ≡ map Some xs = cc in same_allowed n r us j h s xs k i
same_allowed n (plain a b c r) us e h (escape g s) xs f i = absurd (b refl)
same_allowed {q} n (escape {text = t} {vs = v} g r) us e h here xs f i = absurd (halts_escape q t (escape_value t ∷ v) v us n g refl e i)
same_allowed n (escape g r) us e h (plain a b c s) xs f i = absurd (b refl)
same_allowed n (escape g r) [] e h (escape k s) xs f i = absurd (cc)
same_allowed n (escape g r) (u ∷ us) e h (escape k s) [] f i = absurd (cc)
same_allowed n (escape {vs = v} g r) (u ∷ us) e h (escape {vs = w} k s) (x ∷ xs) f i = let j : v ≡ map Some us = cc in let o : w ≡ map Some xs = cc in same_allowed n r us j h s xs o i

-- lengths and values of escapes, by their kind
abbrev Rest : List ℕ → ℕ
Rest s = if get_or s 0 0 == 120 then 1 + length (digits_of 16 (drop 1 s)) else 1

abbrev RestValue : List ℕ → Option ℕ
RestValue s = if get_or s 0 0 == 120 then byte_of 16 (digits_of 16 (drop 1 s)) else simple_escape (get_or s 0 0)

pub octal_length : (s : List ℕ) → 0 < length (octal_digits s) → escape_length s ≡ length (octal_digits s)
unfolding escape_length
octal_length s h = ap (λ t. if t then length (octal_digits s) else Rest s) (lt-ltb 0 (length (octal_digits s)) h)

pub octal_value : (s : List ℕ) → 0 < length (octal_digits s) → escape_value s ≡ byte_of 8 (octal_digits s)
unfolding escape_value
octal_value s h = ap (λ t. if t then byte_of 8 (octal_digits s) else RestValue s) (lt-ltb 0 (length (octal_digits s)) h)

pub hex_length : (s : List ℕ) → length (octal_digits s) ≤ 0 → get_or s 0 0 ≡ 120 → escape_length s ≡ 1 + length (digits_of 16 (drop 1 s))
unfolding escape_length
hex_length s h e = ap (λ t. if t then length (octal_digits s) else Rest s) (le-ltb 0 (length (octal_digits s)) h) ∙ ap (λ t. if t then 1 + length (digits_of 16 (drop 1 s)) else 1) (eq-eqb (get_or s 0 0) 120 e)

pub hex_value : (s : List ℕ) → length (octal_digits s) ≤ 0 → get_or s 0 0 ≡ 120 → escape_value s ≡ byte_of 16 (digits_of 16 (drop 1 s))
unfolding escape_value
hex_value s h e = ap (λ t. if t then byte_of 8 (octal_digits s) else RestValue s) (le-ltb 0 (length (octal_digits s)) h) ∙ ap (λ t. if t then byte_of 16 (digits_of 16 (drop 1 s)) else simple_escape (get_or s 0 0)) (eq-eqb (get_or s 0 0) 120 e)

pub simple_length : (s : List ℕ) → length (octal_digits s) ≤ 0 → get_or s 0 0 ≢ 120 → escape_length s ≡ 1
unfolding escape_length
simple_length s h e = ap (λ t. if t then length (octal_digits s) else Rest s) (le-ltb 0 (length (octal_digits s)) h) ∙ ap (λ t. if t then 1 + length (digits_of 16 (drop 1 s)) else 1) (ne_eqb (get_or s 0 0) 120 e)

pub simple_value : (s : List ℕ) → length (octal_digits s) ≤ 0 → get_or s 0 0 ≢ 120 → escape_value s ≡ simple_escape (get_or s 0 0)
unfolding escape_value
simple_value s h e = ap (λ t. if t then byte_of 8 (octal_digits s) else RestValue s) (le-ltb 0 (length (octal_digits s)) h) ∙ ap (λ t. if t then byte_of 16 (digits_of 16 (drop 1 s)) else simple_escape (get_or s 0 0)) (ne_eqb (get_or s 0 0) 120 e)

octal_short : (s : List ℕ) → length (octal_digits s) ≤ length s
octal_short s = omega (arith, digits_short 8 (take 3 s), length-take 3 s)

pub escape_within : (s : List ℕ) → 0 < length s → (0 < escape_length s) × (escape_length s ≤ length s)
escape_within s l =
    elim (cases_lt 0 (length (octal_digits s))) [
      | inl lt ↦ (omega (arith, octal_length s lt), omega (arith, octal_length s lt, octal_short s))
      | inr ge ↦ elim (cases_eq (get_or s 0 0) 120) [
        | inl e ↦ (omega (arith, hex_length s ge e), omega (arith, hex_length s ge e, digits_short 16 (drop 1 s), length-drop 1 s))
        | inr ne ↦ (omega (arith, simple_length s ge ne), omega (arith, simple_length s ge ne))
      ]
    ]

-- an escape does not depend on what follows the byte after it
escape_alike : (u z w : List ℕ) → BeginAlike z w → 0 < length u → escape_length (u ++ z) ≡ length u → (escape_length (u ++ w) ≡ escape_length (u ++ z)) × (escape_value (u ++ w) ≡ escape_value (u ++ z))
escape_alike [] z w a l h = absurd (omega arith)
escape_alike (c ∷ u) z w a l h =
    elim (cases_lt 0 (length (octal_digits (c ∷ u ++ z)))) [
      | inl lt ↦
          (let short : length (octal_digits (c ∷ u ++ z)) ≤ length (c ∷ u) = omega (arith, octal_length (c ∷ u ++ z) lt) in
          let same : octal_digits (c ∷ u ++ w) ≡ octal_digits (c ∷ u ++ z) = few_digits_alike 8 3 (c ∷ u) z w a short in
          let some : 0 < length (octal_digits (c ∷ u ++ w)) = omega (arith, ap length same) in
          (octal_length (c ∷ u ++ w) some ∙ ap length same ∙ sym (octal_length (c ∷ u ++ z) lt), octal_value (c ∷ u ++ w) some ∙ ap (byte_of 8) same ∙ sym (octal_value (c ∷ u ++ z) lt)))
      | inr ge ↦
          (let same : octal_digits (c ∷ u ++ w) ≡ octal_digits (c ∷ u ++ z) = few_digits_alike 8 3 (c ∷ u) z w a (omega arith) in
          let none : length (octal_digits (c ∷ u ++ w)) ≤ 0 = omega (arith, ap length same) in
          elim (cases_eq c 120) [
            | inl e ↦
                (let short : length (digits_of 16 (u ++ z)) ≤ length u = omega (arith, hex_length (c ∷ u ++ z) ge e) in
                let hex : digits_of 16 (u ++ w) ≡ digits_of 16 (u ++ z) = digits_alike 16 u z w a short in
                (hex_length (c ∷ u ++ w) none e ∙ ap (λ v. 1 + length v) hex ∙ sym (hex_length (c ∷ u ++ z) ge e), hex_value (c ∷ u ++ w) none e ∙ ap (byte_of 16) hex ∙ sym (hex_value (c ∷ u ++ z) ge e)))
            | inr ne ↦ (simple_length (c ∷ u ++ w) none ne ∙ sym (simple_length (c ∷ u ++ z) ge ne), simple_value (c ∷ u ++ w) none ne ∙ sym (simple_value (c ∷ u ++ z) ge ne))
          ])
    ]

escape_front : (u z w : List ℕ) → 0 < length u → IsEscape (u ++ z) → IsEscape (u ++ w)
escape_front [] z w l i = absurd (omega arith)
escape_front (c ∷ u) z w l i = record { some = omega arith; on_line = i.on_line }

-- what is read up to a byte is read so whatever follows that byte
pub record Swapped (q f : ℕ) (t x : List ℕ) (vs : List (Option ℕ)) : Type 0 where
  pub front : List ℕ
  pub is : t ≡ front ++ f ∷ x
  pub reads : (y : List ℕ) → Reads q (front ++ f ∷ y) vs (f ∷ y)

alike : (s x y : List ℕ) (f : ℕ) → BeginAlike (s ++ f ∷ x) (s ++ f ∷ y)
alike [] x y f = record { byte = f; z_rest = x; w_rest = y; z_is = refl; w_is = refl }
alike (c ∷ s) x y f = record { byte = c; z_rest = s ++ f ∷ x; w_rest = s ++ f ∷ y; z_is = refl; w_is = refl }

over_escape : (q f : ℕ) (t u s x y : List ℕ) (vs : List (Option ℕ)) → u ++ (s ++ f ∷ x) ≡ t → 0 < length u → escape_length t ≡ length u → IsEscape t → Reads q (s ++ f ∷ y) vs (f ∷ y) → Reads q (92 ∷ ((u ++ s) ++ f ∷ y)) (escape_value t ∷ vs) (f ∷ y)
over_escape q f t u s x y vs e l n i r =
    let z : List ℕ = s ++ f ∷ x in
    let w : List ℕ = s ++ f ∷ y in
    let k = escape_alike u z w (alike s x y f) l (ap escape_length e ∙ n) in
    let g : escape_length (u ++ w) ≡ length u = k.0 ∙ ap escape_length e ∙ n in
    let d : drop (escape_length (u ++ w)) (u ++ w) ≡ w = ap (λ m. drop m (u ++ w)) g ∙ drop-append_seam u w in
    let v : escape_value (u ++ w) ≡ escape_value t = k.1 ∙ ap escape_value e in
    let j : IsEscape (u ++ w) = escape_front u z w l (subst IsEscape (sym e) i) in
    let p : Reads q (92 ∷ (u ++ w)) (escape_value (u ++ w) ∷ vs) (f ∷ y) = escape j (subst (λ a. Reads q a vs (f ∷ y)) (sym d) r) in
    subst (λ a. Reads q (92 ∷ a) (escape_value t ∷ vs) (f ∷ y)) (sym (append_assoc u s (f ∷ y))) (subst (λ a. Reads q (92 ∷ (u ++ w)) (a ∷ vs) (f ∷ y)) v p)

pub swap_end : {q : ℕ} {t last : List ℕ} {vs : List (Option ℕ)} → Reads q t vs last → (f : ℕ) (x : List ℕ) → last ≡ f ∷ x → Swapped q f t x vs
swap_end here f x e = record { front = []; is = e; reads = λ y. here }
swap_end (plain {b = b} a c d r) f x e = let s = swap_end r f x e in record { front = b ∷ s.front; is = ap (λ v. b ∷ v) s.is; reads = λ y. plain a c d (s.reads y) }
swap_end {q} (escape {text = t} {vs = vs} i r) f x e =
    let s = swap_end r f x e in
    let n = escape_within t i.some in
    let u : List ℕ = take (escape_length t) t in
    let l : length u ≡ escape_length t = length-take-le (escape_length t) t n.1 in
    let g : u ++ (s.front ++ f ∷ x) ≡ t = ap (λ v. u ++ v) (sym s.is) ∙ take-append-drop (escape_length t) t in
    record {
      front = 92 ∷ (u ++ s.front);
      is = ap (λ v. 92 ∷ v) (sym g ∙ sym (append_assoc u s.front (f ∷ x)));
      reads = λ y. over_escape q f t u s.front x y vs g (omega arith) (sym l) i (s.reads y);
    }

pub reads_then : {q : ℕ} {t l m : List ℕ} {vs ws : List (Option ℕ)} → Reads q t vs l → Reads q l ws m → Reads q t (vs ++ ws) m
reads_then here s = s
reads_then (plain a b c r) s = plain a b c (reads_then r s)
reads_then (escape e r) s = escape e (reads_then r s)
