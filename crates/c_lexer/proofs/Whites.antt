-- White space at the front of a text.
use Rattle.std.proofs.Common.{◌≡◌, ℕ, ◌+◌, ◌-◌, ◌<◌, ◌⊎◌, inl, inr, List, [], ◌∷◌, ◌++◌, length, get_or, refl, sym, ap, ◌∙◌, subst, arith, length-append}
use Rattle.std.proofs.Math.ListN.{get_or-append}
use Rattle.std.proofs.Math.Seq.{get_or-append-add}
use Rattle.std.proofs.lemmas.Bool.{cases_lt}
use Rattle.c_lexer.specs.Cut.{IsBlank, IsComment, IsLine, IsSplicedAt, IsWhite, blank, splice, long_splice, comment, line, BeginsComment}
use Rattle.c_lexer.proofs.Forms.{at_front, same_split, IsNoForm}

pub comment_begins : (s rest : List ℕ) → IsComment s → BeginsComment (s ++ rest)
comment_begins s rest c = record {
  long = omega (arith, length-append s rest, c.long);
  slash = get_or-append s rest 0 0 (omega (arith, c.long)) ∙ c.slash;
  second = inr (get_or-append s rest 0 1 (omega (arith, c.long)) ∙ c.star);
}

pub line_begins : (s rest : List ℕ) → IsLine s rest → BeginsComment (s ++ rest)
line_begins s rest c = record {
  long = omega (arith, length-append s rest, c.long);
  slash = get_or-append s rest 0 0 (omega (arith, c.long)) ∙ c.slash;
  second = inl (get_or-append s rest 0 1 (omega (arith, c.long)) ∙ c.second);
}

pub white_long : (s rest : List ℕ) → IsWhite s rest → 0 < length s
white_long _ rest (blank b h) = omega arith
white_long _ rest splice = omega arith
white_long _ rest long_splice = omega arith
white_long s rest (comment c) = omega (arith, c.long)
white_long s rest (line l n) = omega (arith, l.long)

-- a white byte, a backslash or a comment begins
pub white_begins : (s rest : List ℕ) → IsWhite s rest → IsNoForm (get_or s 0 0) ⊎ BeginsComment (s ++ rest)
white_begins _ rest (blank b h) = inl (inr (inr h))
white_begins _ rest splice = inl (inr (inl refl))
white_begins _ rest long_splice = inl (inr (inl refl))
white_begins s rest (comment c) = inr (comment_begins s rest c)
white_begins s rest (line l n) = inr (line_begins s rest l)

blank_apart : (b c : ℕ) → IsBlank b → b ≡ c → (c ≡ 92) ⊎ (c ≡ 47) → ⊥
blank_apart b c h e i = grind arith

end_first : (s u r v : List ℕ) → s ++ r ≡ u ++ v → IsComment s → IsComment u → length s < length u → ⊥
end_first s u r v e c d lt =
    let k : ℕ = length s - 2 in
    let l : k + 1 ≡ length s - 1 = omega (arith, c.long) in
    let star : get_or u k 0 ≡ 42 = sym (at_front (s ++ r) u v e k (omega (arith, c.long))) ∙ at_front (s ++ r) s r refl k (omega (arith, c.long)) ∙ c.end_star in
    let slash : get_or u (k + 1) 0 ≡ 47 = sym (at_front (s ++ r) u v e (k + 1) (omega (arith, c.long))) ∙ at_front (s ++ r) s r refl (k + 1) (omega (arith, c.long)) ∙ ap (λ n. get_or s n 0) l ∙ c.end_slash in
    d.next k (omega (arith, c.long)) (omega (arith, c.long)) star slash

same_comment : (s u r v : List ℕ) → s ++ r ≡ u ++ v → IsComment s → IsComment u → length s ≡ length u
same_comment s u r v e c d =
    elim (cases_lt (length s) (length u)) [
      | inl lt ↦ absurd (end_first s u r v e c d lt)
      | inr ge ↦ elim (cases_lt (length u) (length s)) [ inl lt ↦ absurd (end_first u s v r (sym e) d c lt) | inr le ↦ omega arith ]
    ]

line_first : (s u r v : List ℕ) → s ++ r ≡ u ++ v → IsLine s r → IsLine u v → length s < length u → ⊥
line_first s u r v e c d lt =
    let some : 0 < length r = omega (arith, ap length e, length-append s r, length-append u v) in
    let here : get_or (s ++ r) (length s + 0) 0 ≡ 10 = get_or-append-add s r 0 0 ∙ c.ends some in
    let there : get_or (s ++ r) (length s + 0) 0 ≡ get_or u (length s + 0) 0 = at_front (s ++ r) u v e (length s + 0) (omega arith) in
    d.one_line (length s + 0) (omega arith) (sym there ∙ here)

pub same_line : (s u r v : List ℕ) → s ++ r ≡ u ++ v → IsLine s r → IsLine u v → length s ≡ length u
same_line s u r v e c d =
    elim (cases_lt (length s) (length u)) [
      | inl lt ↦ absurd (line_first s u r v e c d lt)
      | inr ge ↦ elim (cases_lt (length u) (length s)) [ inl lt ↦ absurd (line_first u s v r (sym e) d c lt) | inr le ↦ omega arith ]
    ]

-- a byte at the front of both
both_at : (s u r v : List ℕ) → s ++ r ≡ u ++ v → (k : ℕ) → k < length s → k < length u → get_or s k 0 ≡ get_or u k 0
both_at s u r v e k h i = sym (at_front (s ++ r) s r refl k h) ∙ at_front (s ++ r) u v e k i

white_length : (s u r v : List ℕ) → s ++ r ≡ u ++ v → IsWhite s r → IsWhite u v → length s ≡ length u
white_length _ _ r v e (blank b h) (blank c i) = refl
white_length _ _ r v e (blank b h) splice = absurd (blank_apart b 92 h (ap (λ l. get_or l 0 0) e) (inl refl))
white_length _ _ r v e (blank b h) long_splice = absurd (blank_apart b 92 h (ap (λ l. get_or l 0 0) e) (inl refl))
white_length _ u r v e (blank b h) (comment c) = absurd (blank_apart b 47 h (both_at (b ∷ []) u r v e 0 (omega arith) (omega (arith, c.long)) ∙ c.slash) (inr refl))
white_length _ u r v e (blank b h) (line c n) = absurd (blank_apart b 47 h (both_at (b ∷ []) u r v e 0 (omega arith) (omega (arith, c.long)) ∙ c.slash) (inr refl))
white_length _ _ r v e splice (blank c i) = absurd (blank_apart c 92 i (sym (ap (λ l. get_or l 0 0) e)) (inl refl))
white_length _ _ r v e splice splice = refl
white_length _ _ r v e splice long_splice = let f : ◌≡◌ {A = ℕ} 10 13 = ap (λ l. get_or l 1 0) e in absurd (omega arith)
white_length _ u r v e splice (comment c) = let f : ◌≡◌ {A = ℕ} 92 47 = both_at (92 ∷ 10 ∷ []) u r v e 0 (omega arith) (omega (arith, c.long)) ∙ c.slash in absurd (omega arith)
white_length _ u r v e splice (line c n) = let f : ◌≡◌ {A = ℕ} 92 47 = both_at (92 ∷ 10 ∷ []) u r v e 0 (omega arith) (omega (arith, c.long)) ∙ c.slash in absurd (omega arith)
white_length _ _ r v e long_splice (blank c i) = absurd (blank_apart c 92 i (sym (ap (λ l. get_or l 0 0) e)) (inl refl))
white_length _ _ r v e long_splice splice = let f : ◌≡◌ {A = ℕ} 13 10 = ap (λ l. get_or l 1 0) e in absurd (omega arith)
white_length _ _ r v e long_splice long_splice = refl
white_length _ u r v e long_splice (comment c) = let f : ◌≡◌ {A = ℕ} 92 47 = both_at (92 ∷ 13 ∷ 10 ∷ []) u r v e 0 (omega arith) (omega (arith, c.long)) ∙ c.slash in absurd (omega arith)
white_length _ u r v e long_splice (line c n) = let f : ◌≡◌ {A = ℕ} 92 47 = both_at (92 ∷ 13 ∷ 10 ∷ []) u r v e 0 (omega arith) (omega (arith, c.long)) ∙ c.slash in absurd (omega arith)
white_length s _ r v e (comment c) (blank b h) = absurd (blank_apart b 47 h (both_at (b ∷ []) s v r (sym e) 0 (omega arith) (omega (arith, c.long)) ∙ c.slash) (inr refl))
white_length s _ r v e (comment c) splice = let f : ◌≡◌ {A = ℕ} 92 47 = both_at (92 ∷ 10 ∷ []) s v r (sym e) 0 (omega arith) (omega (arith, c.long)) ∙ c.slash in absurd (omega arith)
white_length s _ r v e (comment c) long_splice = let f : ◌≡◌ {A = ℕ} 92 47 = both_at (92 ∷ 13 ∷ 10 ∷ []) s v r (sym e) 0 (omega arith) (omega (arith, c.long)) ∙ c.slash in absurd (omega arith)
white_length s u r v e (comment c) (comment d) = same_comment s u r v e c d
white_length s u r v e (comment c) (line d n) = let f : get_or s 1 0 ≡ get_or u 1 0 = both_at s u r v e 1 (omega (arith, c.long)) (omega (arith, d.long)) in absurd (omega (arith, c.star, d.second))
white_length s _ r v e (line c n) (blank b h) = absurd (blank_apart b 47 h (both_at (b ∷ []) s v r (sym e) 0 (omega arith) (omega (arith, c.long)) ∙ c.slash) (inr refl))
white_length s _ r v e (line c n) splice = let f : ◌≡◌ {A = ℕ} 92 47 = both_at (92 ∷ 10 ∷ []) s v r (sym e) 0 (omega arith) (omega (arith, c.long)) ∙ c.slash in absurd (omega arith)
white_length s _ r v e (line c n) long_splice = let f : ◌≡◌ {A = ℕ} 92 47 = both_at (92 ∷ 13 ∷ 10 ∷ []) s v r (sym e) 0 (omega arith) (omega (arith, c.long)) ∙ c.slash in absurd (omega arith)
white_length s u r v e (line c n) (comment d) = let f : get_or s 1 0 ≡ get_or u 1 0 = both_at s u r v e 1 (omega (arith, c.long)) (omega (arith, d.long)) in absurd (omega (arith, c.second, d.star))
white_length s u r v e (line c n) (line d m) = same_line s u r v e c d

pub same_white : (s u r v : List ℕ) → s ++ r ≡ u ++ v → IsWhite s r → IsWhite u v → s ≡ u
same_white s u r v e w x = same_split s u r v e (white_length s u r v e w x)

-- white space and a line that ends in a backslash
pub line_white : (s u r v : List ℕ) (n : ℕ) → s ++ r ≡ u ++ v → IsLine s r → IsSplicedAt s n → IsWhite u v → ⊥
line_white s _ r v n e c x (blank b h) = blank_apart b 47 h (both_at (b ∷ []) s v r (sym e) 0 (omega arith) (omega (arith, c.long)) ∙ c.slash) (inr refl)
line_white s _ r v n e c x splice = let f : ◌≡◌ {A = ℕ} 92 47 = both_at (92 ∷ 10 ∷ []) s v r (sym e) 0 (omega arith) (omega (arith, c.long)) ∙ c.slash in absurd (omega arith)
line_white s _ r v n e c x long_splice = let f : ◌≡◌ {A = ℕ} 92 47 = both_at (92 ∷ 13 ∷ 10 ∷ []) s v r (sym e) 0 (omega arith) (omega (arith, c.long)) ∙ c.slash in absurd (omega arith)
line_white s u r v n e c x (comment d) = let f : get_or s 1 0 ≡ get_or u 1 0 = both_at s u r v e 1 (omega (arith, c.long)) (omega (arith, d.long)) in absurd (omega (arith, c.second, d.star))
line_white s u r v n e c x (line d m) = m n (subst (λ w. IsSplicedAt w n) (same_split s u r v e (same_line s u r v e c d)) x)
