-- Numbers and their suffixes.
use Rattle.std.proofs.Common.{◌≡◌, ℕ, ◌+◌, ◌-◌, ◌<◌, ◌≤◌, inl, inr, Bool, true, false, List, [], ◌∷◌, ◌++◌, length, get_or, take, drop, refl, sym, ap, ◌∙◌, subst, arith, length-append}
use Rattle.std.proofs.Math.Seq.{get_or-append-add, take-append_seam}
use Rattle.std.proofs.lemmas.List.{take_more, take_all}
use Rattle.std.proofs.lemmas.Bool.{cases_lt}
use Rattle.c_lexer.specs.Spelling.{IsUnsignedLetter, IsLong, IsSuffix, base_of, without_prefix, constant_digits, constant_suffix, number_of, digits_of, value_from}
use Rattle.c_lexer.specs.Cut.{GoesOn}
use Rattle.c_lexer.specs.Piece.{IsWithoutU, IsSpelled, IsHeld}
use Rattle.c_lexer.specs.declared.number.Spelled.{Spelled}
use Rattle.c_lexer.specs.declared.number.Spelled.TheVariants as spellings
use Rattle.c_lexer.proofs.DigitLemmas.{digits_taken}
use Rattle.c_lexer.proofs.Tokens.{long_byte, no_letter, same_suffix}

pub runs_on : (s : List ℕ) (n : ℕ) → 1 ≤ n → ((k : ℕ) → k + 1 < n → GoesOn (get_or s k 0) (get_or s (k + 1) 0)) → GoesOn (get_or s (n - 1) 0) (get_or s n 0) → (k : ℕ) → k + 1 < n + 1 → GoesOn (get_or s k 0) (get_or s (k + 1) 0)
runs_on s n l all last k lt =
    elim (cases_lt (k + 1) n) [
      | inl less ↦ all k less
      | inr ge ↦
          (let e : n - 1 ≡ k = omega arith in
          let f : n ≡ k + 1 = omega arith in
          subst (λ z. GoesOn (get_or s k 0) (get_or s z 0)) f (subst (λ z. GoesOn (get_or s z 0) (get_or s n 0)) e last))
    ]

no_first : (s l : List ℕ) (n : ℕ) (u : ℕ) → IsLong l n → IsUnsignedLetter (get_or s 0 0) → s ≡ l ++ u ∷ [] → l ≡ []
no_first s [] n u h i e = refl
no_first s (b ∷ l) n u h i e = absurd (no_letter (get_or (b ∷ l) 0 0) (get_or s 0 0) i (sym (ap (λ v. get_or v 0 0) e)) (long_byte (b ∷ l) n 0 h (omega arith)))

first_only : (s : List ℕ) → 0 < length s → IsUnsignedLetter (get_or s 0 0) → (v : Bool) (n : ℕ) → IsSuffix s v n → (v ≡ true) × IsLong (drop 1 s) n
first_only s l h false n i = absurd (no_letter (get_or s 0 0) (get_or s 0 0) h refl (long_byte s n 0 i l))
first_only s l h true n i = (
  refl,
  elim i.4 [
    | inl e ↦ subst (λ v. IsLong v n) (sym (ap (drop 1) e)) i.3
    | inr e ↦
        (let f : i.1 ≡ [] = no_first s i.1 n i.0 i.3 h e in
        subst (λ v. IsLong v n) (f ∙ sym (ap (drop 1) (e ∙ ap (λ v. v ++ i.0 ∷ []) f))) i.3)
  ],
)

head_tail : (s : List ℕ) → 0 < length s → s ≡ get_or s 0 0 ∷ drop 1 s
head_tail [] l = absurd (omega arith)
head_tail (b ∷ s) l = refl

pub first_u : (s : List ℕ) → 0 < length s → IsUnsignedLetter (get_or s 0 0) → IsWithoutU s true (drop 1 s)
first_u s l h = record { only = first_only s l h; back = λ n i. (get_or s 0 0, drop 1 s, h, i, inl (head_tail s l)) }

last_of : (l : List ℕ) (u : ℕ) (s : List ℕ) → s ≡ l ++ u ∷ [] → (get_or s (length s - 1) 0 ≡ u) × (take (length s - 1) s ≡ l)
last_of l u s e =
    let f : length s - 1 ≡ length l + 0 = omega (arith, ap length e, length-append l (u ∷ [])) in
    let g : length s - 1 ≡ length l = omega (arith, ap length e, length-append l (u ∷ [])) in
    (ap (λ n. get_or s n 0) f ∙ ap (λ v. get_or v (length l + 0) 0) e ∙ get_or-append-add l (u ∷ []) 0 0, ap (λ n. take n s) g ∙ ap (λ v. take (length l) v) e ∙ take-append_seam l (u ∷ []))

last_only : (s : List ℕ) → 0 < length s → (IsUnsignedLetter (get_or s 0 0) → ⊥) → IsUnsignedLetter (get_or s (length s - 1) 0) → (v : Bool) (n : ℕ) → IsSuffix s v n → (v ≡ true) × IsLong (take (length s - 1) s) n
last_only s l not h false n i = absurd (no_letter (get_or s (length s - 1) 0) (get_or s (length s - 1) 0) h refl (long_byte s n (length s - 1) i (omega arith)))
last_only s l not h true n i = (
  refl,
  elim i.4 [
    | inl e ↦ absurd (not (subst IsUnsignedLetter (sym (ap (λ v. get_or v 0 0) e)) i.2))
    | inr e ↦ subst (λ v. IsLong v n) (sym (last_of i.1 i.0 s e).1) i.3
  ],
)

split_last : (s : List ℕ) → 0 < length s → s ≡ take (length s - 1) s ++ get_or s (length s - 1) 0 ∷ []
split_last s l =
    let e : length s - 1 + 1 ≡ length s = omega arith in
    sym (take_all (length s) s (omega arith)) ∙ sym (ap (λ n. take n s) e) ∙ take_more s (length s - 1) 0 (omega arith)

pub last_u : (s : List ℕ) → 0 < length s → (IsUnsignedLetter (get_or s 0 0) → ⊥) → IsUnsignedLetter (get_or s (length s - 1) 0) → IsWithoutU s true (take (length s - 1) s)
last_u s l not h = record { only = last_only s l not h; back = λ n i. (get_or s (length s - 1) 0, take (length s - 1) s, h, i, inr (split_last s l)) }

none_only : (s : List ℕ) → (0 < length s → IsUnsignedLetter (get_or s 0 0) → ⊥) → (0 < length s → IsUnsignedLetter (get_or s (length s - 1) 0) → ⊥) → (v : Bool) (n : ℕ) → IsSuffix s v n → (v ≡ false) × IsLong s n
none_only s first last false n i = (refl, i)
none_only s first last true n i = elim i.4 [
  | inl e ↦ absurd (first (omega (arith, ap length e)) (subst IsUnsignedLetter (sym (ap (λ v. get_or v 0 0) e)) i.2))
  | inr e ↦ absurd (last (omega (arith, ap length e, length-append i.1 (i.0 ∷ []))) (subst IsUnsignedLetter (sym (last_of i.1 i.0 s e).0) i.2))
]

pub no_u : (s : List ℕ) → (0 < length s → IsUnsignedLetter (get_or s 0 0) → ⊥) → (0 < length s → IsUnsignedLetter (get_or s (length s - 1) 0) → ⊥) → IsWithoutU s false s
no_u s first last = record { only = none_only s first last; back = λ n i. i }

pub suffix_of : (s l : List ℕ) (u : Bool) → IsWithoutU s u l → (n : ℕ) → IsLong l n → IsSuffix s u n
suffix_of s l u w n h = w.back n h

pub no_suffix : (s l : List ℕ) (u : Bool) → IsWithoutU s u l → ((n : ℕ) → IsLong l n → ⊥) → (v : Bool) (n : ℕ) → IsSuffix s v n → ⊥
no_suffix s l u w none v n i = none n (w.only v n i).1

held_spelled : (s : List ℕ) (u : Bool) (n : ℕ) (r : Spelled) → 0 < length (constant_digits s) → IsSuffix (constant_suffix s) u n → IsHeld (number_of s) (base_of s) u n r → IsSpelled s r
held_spelled s u n (spellings.Constant c) l x h = record {
  some = l;
  ends = subst (λ v. IsSuffix (constant_suffix s) v c.longs) (sym h.3) (subst (λ m. IsSuffix (constant_suffix s) u m) (sym h.4) x);
  is = h.1;
  decimal = h.2;
  fits = h.0;
  typed = h.5;
}
held_spelled s u n spellings.TooWide l x h = (
  record { some = l; ends = (u, n, x) },
  λ c i. let e = same_suffix (constant_suffix s) c.unsigned u c.longs n i.ends x in h c i.fits i.is i.decimal e.0 e.1 i.typed,
)
held_spelled s u n spellings.NoInteger l x h = absurd h

pub spelled_of : (s rest digits suffixed : List ℕ) (base len : ℕ) (u : Bool) (n : ℕ) (r : Spelled) → base ≡ base_of s → rest ≡ without_prefix s → len ≡ length (digits_of base rest) → digits ≡ take len rest → suffixed ≡ drop len rest → 0 < length digits → IsSuffix suffixed u n → IsHeld (value_from base 0 digits) base u n r → IsSpelled s r
spelled_of s rest digits suffixed base len u n r eb er el ed es l x h =
    let d : digits_of base rest ≡ constant_digits s = ap (λ b. digits_of b rest) eb ∙ ap (digits_of (base_of s)) er in
    let m : len ≡ length (constant_digits s) = el ∙ ap length d in
    let a : digits ≡ constant_digits s = ed ∙ ap (λ k. take k rest) el ∙ digits_taken base rest ∙ d in
    let b : suffixed ≡ constant_suffix s = es ∙ ap (λ k. drop k rest) m ∙ ap (drop (length (constant_digits s))) er in
    held_spelled s u n r (subst (λ v. 0 < length v) a l) (subst (λ v. IsSuffix v u n) b x) (subst (λ v. IsHeld v (base_of s) u n r) (ap (λ v. value_from (base_of s) 0 v) a) (subst (λ k. IsHeld (value_from k 0 digits) k u n r) eb h))
