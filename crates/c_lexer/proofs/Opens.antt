-- The first of a line.
use Rattle.std.proofs.Common.{◌≡◌, ◌≢◌, ℕ, ◌+◌, ◌<◌, ◌≤◌, ◌⊎◌, ◌↔◌, inl, inr, Bool, List, [], ◌∷◌, ◌++◌, length, get_or, take, refl, sym, ap, ◌∙◌, subst, arith, length-append, IsTrue}
use Rattle.std.proofs.Math.ListN.{get_or-append}
use Rattle.std.proofs.Math.Seq.{get_or-append-add}
use Rattle.std.proofs.lemmas.List.{take_more, take_all}
use Rattle.std.proofs.lemmas.Bool.{cases_lt, cases_eq}
use Rattle.c_lexer.specs.Cut.{IsBlank}
use Rattle.c_lexer.specs.Uncut.{OpensLine}

last_byte : (s : List ℕ) (b j : ℕ) → j ≡ length s → get_or (s ++ b ∷ []) j 0 ≡ b
last_byte s b j e = let f : j ≡ length s + 0 = omega arith in ap (λ n. get_or (s ++ b ∷ []) n 0) f ∙ get_or-append-add s (b ∷ []) 0 0

grown : (s : List ℕ) (b : ℕ) → length (s ++ b ∷ []) ≡ length s + 1
grown s b = omega (arith, length-append s (b ∷ []))

shorter : (s : List ℕ) (b : ℕ) → b ≢ 10 → OpensLine (s ++ b ∷ []) → OpensLine s
shorter s b n h k l =
    elim (h k (omega (arith, grown s b))) [
      | inl w ↦ inl (subst IsBlank (get_or-append s (b ∷ []) 0 k l) w)
      | inr j ↦ elim (cases_lt j.0 (length s)) [
        | inl lt ↦ inr (j.0, j.1, lt, sym (get_or-append s (b ∷ []) 0 j.0 lt) ∙ j.3)
        | inr ge ↦ absurd (n (sym (last_byte s b j.0 (omega (arith, grown s b, j.2))) ∙ j.3))
      ]
    ]

last_blank : (s : List ℕ) (b : ℕ) → b ≢ 10 → OpensLine (s ++ b ∷ []) → IsBlank b
last_blank s b n h =
    elim (h (length s) (omega (arith, grown s b))) [
      | inl w ↦ subst IsBlank (last_byte s b (length s) refl) w
      | inr j ↦ absurd (n (sym (last_byte s b j.0 (omega (arith, grown s b, j.1, j.2))) ∙ j.3))
    ]

after_end : (s : List ℕ) (b : ℕ) → b ≡ 10 → OpensLine (s ++ b ∷ [])
after_end s b e k l = inr (length s, omega (arith, grown s b), omega (arith, grown s b), last_byte s b (length s) refl ∙ e)

after_blank : (s : List ℕ) (b : ℕ) → OpensLine s → IsBlank b → OpensLine (s ++ b ∷ [])
after_blank s b h w k l =
    elim (cases_lt k (length s)) [
      | inl lt ↦ elim (h k lt) [
        | inl v ↦ inl (subst IsBlank (sym (get_or-append s (b ∷ []) 0 k lt)) v)
        | inr j ↦ inr (j.0, j.1, omega (arith, grown s b, j.2), get_or-append s (b ∷ []) 0 j.0 j.2 ∙ j.3)
      ]
      | inr ge ↦ inl (subst IsBlank (sym (last_byte s b k (omega (arith, grown s b)))) w)
    ]

one_more : (s : List ℕ) (b : ℕ) (t r : Bool) → (IsTrue t ↔ OpensLine s) → (IsTrue r ↔ ((b ≡ 10) ⊎ (IsTrue t × IsBlank b))) → IsTrue r ↔ OpensLine (s ++ b ∷ [])
one_more s b t r h i = (
  λ x. elim (i.0 x) [ inl e ↦ after_end s b e | inr w ↦ after_blank s b (h.0 w.0) w.1 ],
  λ o. elim (cases_eq b 10) [ inl e ↦ i.1 (inl e) | inr n ↦ i.1 (inr (h.1 (shorter s b n o), last_blank s b n o)) ],
)

pub opens_more : (s : List ℕ) (k : ℕ) (t r : Bool) → k < length s → (IsTrue t ↔ OpensLine (take k s)) → (IsTrue r ↔ ((get_or s k 0 ≡ 10) ⊎ (IsTrue t × IsBlank (get_or s k 0)))) → IsTrue r ↔ OpensLine (take (k + 1) s)
opens_more s k t r l h i = subst (λ v. IsTrue r ↔ OpensLine v) (sym (take_more s k 0 l)) (one_more (take k s) (get_or s k 0) t r h i)

pub opens_whole : (s : List ℕ) (k : ℕ) (t : Bool) → length s ≤ k → (IsTrue t ↔ OpensLine (take k s)) → IsTrue t ↔ OpensLine s
opens_whole s k t l h = subst (λ v. IsTrue t ↔ OpensLine v) (take_all k s l) h
