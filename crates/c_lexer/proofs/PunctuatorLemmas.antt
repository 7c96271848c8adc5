-- Punctuators at the front of a text.
use Rattle.std.proofs.Common.{◌≡◌, ◌≢◌, ℕ, ◌<◌, ◌≤◌, ◌⊎◌, inl, inr, List, [], ◌∷◌, ◌++◌, length, get_or, refl, sym, ap, ◌∙◌, arith}
use Rattle.std.proofs.lemmas.Bool.{cases_lt}
use Rattle.c_syntax_written.specs.declared.token.Punctuator.{Punctuator}
use Rattle.c_lexer.specs.Spelling.{punctuator_text}
use Rattle.c_lexer.specs.Piece.{HasPunctuator, IsLongestPunctuator}
use Rattle.c_lexer.proofs.Punctuators.{punctuator_long}
use Rattle.c_lexer.proofs.Forms.{front_long}

pub from_three : (text : List ℕ) (p : Punctuator) → punctuator_text p ≡ get_or text 0 0 ∷ get_or text 1 0 ∷ get_or text 2 0 ∷ [] → 3 ≤ length text → HasPunctuator text 3 p
from_three [] p e l = absurd (omega arith)
from_three (a ∷ []) p e l = absurd (omega arith)
from_three (a ∷ b ∷ []) p e l = absurd (omega arith)
from_three (a ∷ b ∷ c ∷ text) p e l = (text, ap (λ v. v ++ text) (sym e), ap length e)

pub from_two : (text : List ℕ) (p : Punctuator) → punctuator_text p ≡ get_or text 0 0 ∷ get_or text 1 0 ∷ [] → 2 ≤ length text → HasPunctuator text 2 p
from_two [] p e l = absurd (omega arith)
from_two (a ∷ []) p e l = absurd (omega arith)
from_two (a ∷ b ∷ text) p e l = (text, ap (λ v. v ++ text) (sym e), ap length e)

pub from_one : (text : List ℕ) (p : Punctuator) → punctuator_text p ≡ get_or text 0 0 ∷ [] → 1 ≤ length text → HasPunctuator text 1 p
from_one [] p e l = absurd (omega arith)
from_one (a ∷ text) p e l = (text, ap (λ v. v ++ text) (sym e), ap length e)

first_three : (s r : List ℕ) → length s ≡ 3 → s ≡ get_or (s ++ r) 0 0 ∷ get_or (s ++ r) 1 0 ∷ get_or (s ++ r) 2 0 ∷ []
first_three [] r l = absurd (omega arith)
first_three (a ∷ []) r l = absurd (omega arith)
first_three (a ∷ b ∷ []) r l = absurd (omega arith)
first_three (a ∷ b ∷ c ∷ []) r l = refl
first_three (a ∷ b ∷ c ∷ d ∷ s) r l = absurd (omega arith)

first_two : (s r : List ℕ) → length s ≡ 2 → s ≡ get_or (s ++ r) 0 0 ∷ get_or (s ++ r) 1 0 ∷ []
first_two [] r l = absurd (omega arith)
first_two (a ∷ []) r l = absurd (omega arith)
first_two (a ∷ b ∷ []) r l = refl
first_two (a ∷ b ∷ c ∷ s) r l = absurd (omega arith)

first_one : (s r : List ℕ) → length s ≡ 1 → s ≡ get_or (s ++ r) 0 0 ∷ []
first_one [] r l = absurd (omega arith)
first_one (a ∷ []) r l = refl
first_one (a ∷ b ∷ s) r l = absurd (omega arith)

pub no_three : (text : List ℕ) → ((p : Punctuator) → punctuator_text p ≢ get_or text 0 0 ∷ get_or text 1 0 ∷ get_or text 2 0 ∷ []) → (p : Punctuator) → HasPunctuator text 3 p → ⊥
no_three text none p h = none p (first_three (punctuator_text p) h.0 h.2 ∙ ap (λ v. get_or v 0 0 ∷ get_or v 1 0 ∷ get_or v 2 0 ∷ []) (sym h.1))

pub no_two : (text : List ℕ) → ((p : Punctuator) → punctuator_text p ≢ get_or text 0 0 ∷ get_or text 1 0 ∷ []) → (p : Punctuator) → HasPunctuator text 2 p → ⊥
no_two text none p h = none p (first_two (punctuator_text p) h.0 h.2 ∙ ap (λ v. get_or v 0 0 ∷ get_or v 1 0 ∷ []) (sym h.1))

pub no_one : (text : List ℕ) → ((p : Punctuator) → punctuator_text p ≢ get_or text 0 0 ∷ []) → (p : Punctuator) → HasPunctuator text 1 p → ⊥
no_one text none p h = none p (first_one (punctuator_text p) h.0 h.2 ∙ ap (λ v. get_or v 0 0 ∷ []) (sym h.1))

pub too_short : (text : List ℕ) (n : ℕ) → length text < n → (p : Punctuator) → HasPunctuator text n p → ⊥
too_short text n l p h = omega (arith, h.2, front_long text (punctuator_text p) h.0 h.1)

-- one number is at most another, or above it
cases_le : (a b : ℕ) → (a ≤ b) ⊎ (b < a)
cases_le a b = elim (cases_lt b a) [ inl lt ↦ inr lt | inr ge ↦ inl ge ]

longest_of : (text : List ℕ) (n : ℕ) (p q : Punctuator) (b : List ℕ) → HasPunctuator text n p → (n < 3 → HasPunctuator text 3 q → ⊥) → (n < 2 → HasPunctuator text 2 q → ⊥) → text ≡ punctuator_text q ++ b → 0 < n → length (punctuator_text q) ≤ length (punctuator_text p)
longest_of text n p q b h three two e l =
    elim (cases_le (length (punctuator_text q)) n) [
      | inl le ↦ omega (arith, h.2)
      | inr gt ↦ elim (cases_le (length (punctuator_text q)) 2) [
        | inl le ↦ absurd (two (omega arith) (b, e, omega (arith, (punctuator_long q).1)))
        | inr more ↦ absurd (three (omega (arith, (punctuator_long q).1)) (b, e, omega (arith, (punctuator_long q).1)))
      ]
    ]

pub longest_punctuator : (text : List ℕ) (n : ℕ) (p : Punctuator) → HasPunctuator text n p → 0 < n → (n < 3 → (q : Punctuator) → HasPunctuator text 3 q → ⊥) → (n < 2 → (q : Punctuator) → HasPunctuator text 2 q → ⊥) → IsLongestPunctuator text p × (n ≡ length (punctuator_text p))
longest_punctuator text n p h l three two = (record { rest = h.0; is = h.1; longest = λ q b e. longest_of text n p q b h (λ k. three k q) (λ k. two k q) e l }, sym h.2)

pub no_punctuator : (text : List ℕ) → ((q : Punctuator) → HasPunctuator text 3 q → ⊥) → ((q : Punctuator) → HasPunctuator text 2 q → ⊥) → ((q : Punctuator) → HasPunctuator text 1 q → ⊥) → (p : Punctuator) (b : List ℕ) → text ≡ punctuator_text p ++ b → ⊥
no_punctuator text three two one p b e =
    elim (cases_le (length (punctuator_text p)) 1) [
      | inl le ↦ one p (b, e, omega (arith, (punctuator_long p).0))
      | inr gt ↦ elim (cases_le (length (punctuator_text p)) 2) [
        | inl le ↦ two p (b, e, omega arith)
        | inr more ↦ three p (b, e, omega (arith, (punctuator_long p).1))
      ]
    ]
