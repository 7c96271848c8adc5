-- Whole numbers of a range that are in a class.
use Rattle.std.specs.Prelude.{◌≡◌, ◌⊎◌, ℕ, ◌^◌, ◌+◌, ℤ, pos, neg_ℤ, ◌+ℤ◌, ◌-ℤ◌, ◌≤ℤ◌, ◌<ℤ◌, IfSome}
use Rattle.c_syntax.specs.Admission.{IsInClass, IsModerate}
use Rattle.mem_shown.specs.declared.span.Span.{Span}

-- the number lies between the ends that are there, and is in the class
pub record InSpan (s : Span) (n : ℤ) : Type 0 where
  pub low : IfSome s.lo (λ l. l ≤ℤ n)
  pub high : IfSome s.hi (λ h. n ≤ℤ h)
  pub member : IsInClass s.modulus s.rem n

-- the ends are moderate, and the class has a modulus of 1 or more
pub record IsSpan (s : Span) : Type 0 where
  pub lo : IsModerate s.lo
  pub hi : IsModerate s.hi
  pub modulus_low : pos 1 ≤ℤ s.modulus
  pub modulus_high : s.modulus ≤ℤ pos (2 ^ 100)
  pub rem_low : pos 0 ≤ℤ s.rem
  pub rem_high : s.rem <ℤ s.modulus

-- the size of the number is at most this
abbrev pub IsWithin : ℕ → ℤ → Type 0
IsWithin bound n = (neg_ℤ (pos bound) ≤ℤ n) × (n ≤ℤ pos bound)

-- m is the least of the span's numbers from n up
pub record IsLeastFrom (s : Span) (n m : ℤ) : Type 0 where
  pub inside : InSpan s m
  pub from : n ≤ℤ m
  pub least : (k : ℤ) → InSpan s k → n ≤ℤ k → m ≤ℤ k
  pub within : IsWithin (2 ^ 126 + 2 ^ 101) m

-- m is the greatest of the span's numbers from n down
pub record IsGreatestTo (s : Span) (n m : ℤ) : Type 0 where
  pub inside : InSpan s m
  pub to : m ≤ℤ n
  pub greatest : (k : ℤ) → InSpan s k → k ≤ℤ n → k ≤ℤ m
  pub within : IsWithin (2 ^ 126 + 2 ^ 101) m

-- m is the number of the class next to n, above or below
abbrev pub IsBeside : Span → ℤ → ℤ → Type 0
IsBeside s n m = (m ≡ n +ℤ s.modulus) ⊎ (m ≡ n -ℤ s.modulus)
