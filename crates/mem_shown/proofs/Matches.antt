-- What is said of a value that may be missing.
use Rattle.std.proofs.Common.{◌≡◌, ℤ, ◌≤ℤ◌, ◌⊎◌, inl, inr, arith, refl}
use Rattle.std.specs.Prelude.{Option, Some, None, MatchOption, IfSome}
use Rattle.std.proofs.lemmas.Int.{ints}

-- another fact where there is none, and another one of the value
pub both_ways : {X : Type 0} (r : Option X) {P R : Type 0} {Q S : X → Type 0} → (P → R) → ((x : X) → Q x → S x) → MatchOption r P Q → MatchOption r R S
both_ways None f g h = f h
both_ways (Some x) f g h = g x h

-- by both cases
pub by_match : {X : Type 0} (r : Option X) {P R : Type 0} {Q : X → Type 0} → (P → R) → ((x : X) → r ≡ Some x → Q x → R) → MatchOption r P Q → R
by_match None f g h = f h
by_match (Some x) f g h = g x refl h

-- an end that a number does not pass is not passed by one further inside
pub end_below : (lo : Option ℤ) (a b : ℤ) → IfSome lo (λ l. l ≤ℤ a) → a ≤ℤ b → IfSome lo (λ l. l ≤ℤ b)
end_below None a b h k = tt
end_below (Some l) a b h k = omega (arith, ints)

pub end_above : (hi : Option ℤ) (a b : ℤ) → IfSome hi (λ h. a ≤ℤ h) → b ≤ℤ a → IfSome hi (λ h. b ≤ℤ h)
end_above None a b h k = tt
end_above (Some l) a b h k = omega (arith, ints)

-- of two values, the first where the second is missing
pub only_first : (below above : Option ℤ) → above ≡ None → MatchOption below ((below ≡ None) × (above ≡ None)) (λ m. (below ≡ Some m) ⊎ (above ≡ Some m))
only_first None above e = (refl, e)
only_first (Some m) above e = inl refl

-- of two values, either where both are there
pub either_first : (below above : Option ℤ) (m : ℤ) → below ≡ Some m → MatchOption below ((below ≡ None) × (above ≡ None)) (λ m. (below ≡ Some m) ⊎ (above ≡ Some m))
either_first None above m e = absurd cc
either_first (Some n) above m e = inl refl

pub either_second : (below above : Option ℤ) (m : ℤ) → above ≡ Some m → MatchOption above ((below ≡ None) × (above ≡ None)) (λ m. (below ≡ Some m) ⊎ (above ≡ Some m))
either_second below None m e = absurd cc
either_second below (Some n) m e = inr refl
