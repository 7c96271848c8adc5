-- Elements of lists, by their indices.
use Rattle.std.proofs.Common.{◌≡◌, ℕ, zero, suc, List, [], ◌∷◌, refl, ap}
use Rattle.std.specs.Prelude.{slice_get, slice_set}

pub other_element : {A : Type 0} (xs : List A) (i j : ℕ) (a : A) → (j ≡ i → ⊥) → slice_get (slice_set xs i a) j ≡ slice_get xs j
other_element [] i j a other = refl
other_element (x ∷ xs) zero zero a other = absurd (other refl)
other_element (x ∷ xs) zero (suc j) a other = refl
other_element (x ∷ xs) (suc i) zero a other = refl
other_element (x ∷ xs) (suc i) (suc j) a other = other_element xs i j a (λ e. other (ap suc e))
