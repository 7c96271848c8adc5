-- Scopes that are entered where their objects are free.
use Rattle.std.proofs.Common.{◌≡◌, ◌⊎◌, inl, inr, ℕ, List, [], ◌∷◌, Option, Some, None, true, false, refl, subst}
use Rattle.std.specs.Prelude.{Bool, not, ◌&&◌, is_some, Contains}
use Rattle.c_syntax.specs.Types.{ObjectTree}
use Rattle.c_values.specs.Places.{ObjectMemory, place_of}
use Rattle.c_objects.specs.Opening.{open_all, shut_all}
use Rattle.c_objects.proofs.Listed.{by_head, by_sum, none_in}
use Rattle.c_objects.proofs.Places.{scopes_leave}
use Rattle.csharp.specs.States.{State}
use Rattle.csharp.specs.Actions.{are_free}

free_first : (o : Option ℕ) (b c : Bool) → not (is_some o) && not b && c ≡ true → (o ≡ None) × (c ≡ true)
free_first None true c e = absurd (cc)
free_first None false c e = (refl, e)
free_first (Some n) b c e = absurd (cc)

pub free_none : (xs : List ℕ) (s : State) (y : ℕ) → are_free xs s ≡ true → Contains xs y → place_of s.memory y ≡ None
free_none [] s y e c = absurd (none_in y c)
free_none (x ∷ xs) s y e c =
    let free = free_first (place_of s.memory x) _ (are_free xs s) e in
    by_sum (by_head x y xs c) (λ is. subst (λ z. place_of s.memory z ≡ None) is free.0) (λ d. free_none xs s y free.1 d)

-- a scope that is entered where its objects are free leaves each object where it was
pub scope_leaves : (objects : List ObjectTree) (xs : List ℕ) (s : State) (m : ObjectMemory) (y : ℕ)
    → are_free xs s ≡ true → place_of m y ≡ place_of (open_all objects s.memory xs) y → place_of (shut_all m xs) y ≡ place_of s.memory y
scope_leaves objects xs s m y free h = scopes_leave objects xs s.memory m y (λ x c. free_none xs s x free c) h
