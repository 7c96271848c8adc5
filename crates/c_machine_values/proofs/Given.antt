-- Arguments that are taken off the stack one by one, and parameters that are given them.
use Rattle.std.proofs.Common.{◌≡◌, ℕ, suc, List, [], ◌∷◌, Some, refl, ap}
use Rattle.std.specs.Prelude.{IsSome, option_and_then}
use Rattle.c_syntax.specs.Types.{ObjectTree}
use Rattle.block_mem.specs.declared.types.Value.{Value}
use Rattle.c_values.specs.declared.values.Given.TheVariants as givens
use Rattle.c_values.specs.Places.{ObjectMemory}
use Rattle.c_steps.specs.Calls.{all_filled, object_scalar, taken}
use Rattle.c_steps.specs.Changes.{filled}
use Rattle.c_steps.specs.States.{Held, Plain, Struct, held}
use Rattle.c_steps_laws.specs.Needs.{AreFilled}
use Rattle.c_steps_laws.specs.Shapes.{HasValue}

one_is : {A : Type 0} {x y : A} → Some x ≡ Some y → x ≡ y
one_is e = cc

-- where one more is taken, a value stands on top
pub has_value : (n : ℕ) (s : List Held) (vs : List Value) → IsSome (taken (suc n) s vs) → HasValue s
has_value n (Plain (givens.Value v) ∷ s) vs h = tt
has_value n (Plain givens.Nothing ∷ s) vs h = absurd (cc)
has_value n (Struct at v ∷ s) vs h = absurd (cc)
has_value n [] vs h = absurd (cc)

pub one_taken : (n : ℕ) (s below : List Held) (v : Value) (vs : List Value) → s ≡ held v ∷ below → taken (suc n) s vs ≡ taken n below (v ∷ vs)
one_taken n s below v vs e = ap (λ x. taken (suc n) x vs) e

-- ---- parameters

pub first_filled : (objects : List ObjectTree) (x : ℕ) (xs : List ℕ) (v : Value) (vs : List Value) (m n : ObjectMemory)
    → filled m (object_scalar objects x) x 0 v ≡ Some n → all_filled objects (x ∷ xs) (v ∷ vs) m ≡ all_filled objects xs vs n
first_filled objects x xs v vs m n e = ap (option_and_then (all_filled objects xs vs)) e

-- there are as many arguments as parameters
pub next_argument : (objects : List ObjectTree) (x : ℕ) (xs : List ℕ) (m : ObjectMemory) → AreFilled objects (x ∷ xs) [] m → ⊥
next_argument objects x xs m h = h

-- and no more arguments than parameters
pub filled_end : (objects : List ObjectTree) (vs : List Value) (m : ObjectMemory) → AreFilled objects [] vs m → all_filled objects [] vs m ≡ Some m
filled_end objects [] m h = refl
filled_end objects (v ∷ vs) m h = absurd h

pub first_of : {A B : Type 0} {x y : A × B} → Some x ≡ Some y → x.0 ≡ y.0
first_of {A} {B} e = ap (λ (p : A × B). p.0) (one_is e)
