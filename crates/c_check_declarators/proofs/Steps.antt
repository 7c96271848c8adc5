-- The type that steps make, from the outermost in.
use Rattle.std.proofs.Common.{◌≡◌, refl, ap, ℕ, Bool, List, [], ◌∷◌, ◌++◌}
use Rattle.c_syntax.specs.Types.{CTypeTree, Void, Int, Pointer, Array, Struct, Function}
use Rattle.c_syntax_written.specs.declared.place.Pos.{Pos}
use Rattle.c_typing.specs.World.{World, Form, Callable, Typed, Refused, Refusal}
use Rattle.c_typing.specs.Declarators.{Step, step_form, after_step, result_form, laid}

-- behind the outermost step, the others are laid on what it makes
pub laid_typed : (w : World) (at : Pos) (steps : List Step) (step : Step) (base form : Form) → step_form w at step base ≡ Typed form w
    → laid w at (steps ++ step ∷ []) base ≡ laid w at steps form
unfolding laid
laid_typed w at [] step base form e = e
laid_typed w at (s ∷ steps) step base form e = ap (after_step w at s) (laid_typed w at steps step base form e)

pub laid_refused : (w : World) (at : Pos) (steps : List Step) (step : Step) (base : Form) (r : Refusal) → step_form w at step base ≡ Refused r
    → laid w at (steps ++ step ∷ []) base ≡ Refused r
unfolding laid
laid_refused w at [] step base r e = e
laid_refused w at (s ∷ steps) step base r e = ap (after_step w at s) (laid_refused w at steps step base r e)

pub laid_none : (w : World) (at : Pos) (base : Form) → laid w at [] base ≡ Typed base w
unfolding laid
laid_none w at base = refl

-- a result that is no array and no struct
pub other_result : (w : World) (at : Pos) (params : List CTypeTree) (ty : CTypeTree) → ((of : CTypeTree) (c : Bool) (n : ℕ) → ty ≡ Array of c n → ⊥) → ((n : ℕ) → ty ≡ Struct n → ⊥)
    → Typed (Callable params ty) w ≡ result_form w at params ty
other_result w at params Void h k = refl
other_result w at params (Int t) h k = refl
other_result w at params (Pointer to c) h k = refl
other_result w at params (Array of c n) h k = absurd (h of c n refl)
other_result w at params (Struct n) h k = absurd (k n refl)
other_result w at params (Function n) h k = refl
