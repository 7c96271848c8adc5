-- What two clauses say of one result, and truths by cases.
use Rattle.std.specs.Prelude.{◌≡◌, Bool, true, false, refl, IsTrue, Result, Ok, Err, IfOk}

pub ok_both : {T E : Type 0} (P Q R : T → Type 0) (r : Result T E) → IfOk r P → IfOk r Q → ((t : T) → P t → Q t → R t) → IfOk r R
ok_both P Q R (Ok t) p q f = f t p q
ok_both P Q R (Err e) p q f = tt

pub true_from : (b : Bool) → (b ≡ false → ⊥) → IsTrue b
true_from true f = refl
true_from false f = absurd (f refl)
