-- What is asked of a new object does not depend on what is given where it fits.
use Rattle.std.proofs.Common.{◌≡◌, ℕ, ◌+◌, Bool, true, false}
use Rattle.std.specs.Prelude.{nat_lt}
use Rattle.c_syntax_written.specs.declared.place.Pos.{Pos}
use Rattle.c_typing.specs.World.{World, Outcome, Typed, Refused, Refusal, ObjectTooLarge, TotalTooLarge, unless}
use Rattle.c_typing.specs.Names.{within_limits, object_limit, total_limit}

typed_by : {A B : Type 0} (t u : Bool) (r s : Refusal) (a a1 : A) (b : B) (v w : World) → unless t r (unless u s (Typed a v)) ≡ Typed a1 w
    → unless t r (unless u s (Typed b v)) ≡ Typed b w
typed_by true u r s a a1 b v w e = cc
typed_by false true r s a a1 b v w e = cc
typed_by false false r s a a1 b v w e = cc

refused_by : {A B : Type 0} (t u : Bool) (r s q : Refusal) (a : A) (b : B) (v : World) → unless t r (unless u s (Typed a v)) ≡ Refused q
    → ◌≡◌ {A = Outcome B} (unless t r (unless u s (Typed b v))) (Refused q)
refused_by true u r s q a b v e = cc
refused_by false true r s q a b v e = cc
refused_by false false r s q a b v e = cc

pub limits_typed : {A B : Type 0} (at : Pos) (size : ℕ) (w v u : World) (a a1 : A) (b : B) → within_limits at size w (Typed a v) ≡ Typed a1 u
    → within_limits at size w (Typed b v) ≡ Typed b u
limits_typed at size w v u a a1 b e = typed_by (nat_lt object_limit size) (nat_lt total_limit (w.total + size)) (ObjectTooLarge at size) (TotalTooLarge at (w.total + size)) a a1 b v u e

pub limits_refused : {A B : Type 0} (at : Pos) (size : ℕ) (w v : World) (q : Refusal) (a : A) (b : B) → within_limits at size w (Typed a v) ≡ Refused q
    → ◌≡◌ {A = Outcome B} (within_limits at size w (Typed b v)) (Refused q)
limits_refused at size w v q a b e = refused_by (nat_lt object_limit size) (nat_lt total_limit (w.total + size)) (ObjectTooLarge at size) (TotalTooLarge at (w.total + size)) q a b v e

number_by : {A : Type 0} (t u : Bool) (r s : Refusal) (a a1 : A) (v w : World) → unless t r (unless u s (Typed a v)) ≡ Typed a1 w → a ≡ a1
number_by true u r s a a1 v w e = cc
number_by false true r s a a1 v w e = cc
number_by false false r s a a1 v w e = cc

-- and what is given where it fits is what was to be given
pub limits_given : {A : Type 0} (at : Pos) (size : ℕ) (w v u : World) (a a1 : A) → within_limits at size w (Typed a v) ≡ Typed a1 u → a ≡ a1
limits_given at size w v u a a1 e = number_by (nat_lt object_limit size) (nat_lt total_limit (w.total + size)) (ObjectTooLarge at size) (TotalTooLarge at (w.total + size)) a a1 v u e
