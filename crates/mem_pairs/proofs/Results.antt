-- What holds where a call answers a value, and what is under a plain state on one side of two.
use Rattle.std.proofs.Common.{Bool, true, false}
use Rattle.std.specs.Prelude.{Option, Some, None, Result, Ok, Err, IfOk, OnOk}
use Rattle.plain_runs.specs.States.{Plain}
use Rattle.mem_api.specs.Abstract.{IsBelow}

pub if_ok : {A E : Type 0} (r : Result A E) (P : A → Type 0) → ((x : A) → P x) → IfOk r P
if_ok (Ok x) P h = h x
if_ok (Err e) P h = tt

pub if_ok_then : {A E : Type 0} (r : Result A E) (P Q : A → Type 0) → ((x : A) → P x → Q x) → IfOk r P → IfOk r Q
if_ok_then (Ok x) P Q h k = h x k
if_ok_then (Err e) P Q h k = tt

pub on_ok_then : {A E : Type 0} (r : Result A E) (P Q : Type 0) → (P → Q) → OnOk r P → OnOk r Q
on_ok_then (Ok x) P Q h k = h k
on_ok_then (Err e) P Q h k = tt

-- what a live state is below, each state is that knows as much, live or dead
pub below_also : {A B : Type 0} (U : A → Plain → Type 0) (V : B → Plain → Type 0) (a : A) (c : B) (b : Bool) (r : Option Plain) → ((p : Plain) → U a p → V c p) → IsBelow U true a r → IsBelow V b c r
below_also U V a c false r f h = tt
below_also U V a c true None f h = h
below_also U V a c true (Some p) f h = f p h
